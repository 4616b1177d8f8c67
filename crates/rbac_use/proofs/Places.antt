-- The places by which lines are ordered.
use Rattle.std.proofs.Common.{◌≡◌, ℕ, ◌+◌, ◌<◌, List, [], ◌∷◌, ◌++◌, ap, ap₂, ◌∙◌, refl, arith, append_assoc}
use Rattle.std.specs.Cmp.Lexicographic.{slice_cmp}
use Rattle.std.specs.Ordering.{nat_cmp, ordering_then}
use Rattle.std.specs.declared.cmp.Ordering.{Ordering}
use Rattle.std.specs.declared.cmp.Ordering.TheVariants.{Less}
use Rattle.std.proofs.lemmas.Cmp.{tied_itself, nat_cmp_total}
use Rattle.rbac_use.specs.declared.unused.Unused.{Unused}
use Rattle.rbac_use.specs.Adding.{AddsLines, OfFirst}
use Rattle.rbac_use.specs.Unused.{IsBefore, line_places}
use Rattle.rbac_use.proofs.Exact.{lines_more}

less_nat : (i j : ℕ) → i < j → nat_cmp i j ≡ Less
less_nat i j l = grind arith

less_first : (i j : ℕ) (xs ys : List ℕ) → i < j → slice_cmp nat_cmp (i ∷ xs) (j ∷ ys) ≡ Less
less_first i j xs ys l = ap (λ (o : Ordering). ordering_then o (slice_cmp nat_cmp xs ys)) (less_nat i j l)

same_first : (i : ℕ) (xs ys : List ℕ) → slice_cmp nat_cmp (i ∷ xs) (i ∷ ys) ≡ slice_cmp nat_cmp xs ys
same_first i xs ys = ap (λ (o : Ordering). ordering_then o (slice_cmp nat_cmp xs ys)) (tied_itself nat_cmp_total i)

-- after the same places, the lesser one comes first
less_after : (front : List ℕ) (i j : ℕ) (xs ys : List ℕ) → i < j → slice_cmp nat_cmp (front ++ i ∷ xs) (front ++ j ∷ ys) ≡ Less
less_after [] i j xs ys l = less_first i j xs ys l
less_after (k ∷ front) i j xs ys l = same_first k (front ++ i ∷ xs) (front ++ j ∷ ys) ∙ less_after front i j xs ys l

-- and nothing comes before something
nothing_first : (front : List ℕ) (j : ℕ) (ys : List ℕ) → slice_cmp nat_cmp front (front ++ j ∷ ys) ≡ Less
nothing_first [] j ys = refl
nothing_first (k ∷ front) j ys = same_first k front (front ++ j ∷ ys) ∙ nothing_first front j ys

-- the places of a line begin with these
abbrev pub BeginsAt : List ℕ → Unused → Type 0
BeginsAt front x = (rest : List ℕ) × (line_places x ≡ front ++ rest)

-- the places of lines with the property begin with these
abbrev pub StandAt : List ℕ → (Unused → Type 0) → Type 0
StandAt front P = (x : Unused) → P x → BeginsAt front x

pub before_at : (front : List ℕ) (i j : ℕ) (x y : Unused) → i < j → BeginsAt (front ++ i ∷ []) x → BeginsAt (front ++ j ∷ []) y → IsBefore x y
before_at front i j x y l a b =
    let mine : line_places x ≡ front ++ i ∷ a.0 = a.1 ∙ append_assoc front (i ∷ []) a.0 in
    let other : line_places y ≡ front ++ j ∷ b.0 = b.1 ∙ append_assoc front (j ∷ []) b.0 in
    ap₂ (λ (s : List ℕ) (t : List ℕ). slice_cmp nat_cmp s t) mine other ∙ less_after front i j a.0 b.0 l

-- a line at these very places comes before one whose places go on
pub before_longer : (front : List ℕ) (j : ℕ) (x y : Unused) → line_places x ≡ front → BeginsAt (front ++ j ∷ []) y → IsBefore x y
before_longer front j x y a b =
    let other : line_places y ≡ front ++ j ∷ b.0 = b.1 ∙ append_assoc front (j ∷ []) b.0 in
    ap₂ (λ (s : List ℕ) (t : List ℕ). slice_cmp nat_cmp s t) a other ∙ nothing_first front j b.0

-- the lines of one place more
pub more_at : (front : List ℕ) (P : ℕ → Unused → Type 0) → ((k : ℕ) → StandAt (front ++ k ∷ []) (P k)) → (i : ℕ) (old mid new : List Unused) → AddsLines (OfFirst P i) old mid → AddsLines (P i) mid new → AddsLines (OfFirst P (i + 1)) old new
more_at front P stand i old mid new p q =
    lines_more P i old mid new p q (λ k a b l h g. before_at front k i a b l (stand k a h) (stand i b g))
