-- Exact lists of lines, put together from pieces.
use Rattle.std.proofs.Common.{◌≡◌, ℕ, ◌+◌, ◌<◌, ◌≤◌, ◌⊎◌, inl, inr, List, [], ◌∷◌, ◌++◌, get_or, sym, ap, ◌∙◌, refl, subst, arith, zero, suc, append_assoc, ◌↔◌, All}
use Rattle.std.specs.Prelude.{Contains, AllPairs}
use Rattle.std.proofs.lemmas.Bool.{cases_lt}
use Rattle.std.proofs.lemmas.List.{append-nil}
use Rattle.std.proofs.lemmas.List.Elements.{All-append, Contains-append_cases, Contains-append_left, Contains-append_right, Contains-get_or}
use Rattle.std.proofs.lemmas.List.Kept.{AllPairs-cons}
use Rattle.rbac_use.specs.declared.unused.Unused.{Unused}
use Rattle.rbac_use.specs.Adding.{AddsLines, OfFirst, OfSome}
use Rattle.rbac_use.specs.Unused.{AreExactly, IsBefore}

module _ {X : Type 0} (R : X → X → Type 0) where
  head_pairs : (x : X) (xs : List X) → AllPairs R (x ∷ xs) → All (R x) xs
  head_pairs x xs p k d l = p 0 (suc k) d (omega arith) (omega (arith, l))

  tail_pairs : (x : X) (xs : List X) → AllPairs R (x ∷ xs) → AllPairs R xs
  tail_pairs x xs p i j d lt l = p (suc i) (suc j) d (omega (arith, lt)) (omega (arith, l))

  pub all_pairs_append : (xs ys : List X) → AllPairs R xs → AllPairs R ys → ((x y : X) → Contains xs x → Contains ys y → R x y) → AllPairs R (xs ++ ys)
  all_pairs_append [] ys p q cross = q
  all_pairs_append (x ∷ xs) ys p q cross =
      AllPairs-cons R x (xs ++ ys)
      (All-append (R x) xs ys (head_pairs x xs p) (λ k d l. cross x (get_or ys k d) (0, omega arith, refl) (Contains-get_or ys k d l)))
      (all_pairs_append xs ys (tail_pairs x xs p) q (λ a b c e. cross a b (suc c.0, omega (arith, c.1), c.2) e))

only_one : (x y : Unused) (k : ℕ) → k < 1 → get_or (x ∷ []) k y ≡ y → x ≡ y
only_one x y zero l e = e
only_one x y (suc k) l e = absurd (omega arith)

none_exactly : (P : Unused → Type 0) → ((x : Unused) → P x → ⊥) → AreExactly P []
none_exactly P none = record {
  ordered = λ i j d lt l. absurd (omega (arith, l));
  exact = λ x. (λ c. absurd (omega (arith, c.1)), λ p. absurd (none x p));
}

one_exactly : (P : Unused → Type 0) (x : Unused) → P x → ((y : Unused) → P y → y ≡ x) → AreExactly P (x ∷ [])
one_exactly P x p one = record {
  ordered = λ i j d lt l. absurd (omega (arith, l, lt));
  exact = λ y. (λ c. subst P (only_one x y c.0 c.1 c.2) p, λ q. (0, omega arith, sym (one y q)));
}

append_exactly : (P Q R : Unused → Type 0) (xs ys : List Unused) → AreExactly P xs → AreExactly Q ys → ((a b : Unused) → P a → Q b → IsBefore a b) → ((x : Unused) → R x ↔ (P x ⊎ Q x)) → AreExactly R (xs ++ ys)
append_exactly P Q R xs ys p q before parts = record {
  ordered = all_pairs_append IsBefore xs ys p.ordered q.ordered (λ a b c d. before a b ((p.exact a).0 c) ((q.exact b).0 d));
  exact = λ x. (
    λ c. (parts x).1 (elim (Contains-append_cases xs ys x c) [ inl l ↦ inl ((p.exact x).0 l) | inr r ↦ inr ((q.exact x).0 r) ]),
    λ r. elim ((parts x).0 r) [ inl l ↦ Contains-append_left xs ys x ((p.exact x).1 l) | inr d ↦ Contains-append_right xs ys x ((q.exact x).1 d) ],
  );
}

same_exactly : (P Q : Unused → Type 0) (xs : List Unused) → AreExactly P xs → ((x : Unused) → Q x ↔ P x) → AreExactly Q xs
same_exactly P Q xs p same = record {
  ordered = p.ordered;
  exact = λ x. (λ c. (same x).1 ((p.exact x).0 c), λ q. (p.exact x).1 ((same x).0 q));
}

pub lines_none : (P : Unused → Type 0) (old : List Unused) → ((x : Unused) → P x → ⊥) → AddsLines P old old
unfolding AddsLines
lines_none P old none = ([], none_exactly P none, sym (append-nil old))

pub lines_one : (P : Unused → Type 0) (old new : List Unused) (x : Unused) → new ≡ old ++ x ∷ [] → P x → ((y : Unused) → P y → y ≡ x) → AddsLines P old new
unfolding AddsLines
lines_one P old new x e p one = (x ∷ [], one_exactly P x p one, e)

pub lines_append : (P Q R : Unused → Type 0) (old mid new : List Unused) → AddsLines P old mid → AddsLines Q mid new → ((a b : Unused) → P a → Q b → IsBefore a b) → ((x : Unused) → R x ↔ (P x ⊎ Q x)) → AddsLines R old new
unfolding AddsLines
lines_append P Q R old mid new p q before parts = (
  p.0 ++ q.0,
  append_exactly P Q R p.0 q.0 p.1 q.1 before parts,
  q.2 ∙ ap (λ (t : List Unused). t ++ q.0) p.2 ∙ append_assoc old p.0 q.0,
)

pub lines_same : (P Q : Unused → Type 0) (old new : List Unused) → AddsLines P old new → ((x : Unused) → Q x ↔ P x) → AddsLines Q old new
unfolding AddsLines
lines_same P Q old new p same = (p.0, same_exactly P Q p.0 p.1 same, p.2)

-- one line, if a condition holds
pub line_if : (C : Type 0) (line : Unused) (old new : List Unused) → C → new ≡ old ++ line ∷ [] → AddsLines (λ x. (x ≡ line) × C) old new
line_if C line old new is e = lines_one (λ x. (x ≡ line) × C) old new line e (refl, is) (λ y h. h.0)

pub line_unless : (C : Type 0) (line : Unused) (old : List Unused) → (C → ⊥) → AddsLines (λ x. (x ≡ line) × C) old old
line_unless C line old not = lines_none (λ x. (x ≡ line) × C) old (λ x h. not h.1)

-- ---- the lines of one place after another

module _ (P : ℕ → Unused → Type 0) where
  at_place : (k i : ℕ) (x : Unused) → k ≡ i → P k x → P i x
  at_place k i x e p = subst (λ (n : ℕ). P n x) e p

  one_more : (i : ℕ) (x : Unused) → OfFirst P (i + 1) x ↔ (OfFirst P i x ⊎ P i x)
  one_more i x = (
    λ h. elim (cases_lt h.0 i) [
      | inl lt ↦ inl (h.0, lt, h.2)
      | inr le ↦ inr (at_place h.0 i x (omega (arith, le, h.1)) h.2)
    ],
    λ s. elim s [
      | inl h ↦ (h.0, omega (arith, h.1), h.2)
      | inr p ↦ (i, omega arith, p)
    ],
  )

  pub lines_start : (old : List Unused) → AddsLines (OfFirst P 0) old old
  lines_start old = lines_none (OfFirst P 0) old (λ x h. omega (arith, h.1))

  pub lines_more : (i : ℕ) (old mid new : List Unused) → AddsLines (OfFirst P i) old mid → AddsLines (P i) mid new → ((k : ℕ) (a b : Unused) → k < i → P k a → P i b → IsBefore a b) → AddsLines (OfFirst P (i + 1)) old new
  lines_more i old mid new p q before =
      lines_append (OfFirst P i) (P i) (OfFirst P (i + 1)) old mid new p q (λ a b h g. before h.0 a b h.1 h.2 g) (λ x. one_more i x)

  pub lines_some : (n i : ℕ) (old new : List Unused) → n ≤ i → ((k : ℕ) (x : Unused) → P k x → k < n) → AddsLines (OfFirst P i) old new → AddsLines (OfSome P) old new
  lines_some n i old new le within p =
      lines_same (OfFirst P i) (OfSome P) old new p (λ x. (
        λ h. (h.0, omega (arith, within h.0 x h.1, le), h.1),
        λ h. (h.0, h.2),
      ))

-- ---- from nothing

pub added_alone : (P : Unused → Type 0) (new : List Unused) → AddsLines P [] new → AreExactly P new
unfolding AddsLines
added_alone P new h = subst (AreExactly P) (sym h.2) h.1
