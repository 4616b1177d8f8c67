-- exact lists of lines, put together from pieces
use Rattle.std.proofs.Common.{◌≡◌, ℕ, ◌+◌, ◌<◌, ◌⊎◌, inl, inr, List, [], ◌∷◌, ◌++◌, get_or, length, map, sym, ap, ◌∙◌, refl, subst, arith, zero, suc, append_assoc, ◌↔◌, All}
use Rattle.std.specs.Prelude.{Some, Contains, AllPairs, slice_get}
use Rattle.std.proofs.lemmas.Bool.{cases_lt}
use Rattle.std.proofs.lemmas.List.{append-nil, map-append}
use Rattle.std.proofs.lemmas.Option.{slice_get_within}
use Rattle.std.proofs.lemmas.List.Elements.{All-append, Contains-append_cases, Contains-append_left, Contains-append_right, Contains-get_or}
use Rattle.std.proofs.lemmas.List.Kept.{AllPairs-cons}
use Rattle.rbac_lint.specs.declared.finding.Finding.{Finding}
use Rattle.rbac_lint.specs.Lines.{Line, shown, IsLineBefore, AreExactly, AddsLines, AreShown, OfFirst, OfEach}

module _ {X : Type 0} (R : X → X → Type 0) where
  head_pairs : (x : X) (xs : List X) → AllPairs R (x ∷ xs) → All (R x) xs
  head_pairs x xs p k d l = p 0 (suc k) d (omega arith) (omega (arith, l))

  tail_pairs : (x : X) (xs : List X) → AllPairs R (x ∷ xs) → AllPairs R xs
  tail_pairs x xs p i j d lt l = p (suc i) (suc j) d (omega (arith, lt)) (omega (arith, l))

  pub all_pairs_append : (xs ys : List X) → AllPairs R xs → AllPairs R ys → ((x y : X) → Contains xs x → Contains ys y → R x y) → AllPairs R (xs ++ ys)
  all_pairs_append [] ys p q cross = q
  all_pairs_append (x ∷ xs) ys p q cross =
      AllPairs-cons R x (xs ++ ys)
      (All-append (R x) xs ys (head_pairs x xs p) (λ k d l. cross x (get_or ys k d) (0, omega arith, refl) (Contains-get_or ys k d l)))
      (all_pairs_append xs ys (tail_pairs x xs p) q (λ a b c e. cross a b (suc c.0, omega (arith, c.1), c.2) e))

only_one : (x y : Line) (k : ℕ) → k < 1 → get_or (x ∷ []) k y ≡ y → x ≡ y
only_one x y zero l e = e
only_one x y (suc k) l e = absurd (omega arith)

none_exactly : (P : Line → Type 0) → ((x : Line) → P x → ⊥) → AreExactly P []
none_exactly P none = record {
  ordered = λ i j d lt l. absurd (omega (arith, l));
  exact = λ x. (λ c. absurd (omega (arith, c.1)), λ p. absurd (none x p));
}

one_exactly : (P : Line → Type 0) (x : Line) → P x → ((y : Line) → P y → y ≡ x) → AreExactly P (x ∷ [])
one_exactly P x p one = record {
  ordered = λ i j d lt l. absurd (omega (arith, l, lt));
  exact = λ y. (λ c. subst P (only_one x y c.0 c.1 c.2) p, λ q. (0, omega arith, sym (one y q)));
}

append_exactly : (P Q R : Line → Type 0) (xs ys : List Line) → AreExactly P xs → AreExactly Q ys → ((a b : Line) → P a → Q b → IsLineBefore a b) → ((x : Line) → R x ↔ (P x ⊎ Q x)) → AreExactly R (xs ++ ys)
append_exactly P Q R xs ys p q before parts = record {
  ordered = all_pairs_append IsLineBefore xs ys p.ordered q.ordered (λ a b c d. before a b ((p.exact a).0 c) ((q.exact b).0 d));
  exact = λ x. (
    λ c. (parts x).1 (elim (Contains-append_cases xs ys x c) [ inl l ↦ inl ((p.exact x).0 l) | inr r ↦ inr ((q.exact x).0 r) ]),
    λ r. elim ((parts x).0 r) [ inl l ↦ Contains-append_left xs ys x ((p.exact x).1 l) | inr d ↦ Contains-append_right xs ys x ((q.exact x).1 d) ],
  );
}

same_exactly : (P Q : Line → Type 0) (xs : List Line) → AreExactly P xs → ((x : Line) → Q x ↔ P x) → AreExactly Q xs
same_exactly P Q xs p same = record {
  ordered = p.ordered;
  exact = λ x. (λ c. (same x).1 ((p.exact x).0 c), λ q. (p.exact x).1 ((same x).0 q));
}

pub AddsLines-none : (P : Line → Type 0) (old : List Finding) → ((x : Line) → P x → ⊥) → AddsLines P old old
unfolding AddsLines
AddsLines-none P old none = ([], none_exactly P none, sym (append-nil old))

pub AddsLines-one : (P : Line → Type 0) (old new : List Finding) (f : Finding) (x : Line) → new ≡ old ++ f ∷ [] → f ≡ shown x → P x → ((y : Line) → P y → y ≡ x) → AddsLines P old new
unfolding AddsLines
AddsLines-one P old new f x e same p one = (x ∷ [], one_exactly P x p one, e ∙ ap (λ g. old ++ g ∷ []) same)

pub AddsLines-append : (P Q R : Line → Type 0) (old mid new : List Finding) → AddsLines P old mid → AddsLines Q mid new → ((a b : Line) → P a → Q b → IsLineBefore a b) → ((x : Line) → R x ↔ (P x ⊎ Q x)) → AddsLines R old new
unfolding AddsLines
AddsLines-append P Q R old mid new p q before parts = (
  p.0 ++ q.0,
  append_exactly P Q R p.0 q.0 p.1 q.1 before parts,
  q.2 ∙ ap (λ t. t ++ map shown q.0) p.2 ∙ append_assoc old (map shown p.0) (map shown q.0) ∙ ap (λ t. old ++ t) (sym (map-append shown p.0 q.0)),
)

pub AddsLines-same : (P Q : Line → Type 0) (old new : List Finding) → AddsLines P old new → ((x : Line) → Q x ↔ P x) → AddsLines Q old new
unfolding AddsLines
AddsLines-same P Q old new p same = (p.0, same_exactly P Q p.0 p.1 same, p.2)

module _ {X : Type 0} (P : ℕ → X → Line → Type 0) (xs : List X) where
  at_place : (k i : ℕ) (z y : X) (x : Line) → k ≡ i → slice_get xs k ≡ Some z → slice_get xs i ≡ Some y → P k z x → P i y x
  at_place k i z y x e f g p =
      let same : z ≡ y = cc in
      let A : ℕ → Type 0 = λ n. P n z x in
      let B : X → Type 0 = λ w. P i w x in
      subst B same (subst A e p)

  one_more : (i : ℕ) (y : X) → slice_get xs i ≡ Some y → (x : Line) → OfFirst P xs (i + 1) x ↔ (OfFirst P xs i x ⊎ P i y x)
  one_more i y e x = (
    λ h. elim (cases_lt h.0 i) [
      | inl lt ↦ inl (h.0, h.1, lt, h.3, h.4)
      | inr le ↦ inr (let same : h.0 ≡ i = omega (arith, le, h.2) in at_place h.0 i h.1 y x same h.3 e h.4)
    ],
    λ s. elim s [
      | inl h ↦ (h.0, h.1, omega (arith, h.2), h.3, h.4)
      | inr p ↦ (i, y, omega arith, e, p)
    ],
  )

  pub AddsLines-start : (old : List Finding) → AddsLines (OfFirst P xs 0) old old
  AddsLines-start old = AddsLines-none (OfFirst P xs 0) old (λ x h. omega (arith, h.2))

  pub AddsLines-more : (i : ℕ) (y : X) (old mid new : List Finding) → slice_get xs i ≡ Some y → AddsLines (OfFirst P xs i) old mid → AddsLines (P i y) mid new → ((k : ℕ) (z : X) (a b : Line) → k < i → slice_get xs k ≡ Some z → P k z a → P i y b → IsLineBefore a b) → AddsLines (OfFirst P xs (i + 1)) old new
  AddsLines-more i y old mid new e p q before =
      AddsLines-append (OfFirst P xs i) (P i y) (OfFirst P xs (i + 1)) old mid new p q (λ a b h g. before h.0 h.1 a b h.2 h.3 h.4 g) (one_more i y e)

  pub AddsLines-each : (n : ℕ) (old new : List Finding) → n ≡ length xs → AddsLines (OfFirst P xs n) old new → AddsLines (OfEach P xs) old new
  AddsLines-each n old new e p =
      AddsLines-same (OfFirst P xs n) (OfEach P xs) old new p (λ x. (
        λ h. (h.0, h.1, omega (arith, e, slice_get_within xs h.0 h.1 h.2), h.2, h.3),
        λ h. (h.0, h.1, h.3, h.4),
      ))

-- one code before all later ones, under a condition on the lines
pub AddsLines-code : (W P Q : Line → Type 0) (n : ℕ) (old mid new : List Finding) → ((x : Line) → P x → x.code ≡ n) → ((x : Line) → Q x → n < x.code) → AddsLines (λ x. P x × W x) old mid → AddsLines (λ x. Q x × W x) mid new → AddsLines (λ x. (P x ⊎ Q x) × W x) old new
AddsLines-code W P Q n old mid new f g p q =
    AddsLines-append (λ x. P x × W x) (λ x. Q x × W x) (λ x. (P x ⊎ Q x) × W x) old mid new p q (λ a b h k. inl (omega (arith, f a h.0, g b k.0))) (λ x. (
      λ h. elim h.0 [ inl l ↦ inl (l, h.1) | inr r ↦ inr (r, h.1) ],
      λ h. elim h [ inl l ↦ (inl l.0, l.1) | inr r ↦ (inr r.0, r.1) ],
    ))

pub AreShown-all : (P : Line → Type 0) (new : List Finding) → AddsLines P [] new → AreShown P new
unfolding AddsLines AreShown
AreShown-all P new h = h

pub AreShown-same : (P Q : Line → Type 0) (found : List Finding) → AreShown P found → ((x : Line) → Q x ↔ P x) → AreShown Q found
unfolding AreShown
AreShown-same P Q found p same = (p.0, same_exactly P Q p.0 p.1 same, p.2)

-- lines under a condition: all of them, or none
pub AddsLines-nowhere : (C : Type 0) (P : Line → Type 0) (old : List Finding) → (C → ⊥) → AddsLines (λ x. C × P x) old old
AddsLines-nowhere C P old other = AddsLines-none (λ x. C × P x) old (λ x h. other h.0)

pub AddsLines-where : (C : Type 0) (P : Line → Type 0) (old new : List Finding) → C → AddsLines P old new → AddsLines (λ x. C × P x) old new
AddsLines-where C P old new is p = AddsLines-same P (λ x. C × P x) old new p (λ x. (λ h. h.1, λ h. (is, h)))

-- one line under a condition
pub AddsLines-if : (C : Type 0) (line : Line) (old new : List Finding) (f : Finding) → C → f ≡ shown line → new ≡ old ++ f ∷ [] → AddsLines (λ x. C × (x ≡ line)) old new
AddsLines-if C line old new f is same e = AddsLines-where C (λ x. x ≡ line) old new is (AddsLines-one (λ x. x ≡ line) old new f line e same refl (λ y h. h))
