-- Lists that one element more is pushed to, and lists in order.
use Rattle.std.proofs.Common.{◌≡◌, ◌≢◌, ◌⊎◌, ◌↔◌, ◌∙◌, ◌<◌, ◌+◌, ◌-◌, ◌++◌, ◌∷◌, [], ℕ, All, Any, Contains, List, ap, arith, drop, false, get_or, inl, inr, length, refl, set, subst, suc, sym, take, take_all, true, zero}
use Rattle.std.specs.Prelude.{AllPairs, bytes_eq}
use Rattle.std.proofs.lemmas.Bool.{cases_Bool}
use Rattle.std.proofs.lemmas.List.{drop_all, get_or_append_left, get_or_push, length-append, set_split, take-append-drop, take_more}
use Rattle.std.proofs.lemmas.List.Elements.{Contains-append_left, Contains-get_or, Contains-push, Contains-push_cases}
use Rattle.std.proofs.lemmas.Slice.Eq.{bytes_eq-Decides}
use Rattle.rbac_terms.specs.Text.{Text}
use Rattle.rbac_model.proofs.OneList.{one_list}
use Rattle.rbac_model.proofs.OwnWords.{any_from}
use Rattle.rbac_use.specs.Grouping.{AreWords}
use Rattle.rbac_use.proofs.Exact.{all_pairs_append}

pub taken_more : {X : Type 0} (xs : List X) (i : ℕ) (x : X) → i < length xs → x ≡ get_or xs i x → take (i + 1) xs ≡ take i xs ++ x ∷ []
taken_more {X} xs i x low is = take_more xs i x low ∙ ap (λ (y : X). take i xs ++ y ∷ []) (sym is)

pub contains_pushed : {X : Type 0} (xs : List X) (y x : X) → Contains (xs ++ y ∷ []) x ↔ (Contains xs x ⊎ (y ≡ x))
contains_pushed {X} xs y x = (
  λ c. Contains-push_cases xs y x c,
  λ d. elim d [
    | inl c ↦ Contains-append_left xs (y ∷ []) x c
    | inr e ↦ subst (λ (z : X). Contains (xs ++ y ∷ []) z) e (Contains-push xs y)
  ],
)

pub any_pushed : {X : Type 0} (P : X → Type 0) (xs : List X) (y : X) → Any P (xs ++ y ∷ []) ↔ (Any P xs ⊎ P y)
any_pushed {X} P xs y = (
  λ w. elim (Contains-push_cases xs y w.1 (w.0, w.2, w.3)) [
    | inl c ↦ inl (any_from P xs w.1 c w.4)
    | inr e ↦ inr (subst P (sym e) w.4)
  ],
  λ d. elim d [
    | inl w ↦ any_from P (xs ++ y ∷ []) w.1 (Contains-append_left xs (y ∷ []) w.1 (w.0, w.2, w.3)) w.4
    | inr h ↦ any_from P (xs ++ y ∷ []) y (Contains-push xs y) h
  ],
)

-- what there is after one element more
pub one_step : {X : Type 0} (P : X → Type 0) (done : List X) (x : X) (Old New : Type 0) → (Old ↔ Any P done) → (New ↔ (Old ⊎ P x)) → New ↔ Any P (done ++ x ∷ [])
one_step P done x Old New before adds =
    let more = any_pushed P done x in (
      λ n. more.1 (elim (adds.0 n) [ inl o ↦ inl (before.0 o) | inr h ↦ inr h ]),
      λ w. adds.1 (elim (more.0 w) [ inl a ↦ inl (before.1 a) | inr h ↦ inr h ]),
    )

pub only_at : {X : Type 0} (x y : X) (k : ℕ) → k < 1 → get_or (x ∷ []) k y ≡ y → x ≡ y
only_at x y zero low e = e
only_at x y (suc k) low e = absurd (omega arith)

pub only_one : {X : Type 0} (x y : X) → Contains (x ∷ []) y → x ≡ y
only_one x y c = only_at x y c.0 c.1 c.2

pub alone : {X : Type 0} (x : X) → Contains (x ∷ []) x
alone x = (0, omega arith, refl)

pub not_empty : {X : Type 0} (xs : List X) (x : X) → xs ++ x ∷ [] ≢ []
not_empty xs x e = (let c = Contains-push xs x in omega (arith, c.1, ap length e))

pub all_from : {X : Type 0} (P : X → Type 0) (xs : List X) → ((x : X) → Contains xs x → P x) → All P xs
all_from P xs each k d low = each (get_or xs k d) (Contains-get_or xs k d low)

pub a_word : (words : List Text) → words ≢ [] → (w : Text) × Contains words w
a_word [] not = absurd (not refl)
a_word (w ∷ words) not = (w, (0, omega arith, refl))

-- the last element, as a read shows it
module _ {X : Type 0} (xs : List X) (i : ℕ) (last : length xs ≡ i + 1) where
  pub cut_last : (x : X) → x ≡ get_or xs i x → xs ≡ take i xs ++ x ∷ []
  cut_last x is = sym (take_all (i + 1) xs (omega (arith, last))) ∙ taken_more xs i x (omega (arith, last)) is

  pub set_last : (x : X) → set xs i x ≡ take i xs ++ x ∷ []
  set_last x = set_split xs i x (omega (arith, last)) ∙ ap (λ (ys : List X). take i xs ++ x ∷ ys) (drop_all (suc i) xs (omega (arith, last)))

-- ---- lists in order

module _ {X : Type 0} (R : X → X → Type 0) where
  pub one_in_order : (x : X) → AllPairs R (x ∷ [])
  one_in_order x i j d lt low = absurd (omega (arith, lt, low))

  pub pairs_pushed : (xs : List X) (y : X) → AllPairs R xs → ((x : X) → Contains xs x → R x y) → AllPairs R (xs ++ y ∷ [])
  pairs_pushed xs y up before = all_pairs_append R xs (y ∷ []) up (one_in_order y) (λ a b c e. subst (R a) (only_one y b e) (before a c))

  pub before_last : (xs : List X) (y : X) → AllPairs R (xs ++ y ∷ []) → (x : X) → Contains xs x → R x y
  before_last xs y up x c =
      let both : R (get_or (xs ++ y ∷ []) c.0 x) (get_or (xs ++ y ∷ []) (length xs) x) = up c.0 (length xs) x c.1 (omega (arith, length-append xs (y ∷ []))) in
      let first : get_or (xs ++ y ∷ []) c.0 x ≡ x = get_or_append_left xs (y ∷ []) x c.0 c.1 ∙ c.2 in
      subst (R x) (get_or_push xs y x (length xs) refl) (subst (λ (z : X). R z (get_or (xs ++ y ∷ []) (length xs) x)) first both)

  pub front_pairs : (xs ys : List X) → AllPairs R (xs ++ ys) → AllPairs R xs
  front_pairs xs ys up i j d lt low =
      let both : R (get_or (xs ++ ys) i d) (get_or (xs ++ ys) j d) = up i j d lt (omega (arith, low, length-append xs ys)) in
      let one : get_or (xs ++ ys) i d ≡ get_or xs i d = get_or_append_left xs ys d i (omega (arith, lt, low)) in
      subst (R (get_or xs i d)) (get_or_append_left xs ys d j low) (subst (λ (z : X). R z (get_or (xs ++ ys) j d)) one both)

  pub first_pairs : (xs : List X) (n : ℕ) → AllPairs R xs → AllPairs R (take n xs)
  first_pairs xs n up = front_pairs (take n xs) (drop n xs) (subst (AllPairs R) (sym (take-append-drop n xs)) up)

-- words in order are one list, by which they are
pub one_words : (xs ys : List Text) → AreWords xs → AreWords ys → ((w : Text) → Contains xs w ↔ Contains ys w) → xs ≡ ys
one_words xs ys a b same =
    one_list (λ (w : Text). w ∷ []) xs ys (λ i j d lt low. rw (a.ordered i j d lt low) refl) (λ i j d lt low. rw (b.ordered i j d lt low) refl) (λ w. (same w).0) (λ w. (same w).1)

by_answer : (a b : Text) → (bytes_eq a b ≡ true) ⊎ (bytes_eq a b ≡ false) → (a ≡ b) ⊎ (a ≢ b)
by_answer a b (inl e) = inl ((bytes_eq-Decides a b).0 e)
by_answer a b (inr e) = inr (λ same. (let both : true ≡ false = sym ((bytes_eq-Decides a b).1 same) ∙ e in cc))

-- texts are the same, or aren't
pub cases_text : (a b : Text) → (a ≡ b) ⊎ (a ≢ b)
cases_text a b = by_answer a b (cases_Bool (bytes_eq a b))
