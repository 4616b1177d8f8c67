-- sets of the roles whose labels have a property
use Rattle.std.proofs.Common.{◌≡◌, ℕ, ◌<◌, ◌⊎◌, ◌↔◌, List, [], ◌∷◌, ◌++◌, length, Any, All, Contains, inl, inr, sym, ap, ◌∙◌, refl, arith, subst, take, drop, length-append}
use Rattle.std.specs.Prelude.{Some, slice_get}
use Rattle.std.proofs.lemmas.Bool.{cases_lt}
use Rattle.std.proofs.lemmas.List.{get_or_at, take-append-drop}
use Rattle.std.proofs.Math.ListN.{get_or-append}
use Rattle.std.proofs.lemmas.List.Elements.{All-push, Contains-push, Contains-push_cases, Contains-append_left}
use Rattle.std.proofs.lemmas.List.Quantifiers.{Any-push}
use Rattle.std.proofs.lemmas.Option.{same_Some, slice_get_within, slice_get_cases}
use Rattle.rbac_terms.specs.Text.{Text}
use Rattle.rbac_terms.specs.Selecting.{LabelTexts, HasLabel, HasOneOf}
use Rattle.rbac_terms.specs.declared.granting.ClusterRole.{ClusterRole}
use Rattle.rbac_model.specs.Graphs.{HasPlace}
use Rattle.rbac_model.specs.Labelled.{IsWithAt, AreWith, HasSome}
use Rattle.rbac_model.proofs.PlaceSets.{has_none}

-- one element more
pub any_push : {X : Type 0} (P : X → Type 0) (xs : List X) (y : X) → Any P (xs ++ y ∷ []) ↔ (Any P xs ⊎ P y)
any_push P xs y = (
  λ w. elim (cases_lt w.0 (length xs)) [
    | inl l ↦ inl (w.0, w.1, l, sym (get_or-append xs (y ∷ []) w.1 w.0 l) ∙ w.3, w.4)
    | inr ge ↦
        let at : length xs ≡ w.0 = omega (arith, length-append xs (y ∷ []), w.2, ge) in
        let same : w.1 ≡ y = sym w.3 ∙ get_or_at xs y [] w.1 w.0 at in
        inr (subst P same w.4)
  ],
  λ w. elim w [
    | inl v ↦ (v.0, v.1, omega (arith, v.2, length-append xs (y ∷ [])), get_or-append xs (y ∷ []) v.1 v.0 v.2 ∙ v.3, v.4)
    | inr p ↦ Any-push P xs y p
  ],
)

pub any_take : {X : Type 0} (P : X → Type 0) (n : ℕ) (xs : List X) → Any P (take n xs) → Any P xs
any_take {X} P n xs w =
    let left = take n xs in
    let right = drop n xs in
    subst (λ (all : List X). Any P all) (take-append-drop n xs) (w.0, w.1, omega (arith, w.2, length-append left right), get_or-append left right w.1 w.0 w.2 ∙ w.3, w.4)

pub none_any : {X : Type 0} (P : X → Type 0) → Any P [] → ⊥
none_any P w = absurd (omega (arith, w.2))

pub all_push : {X : Type 0} (P : X → Type 0) (xs : List X) (y : X) → All P (xs ++ y ∷ []) ↔ (All P xs × P y)
all_push P xs y = (
  λ h. (
    λ k d l. subst P (get_or-append xs (y ∷ []) d k l) (h k d (omega (arith, l, length-append xs (y ∷ [])))),
    subst P (get_or_at xs y [] y (length xs) refl) (h (length xs) y (omega (arith, length-append xs (y ∷ [])))),
  ),
  λ w. All-push P xs y w.0 w.1,
)

-- the property of the role at a place
same_role : (P : LabelTexts → Type 0) (roles : List ClusterRole) (k : ℕ) (r : ClusterRole) → slice_get roles k ≡ Some r → IsWithAt P roles k → P r.labels
same_role P roles k r read w = subst (λ (s : ClusterRole). P s.labels) (same_Some w.0 r (sym w.1 ∙ read)) w.2

module _ (roles : List ClusterRole) where
  pub with_both : (P Q R : LabelTexts → Type 0) (a b c : List ℕ) → ((k : ℕ) → HasPlace c k ↔ (HasPlace a k × HasPlace b k)) → AreWith P roles a → AreWith Q roles b → ((ls : LabelTexts) → R ls ↔ (P ls × Q ls)) → AreWith R roles c
  with_both P Q R a b c both first second are k = (
    λ m.
        let w = (both k).0 m in
        let p = (first k).0 w.0 in
        (p.0, p.1, (are p.0.labels).1 (p.2, same_role Q roles k p.0 p.1 ((second k).0 w.1))),
    λ w.
        let pq = (are w.0.labels).0 w.2 in
        (both k).1 ((first k).1 (w.0, w.1, pq.0), (second k).1 (w.0, w.1, pq.1)),
  )

  pub with_either : (P Q R : LabelTexts → Type 0) (a c : List ℕ) → ((k : ℕ) → HasPlace c k ↔ (HasPlace a k ⊎ IsWithAt Q roles k)) → AreWith P roles a → ((ls : LabelTexts) → R ls ↔ (P ls ⊎ Q ls)) → AreWith R roles c
  with_either P Q R a c either first are k = (
    λ m. elim ((either k).0 m) [
      | inl v ↦ let p = (first k).0 v in (p.0, p.1, (are p.0.labels).1 (inl p.2))
      | inr q ↦ (q.0, q.1, (are q.0.labels).1 (inr q.2))
    ],
    λ w. (either k).1 (elim ((are w.0.labels).0 w.2) [
      | inl p ↦ inl ((first k).1 (w.0, w.1, p))
      | inr q ↦ inr (w.0, w.1, q)
    ]),
  )

  pub with_added : (Q : LabelTexts → Type 0) (a b c : List ℕ) → ((k : ℕ) → HasPlace c k ↔ (HasPlace a k ⊎ HasPlace b k)) → AreWith Q roles b → (k : ℕ) → HasPlace c k ↔ (HasPlace a k ⊎ IsWithAt Q roles k)
  with_added Q a b c either second k = (
    λ m. elim ((either k).0 m) [ inl v ↦ inl v | inr v ↦ inr ((second k).0 v) ],
    λ w. (either k).1 (elim w [ inl v ↦ inl v | inr q ↦ inr ((second k).1 q) ]),
  )

  pub with_others : (P : LabelTexts → Type 0) (a b : List ℕ) → ((k : ℕ) → HasPlace b k ↔ ((k < length roles) × (HasPlace a k → ⊥))) → AreWith P roles a → AreWith (λ ls. P ls → ⊥) roles b
  with_others P a b others are k = (
    λ m.
        let w = (others k).0 m in
        elim ((slice_get_cases roles k).1) [
          | inl v ↦ (v.0, v.2, λ p. w.1 ((are k).1 (v.0, v.2, p)))
          | inr v ↦ absurd (omega (arith, w.0, v.0))
        ],
    λ w. (others k).1 (slice_get_within roles k w.0 w.1, λ m. w.2 (same_role P roles k w.0 w.1 ((are k).0 m))),
  )

  pub with_everyone : (P : LabelTexts → Type 0) (a : List ℕ) → ((k : ℕ) → HasPlace a k ↔ (k < length roles)) → ((ls : LabelTexts) → P ls) → AreWith P roles a
  with_everyone P a all holds k = (
    λ m. elim ((slice_get_cases roles k).1) [
      | inl v ↦ (v.0, v.2, holds v.0.labels)
      | inr v ↦ absurd (omega (arith, (all k).0 m, v.0))
    ],
    λ w. (all k).1 (slice_get_within roles k w.0 w.1),
  )

  pub with_all : (P Q : LabelTexts → Type 0) (a : List ℕ) → ((k : ℕ) → k < length roles → HasPlace a k) → AreWith P roles a → ((ls : LabelTexts) → P ls → Q ls) → AreWith Q roles a
  with_all P Q a all are more k = (
    λ m. let w = (are k).0 m in (w.0, w.1, more w.0.labels w.2),
    λ w. all k (slice_get_within roles k w.0 w.1),
  )

  pub with_nobody : (P : LabelTexts → Type 0) → ((ls : LabelTexts) → P ls → ⊥) → AreWith P roles []
  with_nobody P none k = (λ m. absurd (has_none k m), λ w. absurd (none w.0.labels w.2))

  pub with_same : (P Q : LabelTexts → Type 0) (a : List ℕ) → ((ls : LabelTexts) → P ls ↔ Q ls) → AreWith P roles a → AreWith Q roles a
  with_same P Q a same are k = (
    λ m. let w = (are k).0 m in (w.0, w.1, (same w.0.labels).0 w.2),
    λ w. (are k).1 (w.0, w.1, (same w.0.labels).1 w.2),
  )

  pub with_first : (Q : LabelTexts → Type 0) (c : List ℕ) → ((k : ℕ) → HasPlace c k ↔ (HasPlace [] k ⊎ IsWithAt Q roles k)) → AreWith Q roles c
  with_first Q c either k = (
    λ m. elim ((either k).0 m) [ inl v ↦ absurd (has_none k v) | inr q ↦ q ],
    λ w. (either k).1 (inr w),
  )

-- one value more
pub one_of_push : (labels : LabelTexts) (key : Text) (values : List Text) (v : Text) → HasOneOf labels key (values ++ v ∷ []) ↔ (HasOneOf labels key values ⊎ HasSome labels key (Some v))
unfolding HasLabel
one_of_push labels key values v = (
  λ w. elim (Contains-push_cases values v w.1.1 w.4.1) [
    | inl c ↦ inl (w.0, w.1, w.2, w.3, (w.4.0, c))
    | inr e ↦
        let same : w.1 ≡ (key, v) = ap (λ (t : Text). (t, w.1.1)) w.4.0 ∙ ap (λ (t : Text). (key, t)) (sym e) in
        inr (subst (λ (l : Text × Text). Contains labels l) same (w.0, w.2, w.3))
  ],
  λ w. elim w [
    | inl h ↦ (h.0, h.1, h.2, h.3, (h.4.0, Contains-append_left values (v ∷ []) h.1.1 h.4.1))
    | inr c ↦ (c.0, (key, v), c.1, c.2, (refl, Contains-push values v))
  ],
)

pub none_one_of : (labels : LabelTexts) (key : Text) → HasOneOf labels key [] → ⊥
none_one_of labels key w = absurd (omega (arith, w.4.1.1))
