-- the rules that somebody has by grants are one list, which passes over the grants whose rules they don't have
use Rattle.std.proofs.Common.{◌≡◌, ◌∙◌, ℕ, ◌+◌, ◌-◌, ◌<◌, ◌≤◌, List, [], ◌∷◌, inl, inr, sym, ap, ap₂, subst, refl, arith, zero, suc, length, slice_get, add-one, drop, get_or}
use Rattle.std.specs.Prelude.{Some, ◌↔◌}
use Rattle.std.proofs.Math.Seq.{drop-cons}
use Rattle.std.proofs.lemmas.Bool.{cases_order}
use Rattle.std.proofs.lemmas.List.{drop_all}
use Rattle.std.proofs.lemmas.Option.{same_Some, slice_get_within, get_or_from_slice_get}
use Rattle.rbac_terms.specs.Principals.{Who}
use Rattle.rbac_terms.specs.Granting.{Names}
use Rattle.rbac_terms.specs.declared.granting.Subject.{Subject}
use Rattle.rbac_terms.proofs.Reading.{read_some}
use Rattle.rbac_model.specs.Lists.{IsFirstAt}
use Rattle.rbac_model.specs.Policies.{GrantView}
use Rattle.rbac_terms.specs.declared.scope.Scope.{Scope}
use Rattle.rbac_rules.specs.Effective.{RuleView, Has, IsByFirstSubject, AreRulesBy}

-- what is first in a list is so after one more that hasn't the property
pub later_first : {X : Type 0} (P : X → Type 0) (y : X) (ys : List X) (i : ℕ) (x : X) → ¬ P y → IsFirstAt P ys i x → IsFirstAt P (y ∷ ys) (suc i) x
later_first {X} P y ys i x not first = record {
  here = first.here;
  holds = first.holds;
  none_before = earlier;
}
  where
    earlier : (k : ℕ) (z : X) → k < suc i → slice_get (y ∷ ys) k ≡ Some z → ¬ P z
    earlier zero z lt read h = not (subst P (sym (same_Some y z read)) h)
    earlier (suc k) z lt read h = first.none_before k z (omega (arith, lt)) read h

one_place : {X : Type 0} (P : X → Type 0) (xs : List X) (i j : ℕ) (x y : X) → IsFirstAt P xs i x → IsFirstAt P xs j y → i ≡ j
one_place P xs i j x y f g = elim (cases_order i j) [
  | inl e ↦ e
  | inr d ↦ elim d [
    | inl l ↦ absurd (g.none_before i x l f.here f.holds)
    | inr l ↦ absurd (f.none_before j y l g.here g.holds)
  ]
]

-- a grant's rule is had by one first subject
one_rule : (who : Who) (x y : RuleView) → x.grant ≡ y.grant → IsByFirstSubject who x → IsByFirstSubject who y → x ≡ y
one_rule who x y e f g =
    let P : GrantView → Type 0 = λ v. (s : Subject) × IsFirstAt (λ s. Names s v.binding.namespace who) v.binding.subjects x.subject_place s in
    let h = subst P e f in
    let places : x.subject_place ≡ y.subject_place = one_place (λ s. Names s y.grant.binding.namespace who) y.grant.binding.subjects x.subject_place y.subject_place h.0 g.0 h.1 g.1 in
    ap₂ (λ (v : GrantView) (n : ℕ). let r : RuleView = record { grant = v; subject_place = n } in r) e places

module _ (who : Who) (scope : Scope) where
  -- the first grant's rule is the first
  pub taken_first : (g : GrantView) (gs : List GrantView) (x : RuleView) → x.grant ≡ g → Has who scope g → IsByFirstSubject who x
      → (all : List RuleView) → AreRulesBy who scope (g ∷ gs) all ↔ ((others : List RuleView) × (all ≡ x ∷ others) × AreRulesBy who scope gs others)
  taken_first g gs x e has first all = (
    λ are. elim are [
      | inl not ↦ absurd (not.0 has)
      | inr h ↦
          let y = h.1.0 in
          let same : y ≡ x = one_rule who y x (h.1.2 ∙ sym e) h.1.3 first in
          (h.1.1, h.1.5 ∙ ap (λ (r : RuleView). r ∷ h.1.1) same, h.1.4)
    ],
    λ of. inr (has, (x, of.0, e, first, of.2, of.1)),
  )

  pub one_list : (gs : List GrantView) (xs ys : List RuleView) → AreRulesBy who scope gs xs → AreRulesBy who scope gs ys → xs ≡ ys
  one_list [] xs ys a b = a ∙ sym b
  one_list (g ∷ gs) xs ys (inl a) (inl b) = one_list gs xs ys a.1 b.1
  one_list (g ∷ gs) xs ys (inl a) (inr b) = absurd (a.0 b.0)
  one_list (g ∷ gs) xs ys (inr a) (inl b) = absurd (b.0 a.0)
  one_list (g ∷ gs) xs ys (inr a) (inr b) =
      let heads : a.1.0 ≡ b.1.0 = one_rule who a.1.0 b.1.0 (a.1.2 ∙ sym b.1.2) a.1.3 b.1.3 in
      a.1.5 ∙ ap₂ (λ (x : RuleView) (rest : List RuleView). x ∷ rest) heads (one_list gs a.1.1 b.1.1 a.1.4 b.1.4) ∙ sym b.1.5

  module _ (gs : List GrantView) where
    pub from_grant : (n : ℕ) (g : GrantView) → slice_get gs n ≡ Some g → drop n gs ≡ g ∷ drop (n + 1) gs
    from_grant n g at =
        let lt = slice_get_within gs n g at in
        let e : get_or gs n g ≡ g = get_or_from_slice_get gs n g g at in
        rw (add-one, drop-cons gs n g lt, e) refl

    abbrev HasNot : ℕ → Type 0
    HasNot n = (g : GrantView) → slice_get gs n ≡ Some g → ¬ Has who scope g

    -- grants whose rules somebody doesn't have are passed over
    pub passed : (count n : ℕ) (all : List RuleView) → n + count ≤ length gs → ((m : ℕ) → n ≤ m → m < n + count → HasNot m)
        → AreRulesBy who scope (drop n gs) all ↔ AreRulesBy who scope (drop (n + count) gs) all
    passed zero n all le none = let e : n + 0 ≡ n = omega arith in rw e (λ a. a, λ a. a)
    passed (suc count) n all le none =
        let g = read_some gs n (omega arith) in
        let e : drop n gs ≡ g.0 ∷ drop (n + 1) gs = from_grant n g.0 g.1 in
        let rest = passed count (n + 1) all (omega arith) (λ m low high. none m (omega arith) (omega arith)) in
        let s : n + 1 + count ≡ n + suc count = omega arith in
        let not = none n (omega arith) (omega arith) g.0 g.1 in
        let P : ℕ → Type 0 = λ k. AreRulesBy who scope (drop k gs) all in
        let Q : List GrantView → Type 0 = λ l. AreRulesBy who scope l all in (
          λ are. elim (subst Q e are) [
            | inl a ↦ subst P s (rest.0 a.1)
            | inr a ↦ absurd (not a.0)
          ],
          λ are. subst Q (sym e) (inl (not, rest.1 (subst P (sym s) are))),
        )

    -- nothing is left of grants whose rules somebody doesn't have
    pub none_left : (n : ℕ) → n ≤ length gs → ((m : ℕ) → n ≤ m → HasNot m) → AreRulesBy who scope (drop n gs) []
    none_left n le none =
        let count = length gs - n in
        let s : n + count ≡ length gs = omega arith in
        let e : drop (n + count) gs ≡ [] = drop_all (n + count) gs (omega arith) in
        (passed count n [] (omega arith) (λ m low high. none m low)).1 (subst (λ (l : List GrantView). AreRulesBy who scope l []) (sym e) refl)
