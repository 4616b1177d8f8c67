-- The words that the grants of a principal take.
use Rattle.std.proofs.Common.{◌≡◌, ◌↔◌, ◌++◌, ◌∙◌, ◌∷◌, [], ℕ, List, None, Option, Some, Any, Contains, ap, arith, inl, inr, refl, slice_get, subst, suc, sym, zero}
use Rattle.std.proofs.lemmas.List.Elements.{Contains-append_cases, Contains-append_left, Contains-append_right}
use Rattle.std.proofs.lemmas.Option.{same_Some}
use Rattle.rbac_terms.specs.Text.{Text}
use Rattle.rbac_terms.specs.Principals.{Who}
use Rattle.rbac_model.proofs.OwnWords.{any_from}
use Rattle.rbac_model.specs.Policies.{GrantView, IsPolicy, PolicyView}
use Rattle.rbac_paths.specs.Deciding.{AreTakingNumbers, GiveHoldings}
use Rattle.rbac_paths.specs.Having.{HoldingView}
use Rattle.rbac_paths.specs.Joints.{TakesByWords}
use Rattle.rbac_paths.specs.Nodes.{Somebody}
use Rattle.rbac_paths.specs.SharedWords.{GrantTakesWord, StepTakesWord, TakeWord}
use Rattle.rbac_paths.specs.Told.{grant_holding}
use Rattle.rbac_steps.specs.declared.steps.Step.{Step}
use Rattle.rbac_paths.proofs.Mapped.{is_element, one_element}
use Rattle.rbac_paths.proofs.WhatDecides.{given_decide}
use Rattle.rbac_paths.proofs.WordsTaken.{takes_by_words}

module _ (p : PolicyView) where
  -- ---- the holdings that the grants with some numbers give

  abbrev one_given : Option GrantView → List HoldingView
  one_given None = []
  one_given (Some g) = grant_holding g ∷ []

  pub given : List ℕ → List HoldingView
  given [] = []
  given (n ∷ ns) = one_given (slice_get p.grants n) ++ given ns

  from_one : (o : Option GrantView) (h : HoldingView) → Contains (one_given o) h → (g : GrantView) × (o ≡ Some g) × (grant_holding g ≡ h)
  from_one None h c = absurd (let low = c.1 in omega (arith, low))
  from_one (Some g) h c = (g, refl, one_element (grant_holding g) h c)

  to_one : (o : Option GrantView) (h : HoldingView) (g : GrantView) → o ≡ Some g → grant_holding g ≡ h → Contains (one_given o) h
  to_one None h g e same = cc
  to_one (Some k) h g e same = is_element (grant_holding k) h (ap grant_holding (same_Some k g e) ∙ same)

  from_given : (ns : List ℕ) (h : HoldingView) → Contains (given ns) h → (n : ℕ) × Contains ns n × ((g : GrantView) × (slice_get p.grants n ≡ Some g) × (grant_holding g ≡ h))
  unfolding given
  from_given [] h c = absurd (let low = c.1 in omega (arith, low))
  from_given (n ∷ ns) h c = elim (Contains-append_cases (one_given (slice_get p.grants n)) (given ns) h c) [
    | inl a ↦ (n, (0, omega arith, refl), from_one (slice_get p.grants n) h a)
    | inr b ↦ (let w = from_given ns h b in (w.0, (suc w.1.0, omega (arith, w.1.1), w.1.2), w.2))
  ]

  to_given : (ns : List ℕ) (n : ℕ) → Contains ns n → (h : HoldingView) (g : GrantView) → slice_get p.grants n ≡ Some g → grant_holding g ≡ h → Contains (given ns) h
  unfolding given
  to_given [] n c h g at same = absurd (let low = c.1 in omega (arith, low))
  to_given (m ∷ ns) n (zero, low, e) h g at same =
      Contains-append_left (one_given (slice_get p.grants m)) (given ns) h (to_one (slice_get p.grants m) h g (subst (λ (k : ℕ). slice_get p.grants k ≡ Some g) (sym e) at) same)
  to_given (m ∷ ns) n (suc k, low, e) h g at same = Contains-append_right (one_given (slice_get p.grants m)) (given ns) h (to_given ns n (k, omega arith, e) h g at same)

  pub give : (ns : List ℕ) → GiveHoldings p ns (given ns)
  give ns h = (from_given ns h, λ w. to_given ns w.0 w.1 h w.2.0 w.2.1 w.2.2)

  -- ---- the words that these holdings take

  same_words : (steps : List Step) (ns : List ℕ) (w : Text) → Any (GrantTakesWord p steps w) ns ↔ TakeWord steps (given ns) w
  same_words steps ns w = (
    λ a. any_from (λ h. Any (StepTakesWord h.home h.rule w) steps) (given ns) (grant_holding a.4.0) (to_given ns a.1 (a.0, a.2, a.3) (grant_holding a.4.0) a.4.0 a.4.1 refl) a.4.2,
    λ t. (let v = from_given ns t.1 (t.0, t.2, t.3) in
        any_from (GrantTakesWord p steps w) ns v.0 v.1 (v.2.0, v.2.1, subst (λ (h : HoldingView). Any (StepTakesWord h.home h.rule w) steps) (sym v.2.2) t.4)),
  )

  pub takes_by_grants : IsPolicy p → (steps : List Step) (who : Who) (ns : List ℕ) → AreTakingNumbers p steps who ns → (Takes : Text → Type 0) → ((w : Text) → Takes w ↔ Any (GrantTakesWord p steps w) ns) → TakesByWords p steps (Somebody who) Takes
  takes_by_grants ok steps who ns of Takes exact =
      let decide = given_decide p ok who steps ns of (given ns) (give ns) in
      takes_by_words p (Somebody who) (given ns) steps decide (λ other. tt) Takes (λ w. (λ c. (same_words steps ns w).0 ((exact w).0 c), λ t. (exact w).1 ((same_words steps ns w).1 t)))
