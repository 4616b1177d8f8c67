-- The grants of a binding, one after another.
use Rattle.std.proofs.Common.{◌≡◌, ◌≤◌, ◌<◌, ◌+◌, ◌↔◌, ◌∙◌, ℕ, Some, ap, inl, inr, refl, sym, subst, arith, slice_get}
use Rattle.std.proofs.lemmas.Bool.{cases_lt}
use Rattle.std.proofs.lemmas.Option.{same_Some}
use Rattle.rbac_terms.specs.Matching.{RuleAllows}
use Rattle.rbac_terms.specs.declared.granting.Binding.{Binding}
use Rattle.rbac_model.specs.Policies.{GrantView, IsOfBinding, PolicyView}
use Rattle.rbac_diff.specs.Requests.{RequestView}
use Rattle.rbac_use.specs.Used.{CanBeUsed, CountsFor, HasPermissions, IsAllowedAt, IsGrantOf}

-- none of the grants from one number up to another has the property
abbrev pub NoGrant : PolicyView → (GrantView → Type 0) → ℕ → ℕ → Type 0
NoGrant p P from end = (k : ℕ) (g : GrantView) → from ≤ k → k < end → slice_get p.grants k ≡ Some g → ¬ P g

-- no rule of these grants allows the request
abbrev pub AllowsNone : PolicyView → RequestView → ℕ → ℕ → Type 0
AllowsNone p r = NoGrant p (λ g. RuleAllows g.rule.rule r.verb r.target)

-- no rule of these grants can be used
abbrev pub CanUseNone : PolicyView → ℕ → ℕ → Type 0
CanUseNone p = NoGrant p (λ g. CanBeUsed g.binding g.rule.rule)

module _ (p : PolicyView) (P : GrantView → Type 0) (from n : ℕ) where
  pub none_yet : NoGrant p P from from
  none_yet k g low high here = absurd (omega (arith, low, high))

  pub none_more : (g : GrantView) → slice_get p.grants n ≡ Some g → ¬ P g → NoGrant p P from n → NoGrant p P from (n + 1)
  none_more g here not none k h low high there = elim (cases_lt k n) [
    | inl lt ↦ none k h low lt there
    | inr le ↦ (
        let same : k ≡ n = omega (arith, le, high) in
        let is : g ≡ h = same_Some g h (sym here ∙ sym (ap (slice_get p.grants) same) ∙ there) in
        λ w. not (subst P (sym is) w)
        )
  ]

module _ (p : PolicyView) (place : ℕ) (from end : ℕ) (between : (n at : ℕ) → IsOfBinding p n at → ((from ≤ n) × (n < end)) ↔ (at ≡ place)) where
  -- the number of a grant of the binding is one of these
  pub number_within : (n : ℕ) (g : GrantView) → IsGrantOf p place n g → (from ≤ n) × (n < end)
  number_within n g of = (between n place (g, of.grant, of.binding)).1 refl

  -- a number of these is of a grant of the binding
  pub of_number : (n at : ℕ) (g : GrantView) → from ≤ n → n < end → slice_get p.grants n ≡ Some g → IsOfBinding p n at → IsGrantOf p place n g
  of_number n at g low high here of =
      let same : at ≡ place = (between n at of).0 (low, high) in
      record {
        grant = here;
        binding = ap (slice_get p.held.bindings) (sym same) ∙ of.2 ∙ ap (λ (v : GrantView). Some v.binding) (same_Some of.0 g (sym of.1 ∙ here));
      }

  pub none_allows : (r : RequestView) → AllowsNone p r from end → IsAllowedAt p place r → ⊥
  none_allows r none (n, g, of, allows) = let w = number_within n g of in none n g w.0 w.1 of.grant allows.1

  pub none_usable : CanUseNone p from end → HasPermissions p place → ⊥
  none_usable none (n, g, of, can) = let w = number_within n g of in none n g w.0 w.1 of.grant can

-- the binding of a grant is the one at its place
pub own_binding : (p : PolicyView) (place n : ℕ) (g : GrantView) (b : Binding) → IsGrantOf p place n g → slice_get p.held.bindings place ≡ Some b → g.binding ≡ b
own_binding p place n g b of there = same_Some g.binding b (sym of.binding ∙ there)

-- a binding that doesn't count for the request allows it by no grant
pub not_counting : (p : PolicyView) (place : ℕ) (b : Binding) (r : RequestView) → slice_get p.held.bindings place ≡ Some b → ¬ CountsFor b r → IsAllowedAt p place r → ⊥
not_counting p place b r there not (n, g, of, allows) = not (subst (λ (v : Binding). CountsFor v r) (own_binding p place n g b of there) allows.0)
