-- the grants of a binding, number by number
use Rattle.std.proofs.Common.{◌≡◌, ◌⊎◌, ◌↔◌, ◌≤◌, ◌<◌, ◌+◌, ℕ, inl, inr, sym, ◌∙◌, ap, subst, arith, Some, Option, Contains, slice_get, refl}
use Rattle.std.proofs.lemmas.Bool.{cases_lt}
use Rattle.std.proofs.lemmas.Option.{same_Some, slice_get_within}
use Rattle.rbac_model.proofs.BindingPlaces.{of_some_binding}
use Rattle.rbac_terms.specs.Text.{Text}
use Rattle.rbac_model.specs.Policies.{PolicyView, GrantView, IsOfBinding, IsPolicy}
use Rattle.rbac_diff.specs.Permissions.{PermissionView, Permits}
use Rattle.rbac_diff.specs.Finding.{IsByGrants}

-- one of the grants numbered from `from` up to `end` has the verb and permits the target
abbrev pub IsByNumbers : PolicyView → Option Text → ℕ → ℕ → PermissionView → Type 0
IsByNumbers policy own from end p = (n : ℕ) × (g : GrantView) × (from ≤ n) × (n < end) × (slice_get policy.grants n ≡ Some g)
    × Contains g.rule.rule.verbs p.verb × Permits own g.rule.rule p.target

pub no_numbers : (policy : PolicyView) (own : Option Text) (from : ℕ) (p : PermissionView) → IsByNumbers policy own from from p → ⊥
no_numbers policy own from p h = omega (arith, h.2, h.3)

pub one_number : (policy : PolicyView) (own : Option Text) (from n : ℕ) (g : GrantView) → from ≤ n → slice_get policy.grants n ≡ Some g → (p : PermissionView)
    → IsByNumbers policy own from (n + 1) p ↔ (IsByNumbers policy own from n p ⊎ (Contains g.rule.rule.verbs p.verb × Permits own g.rule.rule p.target))
one_number policy own from n g low is p = (
  λ h. elim (cases_lt h.0 n) [
    | inl l ↦ inl (h.0, h.1, h.2, l, h.4, h.5, h.6)
    | inr past ↦ (let at : h.0 ≡ n = omega (arith, h.3, past) in
        let same : h.1 ≡ g = same_Some h.1 g (sym h.4 ∙ ap (λ (k : ℕ). slice_get policy.grants k) at ∙ is) in
        let P : GrantView → Type 0 = λ x. Contains x.rule.rule.verbs p.verb × Permits own x.rule.rule p.target in
        inr (subst P same (h.5, h.6)))
  ],
  λ h. elim h [
    | inl k ↦ (k.0, k.1, k.2, omega (arith, k.3), k.4, k.5, k.6)
    | inr k ↦ (n, g, low, omega arith, is, k.0, k.1)
  ],
)

pub all_numbers : (policy : PolicyView) (own : Option Text) (place from end last : ℕ) → IsPolicy policy → end ≤ last → last ≤ end → ((n at : ℕ) → IsOfBinding policy n at → ((from ≤ n) × (n < end)) ↔ (at ≡ place)) → (p : PermissionView)
    → IsByNumbers policy own from last p ↔ IsByGrants policy place own p
all_numbers policy own place from end last is e f between p = (
  λ h. (
      let at = of_some_binding policy is h.0 (slice_get_within policy.grants h.0 h.1 h.4) in
      let same : at.0 ≡ place = (between h.0 at.0 at.1).0 (h.2, omega (arith, h.3, f)) in
      (h.0, h.1, h.4, subst (λ (i : ℕ). IsOfBinding policy h.0 i) same at.1, h.5, h.6)
      ),
  λ h. (let w = (between h.0 place h.3).1 refl in (h.0, h.1, w.0, omega (arith, w.1, e, f), h.2, h.4, h.5)),
)
