-- Each binding either grants a request or doesn't.
use Rattle.std.proofs.Common.{◌≡◌, ℕ, List, [], ◌∷◌, sym, refl, arith, subst, suc, zero, ◌⊎◌, inl, inr}
use Rattle.std.specs.Prelude.{Some, Any, slice_get}
use Rattle.std.proofs.lemmas.Option.{same_Some}
use Rattle.rbac_terms.specs.Text.{Text}
use Rattle.rbac_terms.specs.Targets.{What}
use Rattle.rbac_terms.specs.Principals.{Who}
use Rattle.rbac_terms.specs.Granting.{Names}
use Rattle.rbac_terms.specs.Matching.{RuleAllows}
use Rattle.rbac_terms.specs.declared.granting.Binding.{Binding}
use Rattle.rbac_model.specs.Lists.{IsFirstAt}
use Rattle.rbac_model.specs.Policies.{Held, IsHeld, GrantView, SourcedRule, AreRulesFor, AreGrantsOf, Brings, Grants}
use Rattle.rbac_model.proofs.Decided.{all_three, any, live, names, rule}
use Rattle.rbac_model.proofs.GrantNumbers.{none_earlier}
use Rattle.rbac_model.proofs.OneList.{one_rules_for}
pub use Rattle.rbac_model.proofs.Decided.{Decided}

module _ (h : Held) (held : IsHeld h) (who : Who) (namespace verb : Text) (t : What) where
  brings : (b : Binding) (rules : List SourcedRule) → AreRulesFor h b rules → Decided (Brings h b verb t)
  brings b rules are = elim (any (λ r. RuleAllows r.rule verb t) (λ r. rule r.rule verb t) rules) [
    | inl a ↦ inl (rules, are, a)
    | inr n ↦ inr (λ w. n (subst (λ (rs : List SourcedRule). Any (λ r. RuleAllows r.rule verb t) rs) (one_rules_for h b w.0 rules held w.1 are) w.2))
  ]

  pub grants : (b : Binding) (rules : List SourcedRule) → AreRulesFor h b rules → Decided (Grants h b who namespace verb t)
  grants b rules are =
      all_three (live b.namespace namespace t) (any (λ s. Names s b.namespace who) (λ s. names s b.namespace who) b.subjects) (brings b rules are)

  abbrev Granting : Binding → Type 0
  Granting b = Grants h b who namespace verb t

  none_at : (b : Binding) (bs : List Binding) → (Granting b → ⊥) → ((k : ℕ) (y : Binding) → slice_get bs k ≡ Some y → Granting y → ⊥)
      → (k : ℕ) (y : Binding) → slice_get (b ∷ bs) k ≡ Some y → Granting y → ⊥
  none_at b bs n none zero y e p = n (subst Granting (sym (same_Some b y e)) p)
  none_at b bs n none (suc k) y e p = none k y e p

  -- either one of these bindings is the first that grants the request, or none grants it
  pub first : (bs : List Binding) (gs : List GrantView) → AreGrantsOf h bs gs
      → ((i : ℕ) × (b : Binding) × IsFirstAt Granting bs i b) ⊎ ((k : ℕ) (y : Binding) → slice_get bs k ≡ Some y → Granting y → ⊥)
  first [] gs are = inr (λ k y e p. cc)
  first (b ∷ bs) gs are = elim (grants b are.0 are.2) [
    | inl p ↦ inl (0, b, record { here = refl; holds = p; none_before = λ k y l e q. omega (arith, l) })
    | inr n ↦ elim (first bs are.1 are.3) [
      | inl f ↦ inl (suc f.0, f.1, record { here = f.2.here; holds = f.2.holds; none_before = none_earlier b bs f.0 n f.2.none_before })
      | inr none ↦ inr (none_at b bs n none)
    ]
  ]
