-- grants of one place of a rule are by one rule, and have one reach
use Rattle.std.proofs.Common.{◌≡◌, ℕ, slice_get, ap, sym, ◌∙◌}
use Rattle.std.specs.Prelude.{Option, Some, None, option_and_then}
use Rattle.std.specs.Option.{option_map}
use Rattle.std.proofs.lemmas.Option.{same_Some}
use Rattle.rbac_terms.specs.declared.granting.Binding.{Binding}
use Rattle.rbac_model.specs.Policies.{Held, PolicyView, GrantView, SourcedRule, grant_at, sourced_at}
use Rattle.rbac_model.specs.declared.places.GrantPlace.{GrantPlace}
use Rattle.rbac_model.specs.declared.places.RolePlace.{RolePlace}
use Rattle.rbac_index.specs.Indexed.{AreAlike}

rule_from : (ob : Option Binding) (or : Option SourcedRule) (g : GrantView) → option_and_then (λ b. option_map (λ (rule : SourcedRule). record { binding = b; rule = rule }) or) ob ≡ Some g → or ≡ Some g.rule
rule_from None or g e = cc
rule_from (Some b) None g e = cc
rule_from (Some b) (Some r) g e = ap (λ (v : GrantView). Some v.rule) (same_Some (record { binding = b; rule = r }) g e)

rule_at_place : (h : Held) (a : GrantPlace) (g : GrantView) → grant_at h a ≡ Some g → sourced_at h a.role a.rule ≡ Some g.rule
rule_at_place h a g e = rule_from (slice_get h.bindings a.binding) (sourced_at h a.role a.rule) g e

pub alike_at : (p : PolicyView) (m n : ℕ) (a b : GrantPlace) → a.role ≡ b.role → a.rule ≡ b.rule → grant_at p.held a ≡ slice_get p.grants m → grant_at p.held b ≡ slice_get p.grants n → AreAlike p m n
alike_at p m n a b role rule at_a at_b g h read_g read_h =
    let first : sourced_at p.held a.role a.rule ≡ Some g.rule = rule_at_place p.held a g (at_a ∙ read_g) in
    let second : sourced_at p.held b.role b.rule ≡ Some h.rule = rule_at_place p.held b h (at_b ∙ read_h) in
    let moved : sourced_at p.held a.role a.rule ≡ sourced_at p.held b.role b.rule = ap (λ (r : RolePlace). sourced_at p.held r a.rule) role ∙ ap (sourced_at p.held b.role) rule in
    ap (λ (r : SourcedRule). r.rule) (same_Some g.rule h.rule (sym first ∙ moved ∙ second))
