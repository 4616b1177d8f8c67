-- What a principal can take over by grants.
use Rattle.std.proofs.Common.{◌≡◌, ◌∙◌, ℕ, Some, ap, slice_get}
use Rattle.std.proofs.lemmas.Option.{get_or_from_slice_get, slice_get-get_or, slice_get_within}
use Rattle.rbac_terms.specs.Principals.{Who}
use Rattle.rbac_terms.specs.Targets.{Resource}
use Rattle.rbac_model.proofs.GrantNumbers.{grant_allows, some_grant}
use Rattle.rbac_model.specs.Policies.{BindingNames, GrantView, IsPolicy, PolicyView}
use Rattle.rbac_paths.specs.Nodes.{NodeView, Somebody}
use Rattle.rbac_paths.specs.Steps.{asked_in}
use Rattle.rbac_paths.specs.Taking.{CanTakeOver, RuleTakes}
use Rattle.rbac_steps.specs.declared.steps.Step.{Step}
use Rattle.rbac_paths.proofs.ByRules.{rule_takes, takes_over}

-- by the grant, the principal can take over the node by the step
abbrev pub GrantTakes : Who → Step → NodeView → GrantView → Type 0
GrantTakes who step y g = BindingNames g.binding who × RuleTakes step g.binding.namespace g.rule.rule y

-- a principal can take over a node exactly by some grant
module _ (p : PolicyView) (ok : IsPolicy p) (who : Who) (step : Step) (y : NodeView) where
  pub by_grant : (n : ℕ) (g : GrantView) → slice_get p.grants n ≡ Some g → GrantTakes who step y g → CanTakeOver p (Somebody who) step y
  by_grant n g here (named, gives) =
      takes_over p (Somebody who) step y g.binding.namespace g.rule.rule
      (λ namespace verb t live allows. grant_allows p ok who namespace verb t (n, g, slice_get_within p.grants n g here, get_or_from_slice_get p.grants n g g here, (live, named, allows))) gives

  pub some_takes : CanTakeOver p (Somebody who) step y → (n : ℕ) × (g : GrantView) × (slice_get p.grants n ≡ Some g) × GrantTakes who step y g
  some_takes c =
      let by = some_grant p.held p.grants who (asked_in c.row.counts c.namespace) c.verb (Resource c.row.group c.text c.name) ok.0 ok.1 c.allowed in
      let g = by.1 in (
        by.0,
        g,
        slice_get-get_or p.grants by.0 g by.2 ∙ ap (λ (v : GrantView). Some v) by.3,
        (by.4.1, rule_takes p (Somebody who) step y g.binding.namespace g.rule.rule c by.4.0 by.4.2),
      )
