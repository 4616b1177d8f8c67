-- A node can take over another node exactly by the rules that it has.
use Rattle.std.proofs.Common.{◌≡◌, Option}
use Rattle.rbac_terms.specs.Matching.{RuleAllows}
use Rattle.rbac_terms.specs.Targets.{Resource, What}
use Rattle.rbac_terms.specs.Text.{Text}
use Rattle.rbac_terms.specs.declared.matching.Rule.{Rule}
use Rattle.rbac_model.proofs.OwnWords.{any_from}
use Rattle.rbac_model.specs.Policies.{Live, PolicyView}
use Rattle.rbac_paths.specs.Having.{NodeAllows}
use Rattle.rbac_paths.specs.Nodes.{NodeView}
use Rattle.rbac_paths.specs.Steps.{asked_in, table}
use Rattle.rbac_paths.specs.Taking.{CanTakeOver, RowTakes, RuleTakes}
use Rattle.rbac_steps.specs.declared.steps.Step.{Step}

module _ (p : PolicyView) (x : NodeView) (step : Step) (y : NodeView) (home : Option Text) (rule : Rule) where
  -- if a node allows the requests of a rule where the rule counts, it can take over what the rule
  -- takes over
  pub takes_over : ((namespace verb : Text) (t : What) → Live home namespace t → RuleAllows rule verb t → NodeAllows p x namespace verb t) → RuleTakes step home rule y → CanTakeOver p x step y
  takes_over allowed gives =
      let row = gives.1 in
      let takes = gives.4.1 in
      record {
        row = row;
        namespace = takes.namespace;
        own = takes.own;
        verb = takes.verb;
        text = takes.text;
        name = takes.name;
        of_table = (gives.0, gives.2, gives.3);
        of_step = gives.4.0;
        over = takes.over;
        of_verbs = takes.of_verbs;
        of_resources = takes.of_resources;
        named = takes.named;
        allowed = allowed (asked_in row.counts takes.namespace) takes.verb (Resource row.group takes.text takes.name) takes.live takes.allows;
      }

  -- a rule that allows the request by which a node is taken over takes over this node
  pub rule_takes : (c : CanTakeOver p x step y) → Live home (asked_in c.row.counts c.namespace) (Resource c.row.group c.text c.name) → RuleAllows rule c.verb (Resource c.row.group c.text c.name) → RuleTakes step home rule y
  rule_takes c live allows =
      let takes : RowTakes c.row home rule y = record {
        namespace = c.namespace;
        own = c.own;
        verb = c.verb;
        text = c.text;
        name = c.name;
        over = c.over;
        of_verbs = c.of_verbs;
        of_resources = c.of_resources;
        named = c.named;
        live = live;
        allows = allows;
      } in
      any_from (λ row. (row.step ≡ step) × RowTakes row home rule y) table c.row c.of_table (c.of_step, takes)
