use Rattle.std.proofs.Common.{IsTrue}
use Rattle.rbac_terms.proofs.Halving.{among_iff}
use Rattle.rbac_reaches.proofs.ordered_rule.OrderedRule.has_name.Goals as goal

pub returns : goal.returns
returns c =
    rw (← c.self.view_is) (among_iff c.self.inside.rule.now.resource_names c.self.inside.names.items c.args.name.now (IsTrue c.is_among.result) c.self.invariant.3
    (rw (c.as_slice.ensures.value, c.as_bytes.ensures) at c.is_among.ensures))
