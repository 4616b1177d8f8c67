use Rattle.std.proofs.Common.{arith, ap, length}
use Rattle.rbac_reaches.proofs.SpanLemmas.{counted_length}
use Rattle.rbac_reaches.proofs.spans.Spans.len.Goals as goal

pub returns-clause-len : goal.returns-clause-len
returns-clause-len c = omega (arith, counted_length 0 c.self.inside.spans.items c.self.inside.len c.self.invariant.counted, ap length c.self.view_is)

pub returns-clause-few : goal.returns-clause-few
returns-clause-few c = omega (arith, counted_length 0 c.self.inside.spans.items c.self.inside.len c.self.invariant.counted, ap length c.self.view_is, c.self.invariant.few)
