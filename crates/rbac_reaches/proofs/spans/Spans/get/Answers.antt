use Rattle.std.proofs.Common.{arith, ap, length}
use Rattle.rbac_reaches.proofs.SpanLemmas.{counted_length}
use Rattle.rbac_reaches.proofs.spans.Spans.get.Goals as goal

pub overflow_cast-i : goal.overflow_cast-i
overflow_cast-i c = omega (arith, c.requires, counted_length 0 c.self.inside.spans.items c.self.inside.len c.self.invariant.counted, ap length c.self.view_is, c.self.invariant.few)

pub place_in-requires-clause-within : goal.place_in-requires-clause-within
place_in-requires-clause-within c = omega (arith, c.requires, counted_length 0 c.self.inside.spans.items c.self.inside.len c.self.invariant.counted, ap length c.self.view_is)
