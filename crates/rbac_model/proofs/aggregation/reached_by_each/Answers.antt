use Rattle.std.proofs.Common.{arith}
use Rattle.rbac_model.proofs.Stairs.{rows_within, are_reaches}
use Rattle.rbac_model.proofs.aggregation.reached_by_each.Goals as goal

pub close-requires : goal.close-requires
close-requires c = rows_within c.args.objects.now c.in_ok-rows.rows.items c.in_ok-rows.ensures

pub returns : goal.returns
returns c =
    are_reaches c.args.objects.now c.in_ok-rows.rows.items c.in_ok-rows.ensures c.close.new.graph.items (omega (arith, c.in_ok-close.ensures.len)) c.in_ok-close.ensures.exact
