use Rattle.std.proofs.Common.{◌∙◌}
use Rattle.rbac_use.proofs.Logged.{all_shown, one_shown}
use Rattle.rbac_use.proofs.log.Log.requests.Goals as goal

pub loop-entry-preserved : goal.loop-entry-preserved
loop-entry-preserved c =
    one_shown c.loop-entry.all.items c.push.new.self.items c.request_of.result c.in-Some.entry.now c.loop-entry.entry-iterator c.next.new.self c.into_iter-entry-iterator.result
    c.in_ok-push.ensures.items c.request_of.ensures c.in-Some.ensures.steps c.loop-entry.invariant

pub returns : goal.returns
returns c =
    all_shown c.loop-entry.all.items c.loop-entry.entry-iterator c.into_iter-entry-iterator.result c.in-None.ensures.steps.0 c.loop-entry.invariant
    ∙ c.into_iter-entry-iterator.ensures.into_iter_gives.0 ∙ c.self.view_is
