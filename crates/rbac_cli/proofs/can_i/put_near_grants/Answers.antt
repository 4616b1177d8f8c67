use Rattle.std.proofs.Common.{arith, sym}
use Rattle.std.proofs.lemmas.Grind.{common_steps}
use Rattle.std.proofs.lemmas.List.{append-nil}
use Rattle.std.proofs.lemmas.Option.{slice_get-get_or}
use Rattle.rbac_near.specs.Near.{AreNear, request_of}
use Rattle.rbac_cli.proofs.Verdicts.{near_within}
use Rattle.rbac_cli.proofs.can_i.put_near_grants.Goals as goal

pub loop-near-init : goal.loop-near-init
loop-near-init c = sym (append-nil _)

pub put_near-requires : goal.put_near-requires
put_near-requires c =
    let items = c.as_slice-near-items.result.now in
    let are : AreNear c.args.policy.now (request_of c.args.request) items = rw c.as_slice-near-items.ensures.value c.in_ok-found.ensures.near in
    near_within c.args.policy.now (request_of c.args.request) items are c.loop-near.near-index _ (slice_get-get_or items c.loop-near.near-index _ c.loop-near-test.true)

pub loop-near-preserved : goal.loop-near-preserved
loop-near-preserved c = grind (arith, common_steps)
