use Rattle.std.proofs.Common.{◌∙◌, [], ◌∷◌, map-id, subst, sym, List}
use Rattle.std.proofs.lemmas.Iterator.Consumers.{YieldsList-end}
use Rattle.std.proofs.lemmas.Iterator.Adapters.{YieldsList-from_vec}
use Rattle.rbac_log.specs.Logs.{HasAdded}
use Rattle.rbac_log.specs.declared.logged.LoggedRequest.{LoggedRequest}
use Rattle.rbac_log.proofs.LogLines.{added_both, added_one}
use Rattle.rbac_log.proofs.reading.add_requests.Goals as goal

pub loop-request-preserved : goal.loop-request-preserved
loop-request-preserved c =
    added_both c.args.log.now c.loop-request.log c.add.new.self c.loop-request.yielded (c.in-Some.request ∷ []) c.loop-request.invariant
    (added_one c.loop-request.log c.add.new.self c.in-Some.request c.in_ok-add.ensures.added)

pub returns : goal.returns
returns c =
    let given = c.args.requests.items in
    let gives = c.into_iter-request-iterator.ensures.into_iter_gives in
    let seen = YieldsList-end (YieldsList-from_vec {s = c.into_iter-request-iterator.result} given gives.0 (gives.1 ∙ c.args.requests.ok.0))
    c.loop-request.yielded c.loop-request.request-iterator c.loop-request.yielded_by c.next.result c.next.new.self c.in-None.is c.next.ensures.steps in
    subst (λ (rs : List LoggedRequest). HasAdded c.args.log.now rs c.loop-request.log) (sym (map-id c.loop-request.yielded) ∙ seen.0) c.loop-request.invariant
