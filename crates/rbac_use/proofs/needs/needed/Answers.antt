use Rattle.std.proofs.Common.{◌≡◌, ◌∙◌, List, ap}
use Rattle.std.proofs.lemmas.Result.{IfOk-weaker}
use Rattle.rbac_use.specs.Requests.{log_of}
use Rattle.rbac_use.specs.declared.request.Request.{Request}
use Rattle.rbac_use.proofs.NeededRequests.{needed_of_log}
use Rattle.rbac_use.proofs.needs.needed.Goals as goal

pub returns : goal.returns
returns c =
    let p = c.args.policy.now in
    let user = c.args.user.now in
    let requests = c.as_slice.result.now in
    let shown : log_of requests ≡ c.args.log.now = ap (λ (rs : List Request). log_of rs) c.as_slice.ensures.value ∙ c.in_ok-requests.ensures in
    IfOk-weaker c.needed_of.result _ _ (λ all are. needed_of_log p user requests all.items are c.args.log.now shown) c.needed_of.ensures
