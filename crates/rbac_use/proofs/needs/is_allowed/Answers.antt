use Rattle.std.proofs.Common.{Bool, IsTrue, ◌↔◌, subst, sym}
use Rattle.rbac_diff.specs.Requests.{AllowsRequest}
use Rattle.rbac_use.specs.Requests.{request_of}
use Rattle.rbac_use.proofs.NeededRequests.{allowed_by_search}
use Rattle.rbac_use.proofs.needs.is_allowed.Goals as goal

pub returns : goal.returns
returns c =
    let p = c.args.policy.now in
    let r = request_of c.args.request in
    subst (λ (b : Bool). IsTrue b ↔ AllowsRequest p r) (sym c.is_some.ensures) (allowed_by_search p c.next_allowing.ensures.policy r c.next_allowing.result c.next_allowing.ensures.next)
