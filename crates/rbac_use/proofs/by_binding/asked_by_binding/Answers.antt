use Rattle.std.proofs.Common.{◌≡◌, [], List, replicate, length, subst, take, take_all}
use Rattle.rbac_terms.specs.declared.granting.Binding.{Binding}
use Rattle.rbac_use.specs.ByBinding.{AreAskedByBinding}
use Rattle.rbac_use.specs.declared.request.Request.{Request}
use Rattle.rbac_use.proofs.AskedOf.{one_taken}
use Rattle.rbac_use.proofs.ByBinding.{asked_more, asked_nothing}
use Rattle.rbac_use.proofs.by_binding.asked_by_binding.Goals as goal

pub loop-request-init : goal.loop-request-init
loop-request-init c =
    let lists = c.in_ok-lists.lists.items in
    asked_nothing c.args.policy.now lists (subst (λ (bindings : List Binding). lists ≡ replicate (length bindings) []) c.bindings.ensures.bindings c.in_ok-lists.ensures)

pub loop-request-preserved : goal.loop-request-preserved
loop-request-preserved c =
    let requests = c.args.requests.now in
    let i = c.loop-request.request-index in
    let q = c.request-item.result in
    rw (one_taken requests i q c.loop-request-test.true c.request-item.is)
    (asked_more c.args.policy.now q (take i requests) c.loop-request.lists.items c.add_to_each.new.lists.items c.loop-request.invariant c.in_ok-add_to_each.ensures)

pub returns : goal.returns
returns c =
    subst (λ (xs : List Request). AreAskedByBinding c.args.policy.now xs c.loop-request.lists.items)
    (take_all c.loop-request.request-index c.args.requests.now c.loop-request-test.false) c.loop-request.invariant
