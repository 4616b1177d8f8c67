use Rattle.std.proofs.Common.{◌≡◌, ◌++◌, ◌∷◌, [], List, subst, take, take_all}
use Rattle.std.proofs.lemmas.Bool.{both_ways}
use Rattle.rbac_use.specs.Needs.{AreNeeded, MayNeed}
use Rattle.rbac_use.specs.Requests.{request_of}
use Rattle.rbac_use.specs.declared.request.Request.{Request}
use Rattle.rbac_use.proofs.AskedOf.{kept_none, kept_one, one_taken}
use Rattle.rbac_use.proofs.needs.needed_of.Goals as goal
use Rattle.rbac_use.proofs.needs.needed_of.Goals.{then-may_need+in_ok-push, else-may_need}

pub loop-request-preserved : goal.loop-request-preserved
loop-request-preserved c =
    let p = c.args.policy.now in
    let user = c.args.user.now in
    let requests = c.args.requests.now in
    let i = c.loop-request.request-index in
    let q = c.request-item.result in
    let old = c.loop-request.all.items in
    let taken = one_taken requests i q c.loop-request-test.true c.request-item.is in
    let has = λ (x : Request). MayNeed p user (request_of x) in
    elim c.if-may_need.branch [
      | then-may_need+in_ok-push w ↦ (let items : w.push.new.self.items ≡ old ++ q ∷ [] = w.in_ok-push.ensures.items in
          rw (w.all-is, items, taken) (kept_one has (take i requests) old q c.loop-request.invariant (c.may_need.ensures.0 w.if-may_need.true)))
      | else-may_need w ↦ rw (w.all-is, taken) (kept_none has (take i requests) old q c.loop-request.invariant (λ a. both_ways _ w.if-may_need.false (c.may_need.ensures.1 a)))
    ]

pub returns : goal.returns
returns c =
    subst (λ (xs : List Request). AreNeeded c.args.policy.now c.args.user.now xs c.loop-request.all.items)
    (take_all c.loop-request.request-index c.args.requests.now c.loop-request-test.false) c.loop-request.invariant
