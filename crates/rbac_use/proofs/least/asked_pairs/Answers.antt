use Rattle.std.proofs.Common.{◌≡◌, ◌↔◌, ◌∷◌, ◌++◌, ◌∙◌, [], Any, Contains, List, ap, subst, take, take_all}
use Rattle.rbac_use.specs.LeastRules.{pair_of}
use Rattle.rbac_use.specs.Requests.{request_of}
use Rattle.rbac_use.specs.declared.grouping.Pair.{Pair}
use Rattle.rbac_use.specs.declared.request.Request.{Request}
use Rattle.rbac_use.proofs.Pushed.{contains_pushed, one_step, taken_more}
use Rattle.rbac_use.proofs.least.asked_pairs.Goals as goal

pub loop-request-preserved : goal.loop-request-preserved
loop-request-preserved c x =
    let requests = c.args.requests.now in
    let i = c.loop-request.request-index in
    let q = c.request-item.result in
    let old = c.loop-request.pairs.items in
    let names = c.args.names in
    let pushed : c.push.new.self.items ≡ old ++ pair_of names (request_of q) ∷ [] = c.in_ok-push.ensures.items ∙ ap (λ (y : Pair). old ++ y ∷ []) c.in_ok-pair_of.ensures in
    rw (pushed, taken_more requests i q c.loop-request-test.true c.request-item.is)
    (one_step (λ (r : Request). pair_of names (request_of r) ≡ x) (take i requests) q (Contains old x) (Contains (old ++ pair_of names (request_of q) ∷ []) x) (c.loop-request.invariant x) (contains_pushed old (pair_of names (request_of q)) x))

pub returns : goal.returns
returns c x =
    subst (λ (rs : List Request). Contains c.loop-request.pairs.items x ↔ Any (λ q. pair_of c.args.names (request_of q) ≡ x) rs)
    (take_all c.loop-request.request-index c.args.requests.now c.loop-request-test.false) (c.loop-request.invariant x)
