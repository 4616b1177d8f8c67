use Rattle.std.proofs.Common.{◌≡◌, ◌↔◌, Any, Contains, List, subst}
use Rattle.std.proofs.lemmas.Result.{IfOk-weaker}
use Rattle.rbac_use.specs.LeastRules.{HasRulesOf, IsTurned, pair_of}
use Rattle.rbac_use.specs.Requests.{request_of}
use Rattle.rbac_use.specs.declared.grouping.Group.{Group}
use Rattle.rbac_use.specs.declared.grouping.Pair.{Pair}
use Rattle.rbac_use.specs.declared.least.Least.{Least}
use Rattle.rbac_use.specs.declared.request.Request.{Request}
use Rattle.rbac_use.proofs.ByVerbs.{AreSteps, are_by_verbs}
use Rattle.rbac_use.proofs.LeastAllowed.{allows_needed}
use Rattle.rbac_use.proofs.least.least_of.Goals as goal

pub returns-clause-least : goal.returns-clause-least
returns-clause-least c =
    let p = c.args.policy.now in
    let log = c.args.log.now in
    let user = c.args.user.now in
    let names = c.args.names in
    let requests = c.in_ok-requests.requests.items in
    let asked = c.in_ok-asked_pairs.field-0.items in
    let verbs = c.in_ok-verbs.verbs.items in
    let turned = c.in_ok-turned.field-0.items in
    let groups = c.in_ok-rules.rules.items in
    let steps : AreSteps p log user names requests asked verbs turned groups = record {
      needed = c.in_ok-requests.ensures;
      asked_are = subst (λ (rs : List Request). (x : Pair) → Contains asked x ↔ Any (λ q. pair_of names (request_of q) ≡ x) rs) c.as_slice.ensures.value c.in_ok-asked_pairs.ensures;
      by_target = c.in_ok-verbs.ensures;
      turned_are = subst (λ (gs : List Group). (x : Pair) → Contains turned x ↔ Any (λ g. IsTurned g x) gs) c.as_slice-2.ensures.value c.in_ok-turned.ensures;
      by_verbs = c.in_ok-rules.ensures;
    } in
    let are = are_by_verbs p log user names requests asked verbs turned groups steps in
    IfOk-weaker c.least_from.result _ _
    (λ (least : Least) rules. (groups, are, subst (λ (gs : List Group). HasRulesOf gs least) c.as_slice-3.ensures.value rules))
    c.least_from.ensures

pub returns-clause-needed : goal.returns-clause-needed
returns-clause-needed c =
    IfOk-weaker c.least_from.result _ _
    (λ (least : Least) is. allows_needed c.args.policy.now c.args.log.now c.args.user.now c.args.names least is)
    (returns-clause-least c)

pub least_from-requires : goal.least_from-requires
least_from-requires c = rw c.as_slice-3.ensures.value c.in_ok-rules.ensures.ordered
