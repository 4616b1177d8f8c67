use Rattle.std.proofs.Common.{◌∙◌, ◌↔◌, Any, Contains, List, arith, get_or, subst, sym, take, ℕ}
use Rattle.std.proofs.lemmas.List.{take_all, take_more}
use Rattle.rbac_paths.specs.Joints.{IsOverNobody, IsOverOthersAt}
use Rattle.rbac_paths.specs.Takeovers.{AreTakeovers, HaveTakeovers}
use Rattle.rbac_paths.specs.Told.{grant_holding}
use Rattle.rbac_steps.specs.declared.steps.Step.{Step}
use Rattle.rbac_paths.specs.declared.takeover.Takeover.{Takeover}
use Rattle.rbac_paths.proofs.Kept.{kept_more, kept_same}
use Rattle.rbac_paths.proofs.Others.{over_at}
use Rattle.rbac_paths.proofs.RuleTakeovers.{rule_of_grant}
use Rattle.rbac_paths.proofs.Takeovers.{may_take}
use Rattle.rbac_paths.proofs.other_nodes.over_others_among.Goals as goal
use Rattle.rbac_paths.proofs.other_nodes.over_others_among.Goals.{then-some_is_over_nobody+in_ok-push, else-some_is_over_nobody}

pub loop-no-preserved : goal.loop-no-preserved
loop-no-preserved c =
    let p = c.args.policy.now in
    let numbers = c.args.numbers.now in
    let i = c.loop-no.no-index in
    let n = get_or numbers i 0 in
    let few = c.loop-no.few in
    let place = c.place.result in
    let of = c.place.ensures.binding in
    let g = of.0 in
    let sourced = rule_of_grant p.held place g (c.place.ensures.grant ∙ of.1) in
    let ts = c.of_grant.result.now in
    let same : (steps : List Step) → HaveTakeovers p.held steps c.args.takeovers.now → Any (λ t. IsOverNobody t.over) ts ↔ IsOverOthersAt p steps n = λ steps have.
    over_at p steps n g of.1 (Any (λ t. IsOverNobody t.over) ts) (may_take steps (grant_holding g) ts (subst (λ (xs : List Takeover). AreTakeovers steps g.rule.rule xs) (sym c.of_grant.ensures) (have place.role place.rule g.rule sourced))) in
    rw (take_more numbers i 0 c.loop-no-test.true) (elim c.if-some_is_over_nobody.branch [
      | then-some_is_over_nobody+in_ok-push w ↦ rw (w.few-is, w.in_ok-push.ensures.ok)
          (λ steps have. kept_more (IsOverOthersAt p steps) (take i numbers) n few (c.loop-no.invariant steps have) ((same steps have).0 (c.some_is_over_nobody.ensures.0 w.if-some_is_over_nobody.true)))
      | else-some_is_over_nobody w ↦ rw w.few-is
          (λ steps have. kept_same (IsOverOthersAt p steps) (take i numbers) n few (c.loop-no.invariant steps have) (λ over. (let both = c.some_is_over_nobody.ensures.1 ((same steps have).1 over) in let not = w.if-some_is_over_nobody.false in cc)))
    ])

pub returns : goal.returns
returns c steps have =
    let p = c.args.policy.now in
    let numbers = c.args.numbers.now in
    subst (λ (ns : List ℕ). (n : ℕ) → Contains c.loop-no.few n ↔ (Contains ns n × IsOverOthersAt p steps n))
    (take_all c.loop-no.no-index numbers (let end = c.loop-no-test.false in omega (arith, end))) (c.loop-no.invariant steps have)
