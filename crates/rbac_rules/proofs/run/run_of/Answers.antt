use Rattle.std.proofs.Common.{◌≡◌, refl, rules, slice_get}
use Rattle.std.specs.Prelude.{Some}
use Rattle.std.proofs.lemmas.Option.{slice_get_read}
use Rattle.rbac_rules.proofs.Running.{no_grants, run_of_binding}
use Rattle.rbac_rules.proofs.run.run_of.Goals as goal

pub returns-then-no-end-clause-run : goal.returns-then-no-end-clause-run
returns-then-no-end-clause-run c =
    let there : slice_get c.args.policy.now.held.bindings c.args.place ≡ Some c.index-bindings-place.result = slice_get_read _ _ _ _ refl c.requires (rw c.bindings.ensures.bindings at c.index-bindings-place.is) in
    no_grants c.args.policy.now c.args.who.now c.args.scope.now c.args.place c.index-bindings-place.result there c.grants_of-no.result.0 c.grants_of-no.result.1 (λ n at of. c.grants_of-no.ensures.between n at of) c.if-no-end.true

pub returns-clause-run : goal.returns-clause-run
returns-clause-run c =
    let there : slice_get c.args.policy.now.held.bindings c.args.place ≡ Some c.index-bindings-place.result = slice_get_read _ _ _ _ refl c.requires (rw c.bindings.ensures.bindings at c.index-bindings-place.is) in
    run_of_binding c.args.policy.now c.args.who.now c.args.scope.now c.args.place c.index-bindings-place.result there c.grants_of-no.result.0 c.grants_of-no.result.1 (λ n at of. c.grants_of-no.ensures.between n at of)
    c.grants_of-no.ensures.policy c.grants_of-no.ensures.ordered c.grants_of-no.ensures.within (λ n at of. c.grants_of-no.ensures.upto n at of) c.in_ok-subject_place.subject_place c.if-no-end.false (search rules) c.in_ok-subject_place.ensures
