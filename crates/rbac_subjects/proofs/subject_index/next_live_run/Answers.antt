use Rattle.rbac_subjects.proofs.NextRunLemmas.{found_run, none_left}
use Rattle.rbac_subjects.proofs.subject_index.next_live_run.Goals as goal

pub returns-in_default : goal.returns-in_default
returns-in_default c =
    none_left c.args.policy.now c.len.ensures.policy c.args.named.now c.requires c.args.principal.now c.args.live
    c.args.from c.place-here.result.binding c.place-here.ensures.binding c.in_default.ensures

pub returns : goal.returns
returns c =
    found_run c.args.policy.now c.len.ensures.policy c.args.named.now c.requires c.args.principal.now c.args.live
    c.args.from c.place-here.result.binding c.place-here.ensures.binding
    c.in-Some.place c.grants_of-start.result.0 c.grants_of-start.result.1 c.max.result c.in-Some.ensures (λ n at. c.grants_of-start.ensures.between n at) c.grants_of-start.ensures.within c.max.ensures
