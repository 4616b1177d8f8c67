use Rattle.std.proofs.Common.{arith}
use Rattle.std.proofs.lemmas.Bool.{both_ways}
use Rattle.std.proofs.lemmas.Option.{slice_get_within}
use Rattle.rbac_subjects.specs.Bound.{IsNextRun}
use Rattle.rbac_use.specs.Requests.{request_of}
use Rattle.rbac_use.proofs.NextAllowing.{goes_on, is_next, more_done, named_here, none_done, none_left}
use Rattle.rbac_use.proofs.next_binding.next_allowing.Goals as goal

pub loop-start-init : goal.loop-start-init
loop-start-init c =
    none_done c.args.policy.now (request_of c.args.request) c.args.place c.grants_of-from.result.0 c.grants_of-from.result.1 c.grants_of-from.ensures.ordered c.grants_of-from.ensures.between c.grants_of-from.ensures.upto

pub place-here-requires : goal.place-here-requires
place-here-requires c =
    let p = c.args.policy.now in
    let q = c.args.request in
    let run : IsNextRun p q.who.now q.namespace.now c.loop-start.from c.in-Some.start c.in-Some.field-0-1 = rw (← c.requires) c.in-Some.ensures in
    let bound = run.bound c.in-Some.start (omega arith) run.some in
    slice_get_within p.grants c.in-Some.start bound.0 bound.1

pub allows_at-requires-clause-place : goal.allows_at-requires-clause-place
allows_at-requires-clause-place c =
    let of = c.place-here.ensures.binding in
    slice_get_within c.args.policy.now.held.bindings c.place-here.result.binding of.0.binding of.2

pub allows_at-requires-clause-named : goal.allows_at-requires-clause-named
allows_at-requires-clause-named c =
    named_here c.args.policy.now (request_of c.args.request) c.args.place c.loop-start.from c.loop-start.invariant c.grants_of-from.ensures.policy c.in-Some.start c.in-Some.field-0-1 c.place-here.result.binding (rw (← c.requires) c.in-Some.ensures) c.place-here.ensures.binding

pub returns-then-allows_at-clause-next : goal.returns-then-allows_at-clause-next
returns-then-allows_at-clause-next c =
    is_next c.args.policy.now (request_of c.args.request) c.args.place c.loop-start.from c.loop-start.invariant c.grants_of-from.ensures.policy c.in-Some.start c.in-Some.field-0-1 c.place-here.result.binding (rw (← c.requires) c.in-Some.ensures) c.place-here.ensures.binding
    (c.allows_at.ensures.0 c.if-allows_at.true)

pub loop-start-smaller : goal.loop-start-smaller
loop-start-smaller c =
    let p = c.args.policy.now in
    let low = goes_on p (request_of c.args.request) c.args.place c.loop-start.from c.loop-start.invariant c.grants_of-from.ensures.policy c.in-Some.start c.in-Some.field-0-1 c.place-here.result.binding (rw (← c.requires) c.in-Some.ensures) c.place-here.ensures.binding c.grants_of-from-in-Some.result.1 c.grants_of-from-in-Some.ensures.upto in
    omega (arith, low, c.grants_of-from-in-Some.ensures.within)

pub loop-start-preserved : goal.loop-start-preserved
loop-start-preserved c =
    more_done c.args.policy.now (request_of c.args.request) c.args.place c.loop-start.from c.loop-start.invariant c.grants_of-from.ensures.policy c.in-Some.start c.in-Some.field-0-1 c.place-here.result.binding (rw (← c.requires) c.in-Some.ensures) c.place-here.ensures.binding c.grants_of-from-in-Some.result.1 c.grants_of-from-in-Some.ensures.upto
    (λ allowed. both_ways _ c.if-allows_at.false (c.allows_at.ensures.1 allowed))

pub returns-clause-next : goal.returns-clause-next
returns-clause-next c =
    none_left c.args.policy.now (request_of c.args.request) c.args.place c.loop-start.from c.loop-start.invariant (rw (← c.requires) c.in_default.ensures)
