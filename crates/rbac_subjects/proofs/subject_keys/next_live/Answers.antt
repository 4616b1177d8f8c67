use Rattle.std.proofs.lemmas.Bool.{both_ways}
use Rattle.rbac_subjects.proofs.KeyedLemmas.{first_live, none_next, next_inside, next_outside}
use Rattle.rbac_subjects.proofs.subject_keys.next_live.Goals as goal

pub returns-in_default : goal.returns-in_default
returns-in_default c = λ n le p. c.in_default.ensures n le p.0

pub returns-then-has : goal.returns-then-has
returns-then-has c = first_live c.args.entries.now c.args.live c.args.key.now c.args.from c.in-Some.first c.in-Some.ensures (c.has.ensures.0 c.if-has.true)

pub returns-in_default-next_under : goal.returns-in_default-next_under
returns-in_default-next_under c =
    none_next c.args.entries.now c.args.live c.args.key.now c.args.from c.in-Some.first c.in-Some.ensures
    (λ l. both_ways _ c.if-has.false (c.has.ensures.1 l)) c.max.result c.max.ensures c.in_default-next_under.ensures

pub returns-then-next-live : goal.returns-then-next-live
returns-then-next-live c =
    next_inside c.args.entries.now c.args.live c.args.key.now c.args.from c.in-Some.first c.in-Some.ensures
    (λ l. both_ways _ c.if-has.false (c.has.ensures.1 l)) c.max.result c.max.ensures c.in-Some-next_under.next c.in-Some-next_under.ensures c.if-next-live.true

pub returns-else-next-live : goal.returns-else-next-live
returns-else-next-live c =
    next_outside c.args.entries.now c.args.live c.args.key.now c.args.from c.in-Some.first c.in-Some.ensures
    (λ l. both_ways _ c.if-has.false (c.has.ensures.1 l)) c.max.result c.max.ensures c.in-Some-next_under.next c.in-Some-next_under.ensures c.if-next-live.false
