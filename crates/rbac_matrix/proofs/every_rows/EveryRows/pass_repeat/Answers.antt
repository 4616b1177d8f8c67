use Rattle.std.proofs.Common.{◌∙◌, arith, refl}
use Rattle.rbac_matrix.specs.EveryLeft.{AreEveryLeft}
use Rattle.rbac_matrix.proofs.OnceLemmas.{some_then}
use Rattle.rbac_matrix.proofs.OnceEveryLemmas.{every_binding, every_come, every_come_few, every_ended, every_ended_few, every_ended_first, every_first, every_grant, every_over, every_over_fewer, every_repeat, every_within}
use Rattle.rbac_matrix.proofs.OnceLines.{every_lines_fewer, every_lines_some}
use Rattle.rbac_matrix.proofs.every_rows.EveryRows.pass_repeat.Goals as goal

pub returns-in_default-clause-some : goal.returns-in_default-clause-some
returns-in_default-clause-some c = every_ended c.args.self.now c.come.new.self c.requires.way.policy c.come.ensures.same c.requires.below c.requires.within c.in_default.ensures.found

pub returns-in_default-clause-first : goal.returns-in_default-clause-first
returns-in_default-clause-first c = λ none. every_ended_first c.args.self.now c.come.new.self c.requires.way.policy c.come.ensures.same c.requires.below c.requires.within c.in_default.ensures.found

pub returns-in_default-clause-few : goal.returns-in_default-clause-few
returns-in_default-clause-few c = every_ended_few c.args.self.now c.come.new.self c.requires.way.policy c.come.ensures.same c.requires.below c.requires.within c.in_default.ensures.found

pub repeats_by-requires-clause-few : goal.repeats_by-requires-clause-few
repeats_by-requires-clause-few c = every_grant c.args.self.now c.come.new.self c.requires.way.policy c.come.ensures.same c.requires.below c.requires.within c.in-Some.no c.in-Some.ensures.found c.in-Some.ensures.binding

pub returns-then-not-repeats_by-clause-some : goal.returns-then-not-repeats_by-clause-some
returns-then-not-repeats_by-clause-some c = every_come c.args.self.now c.come.new.self c.requires.way.policy c.come.ensures.same c.requires.below c.requires.within c.in-Some.no c.in-Some.ensures.found c.in-Some.ensures.binding

pub returns-then-not-repeats_by-clause-few : goal.returns-then-not-repeats_by-clause-few
returns-then-not-repeats_by-clause-few c = every_come_few c.args.self.now c.come.new.self c.requires.way.policy c.come.ensures.same c.requires.below c.requires.within c.in-Some.no c.in-Some.ensures.found c.in-Some.ensures.binding

pub returns-then-not-repeats_by-clause-first : goal.returns-then-not-repeats_by-clause-first
returns-then-not-repeats_by-clause-first c = λ none. every_first c.args.self.now c.come.new.self c.requires.way.policy c.come.ensures.same c.requires.below c.requires.within c.in-Some.no c.in-Some.ensures.found c.in-Some.ensures.binding c.requires.way.universe c.repeats_by.result c.repeats_by.ensures.repeats search

pub pass_binding-requires-clause-within : goal.pass_binding-requires-clause-within
pass_binding-requires-clause-within c = every_within c.args.self.now c.come.new.self c.requires.way.policy c.come.ensures.same c.requires.below c.requires.within c.in-Some.no c.in-Some.ensures.found c.in-Some.ensures.binding

pub pass_binding-requires-clause-few : goal.pass_binding-requires-clause-few
pass_binding-requires-clause-few c = omega (arith, c.repeats_by.ensures.limits.targets, pass_binding-requires-clause-within c)

pub returns-clause-some : goal.returns-clause-some
returns-clause-some c =
    let s = c.args.self.now in
    let t = c.come.new.self in
    let v = c.pass_binding.new.self in
    let row = every_repeat s t c.requires.way.policy c.come.ensures.same c.requires.below c.requires.within c.in-Some.no c.in-Some.ensures.found c.in-Some.ensures.binding c.requires.way.universe c.repeats_by.result c.repeats_by.ensures.repeats in
    some_then (AreEveryLeft s) (AreEveryLeft t) (AreEveryLeft v)
    (every_come s t c.requires.way.policy c.come.ensures.same c.requires.below c.requires.within c.in-Some.no c.in-Some.ensures.found c.in-Some.ensures.binding)
    (every_over s t c.requires.way.policy c.come.ensures.same c.requires.below c.requires.within c.in-Some.no c.in-Some.ensures.found c.in-Some.ensures.binding v c.pass_binding.ensures.same c.pass_binding.ensures.place.0 c.pass_binding.ensures.place.1 c.pass_binding.ensures.place.2 (row ∙ c.if-not-repeats_by.false))

pub returns-clause-fewer : goal.returns-clause-fewer
returns-clause-fewer c =
    let s = c.args.self.now in
    let t = c.come.new.self in
    let v = c.pass_binding.new.self in
    let few = every_come_few s t c.requires.way.policy c.come.ensures.same c.requires.below c.requires.within c.in-Some.no c.in-Some.ensures.found c.in-Some.ensures.binding in
    let fewer = every_over_fewer s t c.requires.way.policy c.come.ensures.same c.requires.below c.requires.within c.in-Some.no c.in-Some.ensures.found c.in-Some.ensures.binding v c.pass_binding.ensures.same c.pass_binding.ensures.place.0 c.pass_binding.ensures.place.1 c.pass_binding.ensures.place.2 in
    λ yes. omega (arith, few, fewer)

pub returns-clause-few : goal.returns-clause-few
returns-clause-few c = let fewer = returns-clause-fewer c refl in omega (arith, fewer)

pub returns-then-is_repeated-clause-some : goal.returns-then-is_repeated-clause-some
returns-then-is_repeated-clause-some c =
    let s = c.args.self.now in
    let t = c.come.new.self in
    let v = c.pass_lines.new.self in
    let within = every_within s t c.requires.way.policy c.come.ensures.same c.requires.below c.requires.within c.in-Some.no c.in-Some.ensures.found c.in-Some.ensures.binding in
    some_then (AreEveryLeft s) (AreEveryLeft t) (AreEveryLeft v)
    (every_come s t c.requires.way.policy c.come.ensures.same c.requires.below c.requires.within c.in-Some.no c.in-Some.ensures.found c.in-Some.ensures.binding)
    (every_lines_some t v (rw c.come.ensures.same.index c.requires.way.policy) c.pass_lines.ensures.same c.pass_lines.ensures.passes c.pass_lines.ensures.from within)

pub returns-then-is_repeated-clause-fewer : goal.returns-then-is_repeated-clause-fewer
returns-then-is_repeated-clause-fewer c =
    let s = c.args.self.now in
    let t = c.come.new.self in
    let v = c.pass_lines.new.self in
    let few = every_come_few s t c.requires.way.policy c.come.ensures.same c.requires.below c.requires.within c.in-Some.no c.in-Some.ensures.found c.in-Some.ensures.binding in
    let within = every_within s t c.requires.way.policy c.come.ensures.same c.requires.below c.requires.within c.in-Some.no c.in-Some.ensures.found c.in-Some.ensures.binding in
    let binding = every_binding s t c.requires.way.policy c.come.ensures.same c.requires.below c.requires.within c.in-Some.no c.in-Some.ensures.found c.in-Some.ensures.binding in
    let fewer = every_lines_fewer t v (rw c.come.ensures.same.index c.requires.way.policy) c.pass_lines.ensures.same c.pass_lines.ensures.passes c.pass_lines.ensures.from within binding in
    λ yes. omega (arith, few, fewer)

pub returns-then-is_repeated-clause-few : goal.returns-then-is_repeated-clause-few
returns-then-is_repeated-clause-few c = let fewer = returns-then-is_repeated-clause-fewer c refl in omega (arith, fewer)
