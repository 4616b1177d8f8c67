use Rattle.std.proofs.Common.{[], ◌∷◌, ◌∙◌, arith, refl}
use Rattle.rbac_matrix.specs.Enumeration.{AreLeft}
use Rattle.rbac_matrix.specs.Passing.{Passes}
use Rattle.rbac_matrix.proofs.OnceLemmas.{cells, row, come_first, come_grant, come_over, come_passes, come_ready, come_repeat, come_within, ended_first, ended_passes, left_passes, no_repeats, one_repeat, passes_few, passes_fewer, some_then}
use Rattle.rbac_matrix.proofs.enumeration.Rows.pass_repeat.Goals as goal

pub returns-in_default-clause-some : goal.returns-in_default-clause-some
returns-in_default-clause-some c = left_passes c.args.self.now c.come.new.self c.come.ensures.same [] (ended_passes c.args.self.now c.come.new.self c.requires.policy c.come.ensures.same c.in_default.ensures.found) no_repeats

pub returns-in_default-clause-first : goal.returns-in_default-clause-first
returns-in_default-clause-first c = λ none. ended_first c.args.self.now c.come.new.self c.requires.policy c.come.ensures.same c.in_default.ensures.found

pub returns-in_default-clause-going : goal.returns-in_default-clause-going
returns-in_default-clause-going c = c.come.ensures.way 0 (c.in_default.ensures.found.ready c.come.new.self.from 0)

pub returns-in_default-clause-few : goal.returns-in_default-clause-few
returns-in_default-clause-few c = passes_few c.args.self.now c.come.new.self c.come.ensures.same [] (ended_passes c.args.self.now c.come.new.self c.requires.policy c.come.ensures.same c.in_default.ensures.found)

pub repeats_by-requires-clause-few : goal.repeats_by-requires-clause-few
repeats_by-requires-clause-few c = come_grant c.args.self.now c.come.new.self c.requires.policy c.come.ensures.same c.in-Some.field-0-0 c.in-Some.no c.in-Some.ensures.place c.in-Some.ensures.found

pub returns-then-not-repeats_by-clause-some : goal.returns-then-not-repeats_by-clause-some
returns-then-not-repeats_by-clause-some c = left_passes c.args.self.now c.come.new.self c.come.ensures.same [] (come_passes c.args.self.now c.come.new.self c.requires.policy c.come.ensures.same c.in-Some.field-0-0 c.in-Some.no c.in-Some.ensures.place c.in-Some.ensures.found) no_repeats

pub returns-then-not-repeats_by-clause-going : goal.returns-then-not-repeats_by-clause-going
returns-then-not-repeats_by-clause-going c = c.come.ensures.way 0 (come_ready c.args.self.now c.come.new.self c.requires.policy c.come.ensures.same c.in-Some.field-0-0 c.in-Some.no c.in-Some.ensures.place c.in-Some.ensures.found)

pub pass_to-requires-clause-going : goal.pass_to-requires-clause-going
pass_to-requires-clause-going c = c.come.ensures.way 0 (come_ready c.args.self.now c.come.new.self c.requires.policy c.come.ensures.same c.in-Some.field-0-0 c.in-Some.no c.in-Some.ensures.place c.in-Some.ensures.found)

pub returns-then-not-repeats_by-clause-few : goal.returns-then-not-repeats_by-clause-few
returns-then-not-repeats_by-clause-few c = passes_few c.args.self.now c.come.new.self c.come.ensures.same [] (come_passes c.args.self.now c.come.new.self c.requires.policy c.come.ensures.same c.in-Some.field-0-0 c.in-Some.no c.in-Some.ensures.place c.in-Some.ensures.found)

pub returns-then-not-repeats_by-clause-first : goal.returns-then-not-repeats_by-clause-first
returns-then-not-repeats_by-clause-first c = λ none. come_first c.args.self.now c.come.new.self c.requires.policy c.come.ensures.same c.in-Some.field-0-0 c.in-Some.no c.in-Some.ensures.place c.in-Some.ensures.found c.requires.universe c.repeats_by.result c.repeats_by.ensures.repeats search

-- only this row is passed
over : (c : goal.After-pass_to) → Passes c.come.new.self.index.now.held (cells c.come.new.self) (cells c.pass_to.new.self) (row c.args.self.now c.come.new.self c.requires.policy c.come.ensures.same c.in-Some.field-0-0 c.in-Some.no c.in-Some.ensures.place c.in-Some.ensures.found ∷ [])
over c = come_over c.args.self.now c.come.new.self c.requires.policy c.come.ensures.same c.in-Some.field-0-0 c.in-Some.no c.in-Some.ensures.place c.in-Some.ensures.found c.pass_to.new.self c.pass_to.ensures.same c.pass_to.ensures.place.0 (omega (arith, c.pass_to.ensures.place.1))

pub returns-clause-some : goal.returns-clause-some
returns-clause-some c =
    let s = c.args.self.now in
    let t = c.come.new.self in
    let v = c.pass_to.new.self in
    let f = c.in-Some.ensures.found in
    let before = left_passes s t c.come.ensures.same [] (come_passes s t c.requires.policy c.come.ensures.same c.in-Some.field-0-0 c.in-Some.no c.in-Some.ensures.place f) no_repeats in
    let repeat = come_repeat s t c.requires.policy c.come.ensures.same c.in-Some.field-0-0 c.in-Some.no c.in-Some.ensures.place f c.requires.universe c.repeats_by.result c.repeats_by.ensures.repeats in
    some_then (AreLeft s) (AreLeft t) (AreLeft v) before (left_passes t v c.pass_to.ensures.same _ (over c) (one_repeat _ (repeat ∙ c.if-not-repeats_by.false)))

pub overflow_add-self : goal.overflow_add-self
overflow_add-self c = omega (arith, c.repeats_by.ensures.limits.targets, come_within c.args.self.now c.come.new.self c.requires.policy c.come.ensures.same c.in-Some.field-0-0 c.in-Some.no c.in-Some.ensures.place c.in-Some.ensures.found)

pub returns-clause-fewer : goal.returns-clause-fewer
returns-clause-fewer c =
    let s = c.args.self.now in
    let t = c.come.new.self in
    let few = passes_few s t c.come.ensures.same [] (come_passes s t c.requires.policy c.come.ensures.same c.in-Some.field-0-0 c.in-Some.no c.in-Some.ensures.place c.in-Some.ensures.found) in
    let fewer = passes_fewer t c.pass_to.new.self _ (over c) in
    λ yes. omega (arith, few, fewer)

pub returns-clause-few : goal.returns-clause-few
returns-clause-few c = let fewer = returns-clause-fewer c refl in omega (arith, fewer)
