use Rattle.std.proofs.Common.{◌≡◌, ◌≢◌, ◌<◌, ◌≤◌, [], ap, arith, length, refl}
use Rattle.std.proofs.lemmas.Bool.{both_ways}
use Rattle.std.proofs.lemmas.List.{length-map}
use Rattle.rbac_model.specs.Universes.{Listed}
use Rattle.rbac_matrix.specs.Enumeration.{requests_left}
use Rattle.rbac_matrix.specs.Lines.{lines_from}
use Rattle.rbac_matrix.specs.RepeatedLines.{HasRepeatsFrom}
use Rattle.rbac_matrix.specs.Shown.{line_of}
use Rattle.rbac_matrix.proofs.OnceLines.{lines_few, lines_on, lines_some}
use Rattle.rbac_matrix.proofs.OncePlaces.{places_fewer, places_some}
use Rattle.rbac_matrix.proofs.enumeration.Rows.pass_ahead.Goals as goal

pub pass_lines-requires-clause-way : goal.pass_lines-requires-clause-way
pass_lines-requires-clause-way c = (0, c.requires)

pub pass_lines-requires-clause-rest : goal.pass_lines-requires-clause-rest
pass_lines-requires-clause-rest c =
    let l = line_of c.in-Some.line in
    let some : l.namespace ≢ [] = λ none. both_ways _ c.if-is_empty.false (c.is_empty.ensures.1 none) in
    (l, _, c.in-Some.ensures.line, λ place low high. c.repeats_end-end.ensures.repeats l _ c.in-Some.ensures.line some place low (omega (arith, high, ap length c.targets.ensures.targets, length-map c.args.self.now.universe.now.targets (λ (t : Listed). t.0))))

-- up to this place the line has only repeats
ahead : (c : goal.After-pass_to) → HasRepeatsFrom c.args.self.now.index.now c.args.self.now.universe.now (line_of c.in-Some.line) c.args.self.now.from c.pass_to.new.self.from
ahead c = λ place low high. c.repeats_end-end.ensures.repeats (line_of c.in-Some.line) _ c.in-Some.ensures.line (λ none. both_ways _ c.if-is_empty.false (c.is_empty.ensures.1 none)) place low (omega (arith, high, c.pass_to.ensures.place.1))

later : (c : goal.After-pass_to) → c.args.self.now.from < c.pass_to.new.self.from
later c = omega (arith, c.pass_to.ensures.place.1)

within : (c : goal.After-pass_to) → c.pass_to.new.self.from ≤ length c.args.self.now.universe.now.targets
within c = omega (arith, c.pass_to.ensures.place.1, c.repeats_end-end.ensures.within)

pub returns-clause-some : goal.returns-clause-some
returns-clause-some c = places_some c.args.self.now c.pass_to.new.self c.requires.policy c.pass_to.ensures.same (line_of c.in-Some.line) _ c.in-Some.ensures.line c.pass_to.ensures.place.0 (later c) (within c) (ahead c)

fewer : (c : goal.After-pass_to) → requests_left c.pass_to.new.self < requests_left c.args.self.now
fewer c = places_fewer c.args.self.now c.pass_to.new.self c.requires.policy c.pass_to.ensures.same (line_of c.in-Some.line) _ c.in-Some.ensures.line c.pass_to.ensures.place.0 (later c) (within c) (ahead c)

pub returns-clause-few : goal.returns-clause-few
returns-clause-few c = omega (arith, fewer c)

pub returns-clause-fewer : goal.returns-clause-fewer
returns-clause-fewer c =
    let lines : length (lines_from c.pass_to.new.self.universe.now c.pass_to.new.self.at) ≡ length (lines_from c.args.self.now.universe.now c.args.self.now.at) = rw (c.pass_to.ensures.same.universe, c.pass_to.ensures.place.0) refl in
    λ yes. omega (arith, fewer c, lines)

pub returns-then-end-targets-clause-some : goal.returns-then-end-targets-clause-some
returns-then-end-targets-clause-some c = lines_some c.args.self.now c.pass_lines.new.self c.requires.policy c.pass_lines.ensures.same c.pass_lines.ensures.passes c.pass_lines.ensures.from

pub returns-then-end-targets-clause-few : goal.returns-then-end-targets-clause-few
returns-then-end-targets-clause-few c = lines_few c.args.self.now c.pass_lines.new.self c.requires.policy c.pass_lines.ensures.same c.pass_lines.ensures.passes c.pass_lines.ensures.from

pub returns-then-end-targets-clause-fewer : goal.returns-then-end-targets-clause-fewer
returns-then-end-targets-clause-fewer c =
    let few = returns-then-end-targets-clause-few c in
    let on = lines_on c.args.self.now c.pass_lines.new.self c.requires.policy c.pass_lines.ensures.same c.pass_lines.ensures.passes c.pass_lines.ensures.from in
    λ yes. omega (arith, few, on)
