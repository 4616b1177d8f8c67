use Rattle.std.proofs.Common.{ap, arith, length, refl}
use Rattle.std.proofs.lemmas.Option.{slice_get_within}
use Rattle.rbac_terms.proofs.Reading.{read_some}
use Rattle.rbac_matrix.specs.Shown.{line_of}
use Rattle.rbac_matrix.specs.Lines.{line}
use Rattle.rbac_matrix.proofs.VerbLemmas.{passes_grant, still_had}
use Rattle.rbac_matrix.proofs.WalkLemmas.{bound_of_verb, cursor_bound}
use Rattle.rbac_matrix.proofs.bound_runs.Runs.fill_verbs.Goals as goal

pub loop-no-init : goal.loop-no-init
loop-no-init c =
    let within = c.whole_walk-walk.ensures.within c.args.index.now (line_of c.args.line) c.args.self.now c.requires.runs in
    record {
      told = c.requires.told;
      within = record { order = within.order; bound = within.bound; later = within.later };
      verbs = λ place verb at lacks k cursor. omega (arith, c.whole_walk-walk.ensures.first);
      within_all = omega arith;
      had = λ place lt. absurd (omega (arith, lt));
      same = refl;
    }

pub loop-no-preserved : goal.loop-no-preserved
loop-no-preserved c =
    let within = c.in-Some.ensures.within in
    let g = read_some c.args.index.now.grants c.in-Some.no c.in-Some.ensures.number in
    let adds = c.add_grant.ensures.adds g.0 g.1 in
    record {
      told = c.add_grant.ensures.told;
      within = rw c.add_grant.ensures.same (record { order = within.order; bound = within.bound; later = within.later });
      verbs = passes_grant c.args.index.now c.args.universe.now (line_of c.args.line) c.loop-no.self.verbs.words.items c.add_grant.new.self.verbs.words.items c.loop-no.walk c.next_bound.new.walk c.in-Some.no g.0 c.in-Some.ensures.found g.1 adds c.loop-no.invariant.verbs;
      within_all = c.past_had-had.ensures.within;
      had = still_had g.0.rule.rule c.args.universe.now.verbs c.loop-no.self.verbs.words.items c.add_grant.new.self.verbs.words.items adds c.loop-no.had c.past_had-had.result c.loop-no.invariant.had c.past_had-had.ensures.had;
      same = rw (c.add_grant.ensures.same, c.loop-no.invariant.same) refl;
    }

pub returns-then-had-all-clause-verbs : goal.returns-then-had-all-clause-verbs
returns-then-had-all-clause-verbs c = λ place verb at lacks.
    let g = read_some c.args.index.now.grants c.in-Some.no c.in-Some.ensures.number in
    let within = slice_get_within c.args.universe.now.verbs place verb at in
    absurd (still_had g.0.rule.rule c.args.universe.now.verbs c.loop-no.self.verbs.words.items c.add_grant.new.self.verbs.words.items (c.add_grant.ensures.adds g.0 g.1) c.loop-no.had c.past_had-had.result c.loop-no.invariant.had c.past_had-had.ensures.had place (omega (arith, within, c.if-had-all.true, ap length c.verbs-all.ensures.verbs)) lacks)

pub returns-clause-verbs : goal.returns-clause-verbs
returns-clause-verbs c = λ place verb at lacks k cursor.
    c.in_default.ensures.found k (c.loop-no.invariant.verbs place verb at lacks k cursor) (bound_of_verb c.args.index.now (line_of c.args.line) verb k (cursor_bound c.args.index.now (line (line_of c.args.line).who (line_of c.args.line).namespace verb) k cursor))
