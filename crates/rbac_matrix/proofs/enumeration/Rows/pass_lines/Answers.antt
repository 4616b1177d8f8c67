use Rattle.std.proofs.Common.{◌∙◌, subst, sym}
use Rattle.rbac_matrix.specs.RepeatedLines.{HasRepeatsLeft}
use Rattle.rbac_matrix.specs.Lines.{LineView, next_verb}
use Rattle.rbac_matrix.specs.Shown.{line_of}
use Rattle.rbac_matrix.proofs.RepeatedLemmas.{known_here, metered_lines, passes_lines}
use Rattle.rbac_matrix.proofs.PassLemmas.{same_head}
use Rattle.rbac_matrix.proofs.enumeration.Rows.pass_lines.Goals as goal

pub empty_line-requires-clause-runs : goal.empty_line-requires-clause-runs
empty_line-requires-clause-runs c = (c.requires.way.1.runs (line_of c.in-Some.line) _ c.in-Some.ensures.line).0.0

pub next_line-self-requires-clause-known : goal.next_line-self-requires-clause-known
next_line-self-requires-clause-known c =
    let runs = (c.requires.way.1.runs (line_of c.in-Some.line) _ c.in-Some.ensures.line).0 in
    known_here c.args.self.now.index.now c.args.self.now.universe.now c.args.self.now.at c.after_repeats-next.result (line_of c.in-Some.line) c.args.self.now.kept.runs c.keep_here.new.self c.in-Some.ensures.place runs c.keep_here.ensures c.after_repeats-next.ensures.moved

pub returns-clause-going : goal.returns-clause-going
returns-clause-going c =
    let way = c.requires.way.1 in
    record {
      policy = way.policy;
      universe = way.universe;
      reaches = way.reaches;
      ready = c.next_line-self.ensures.ready;
      runs = c.next_line-self.ensures.runs;
      blocks = c.next_line-self.ensures.blocks;
      cluster_wide = way.cluster_wide;
      rows = way.rows;
      is_returned = way.is_returned;
      metered = metered_lines c.args.self.now.index.now c.args.self.now.universe.now c.args.self.now.reaches.now c.args.self.now.start c.args.self.now.sought way.rows c.args.self.now.at (next_verb c.args.self.now.at) c.after_repeats-next.result c.next_line-self.result (line_of c.in-Some.line) c.args.self.now.from c.requires.way.0 c.args.self.now.seats.now c.empty_line.new.seats c.next_line-self.new.seats c.args.self.now.meter c.next_line-self.new.meter way.policy way.universe way.reaches
          c.in-Some.ensures.line (way.ready.seated (line_of c.in-Some.line) _ c.in-Some.ensures.line) c.empty_line.ensures c.after_repeats-next.ensures.passes c.next_line-self.ensures.skips c.next_line-self.ensures.costs way.metered;
    }

pub returns-clause-passes : goal.returns-clause-passes
returns-clause-passes c =
    let way = c.requires.way.1 in
    let line = same_head c.requires.rest.0 (line_of c.in-Some.line) c.requires.rest.1 _ (sym c.requires.rest.2 ∙ c.in-Some.ensures.line) in
    let rest = subst (λ (l : LineView). HasRepeatsLeft c.args.self.now.index.now c.args.self.now.universe.now l c.args.self.now.from) line c.requires.rest.3 in
    passes_lines c.args.self.now.index.now way.policy c.args.self.now.universe.now way.universe c.args.self.now.at (next_verb c.args.self.now.at) c.after_repeats-next.result c.next_line-self.result (line_of c.in-Some.line) c.args.self.now.from c.in-Some.ensures.line rest c.after_repeats-next.ensures.passes c.next_line-self.ensures.skips
