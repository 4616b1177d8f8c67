use Rattle.rbac_matrix.specs.Shown.{line_of}
use Rattle.rbac_matrix.proofs.BlockLemmas.{blocks_here}
use Rattle.rbac_matrix.proofs.BeginLemmas.{ready_line}
use Rattle.rbac_matrix.proofs.LineLemmas.{are_real}
use Rattle.rbac_matrix.proofs.TouchLemmas.{metered_on}
use Rattle.rbac_matrix.proofs.enumeration.Rows.pass.Goals as goal

pub advance-requires-clause-real : goal.advance-requires-clause-real
advance-requires-clause-real c = are_real c.args.self.now.index.now c.args.self.now.universe.now c.args.self.now.reaches.now (line_of c.in-Some.line) c.requires.going.2.policy c.requires.going.2.universe c.requires.going.2.reaches c.line_at.ensures.limits.targets

pub returns-clause-way : goal.returns-clause-way
returns-clause-way c = record {
  policy = c.requires.going.2.policy;
  universe = c.requires.going.2.universe;
  reaches = c.requires.going.2.reaches;
  ready = ready_line c.args.self.now.index.now c.args.self.now.universe.now c.args.self.now.reaches.now c.args.self.now.at c.args.self.now.from c.args.upto c.advance.new.seats c.requires.going.2.ready.settled (line_of c.in-Some.line) _ c.in-Some.ensures.line c.advance.ensures.seated;
  runs = rw c.advance.ensures.runs c.requires.going.2.runs;
  blocks = blocks_here c.args.self.now.index.now c.args.self.now.universe.now c.args.self.now.at (line_of c.in-Some.line) _ c.advance.new.kept c.advance.new.seats c.in-Some.ensures.line c.advance.ensures.blocks;
  cluster_wide = c.requires.going.2.cluster_wide;
  rows = c.requires.going.2.rows;
  is_returned = c.requires.going.2.is_returned;
  metered = metered_on c.args.self.now.index.now c.args.self.now.universe.now c.args.self.now.start c.args.self.now.sought c.args.self.now.at c.args.self.now.seats.now c.advance.new.seats c.requires.going.2.rows c.args.self.now.meter c.advance.new.meter c.requires.going.2.metered c.advance.ensures.costs;
}

pub advance-requires-clause-blocks : goal.advance-requires-clause-blocks
advance-requires-clause-blocks c = c.requires.going.2.blocks (line_of c.in-Some.line) _ c.in-Some.ensures.line
