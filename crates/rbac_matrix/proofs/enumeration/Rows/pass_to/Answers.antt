use Rattle.std.proofs.Common.{refl}
use Rattle.rbac_matrix.specs.Shown.{line_of}
use Rattle.rbac_matrix.proofs.BlockLemmas.{before_seated, blocks_here}
use Rattle.rbac_matrix.proofs.BeginLemmas.{ready_line}
use Rattle.rbac_matrix.proofs.EnumLemmas.{ready_past}
use Rattle.rbac_matrix.proofs.LineLemmas.{are_real}
use Rattle.rbac_matrix.proofs.TouchLemmas.{metered_on}
use Rattle.rbac_matrix.proofs.enumeration.Rows.pass_to.Goals as goal

pub advance_to-requires-clause-real : goal.advance_to-requires-clause-real
advance_to-requires-clause-real c = are_real c.args.self.now.index.now c.args.self.now.universe.now c.args.self.now.reaches.now (line_of c.in-Some.line) c.requires.going.policy c.requires.going.universe c.requires.going.reaches c.line_at.ensures.limits.targets

pub advance_to-requires-clause-blocks : goal.advance_to-requires-clause-blocks
advance_to-requires-clause-blocks c = c.requires.going.blocks (line_of c.in-Some.line) _ c.in-Some.ensures.line

pub advance_to-requires-clause-seated : goal.advance_to-requires-clause-seated
advance_to-requires-clause-seated c =
    let seated = c.requires.going.ready.seated (line_of c.in-Some.line) _ c.in-Some.ensures.line in
    before_seated c.args.self.now.index.now (line_of c.in-Some.line) c.args.self.now.reaches.now c.args.place c.args.self.now.from 0 c.args.self.now.seats.now refl c.requires.on seated

pub returns-clause-going : goal.returns-clause-going
returns-clause-going c =
    let way = c.requires.going in
    record {
      policy = way.policy;
      universe = way.universe;
      reaches = way.reaches;
      ready = ready_line c.args.self.now.index.now c.args.self.now.universe.now c.args.self.now.reaches.now c.args.self.now.at c.args.place 0 c.advance_to.new.seats way.ready.settled (line_of c.in-Some.line) _ c.in-Some.ensures.line c.advance_to.ensures.seated;
      runs = rw c.advance_to.ensures.runs way.runs;
      blocks = blocks_here c.args.self.now.index.now c.args.self.now.universe.now c.args.self.now.at (line_of c.in-Some.line) _ c.advance_to.new.kept c.advance_to.new.seats c.in-Some.ensures.line c.advance_to.ensures.blocks;
      cluster_wide = way.cluster_wide;
      rows = way.rows;
      is_returned = way.is_returned;
      metered = metered_on c.args.self.now.index.now c.args.self.now.universe.now c.args.self.now.start c.args.self.now.sought c.args.self.now.at c.args.self.now.seats.now c.advance_to.new.seats way.rows c.args.self.now.meter c.advance_to.new.meter way.metered c.advance_to.ensures.costs;
    }

pub returns-in_default-clause-going : goal.returns-in_default-clause-going
returns-in_default-clause-going c =
    let way = c.requires.going in
    record {
      policy = way.policy;
      universe = way.universe;
      reaches = way.reaches;
      ready = ready_past c.args.self.now.index.now c.args.self.now.universe.now c.args.self.now.reaches.now c.args.self.now.at c.args.self.now.from 0 c.args.self.now.seats.now way.ready c.in_default.ensures.line c.args.place 0;
      runs = way.runs;
      blocks = way.blocks;
      cluster_wide = way.cluster_wide;
      rows = way.rows;
      is_returned = way.is_returned;
      metered = way.metered;
    }
