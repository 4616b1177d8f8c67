use Rattle.std.proofs.Common.{◌≡◌, ◌+◌, ◌∷◌, ◌∙◌, List, ap, inl, refl, sym}
use Rattle.rbac_matrix.specs.Shown.{line_of}
use Rattle.rbac_matrix.specs.Lines.{LineView, lines_from}
use Rattle.rbac_matrix.proofs.TouchLemmas.{metered_on}
use Rattle.rbac_matrix.proofs.BlockLemmas.{blocks_here}
use Rattle.rbac_matrix.proofs.EnumLemmas.{leads_on, metered_over, ready_past}
use Rattle.rbac_matrix.proofs.WalkLemmas.{known_at}
use Rattle.rbac_matrix.proofs.steps.next_cell.Goals as goal

pub loop-line-init : goal.loop-line-init
loop-line-init c = record {
  ready = c.requires.ready;
  runs = c.requires.runs;
  blocks = c.requires.blocks;
  leads = inl (refl, refl, refl);
  metered = λ start sought given h. h;
}

pub returns-in-Some-next_in_line-clause-row : goal.returns-in-Some-next_in_line-clause-row
returns-in-Some-next_in_line-clause-row c = record {
  line = line_of c.in-Some.line;
  others = _;
  line_at = c.in-Some.ensures.line;
  begin = c.loop-line.from;
  low = c.loop-line.upto;
  leads = c.loop-line.invariant.leads;
  found = c.in-Some-next_in_line.ensures.row;
  settled = c.loop-line.invariant.ready.settled;
}

pub returns-in-Some-next_in_line-clause-metered : goal.returns-in-Some-next_in_line-clause-metered
returns-in-Some-next_in_line-clause-metered c = λ start sought given h.
    metered_on c.args.basis.index.now c.args.basis.universe.now start sought c.loop-line.at c.loop-line.seats c.next_in_line.new.seats given c.loop-line.meter c.next_in_line.new.meter (c.loop-line.invariant.metered start sought given h) c.next_in_line.ensures.costs

pub loop-line-preserved : goal.loop-line-preserved
loop-line-preserved c =
    let line : lines_from c.args.basis.universe.now c.loop-line.at ≡ line_of c.in-Some.line ∷ lines_from c.args.basis.universe.now c.after.result =
    c.in-Some.ensures.line ∙ ap (λ (ls : List LineView). line_of c.in-Some.line ∷ ls) (sym (ap (lines_from c.args.basis.universe.now) c.after.ensures)) in
    record {
      ready = c.next_line-at.ensures.ready;
      runs = c.next_line-at.ensures.runs;
      blocks = c.next_line-at.ensures.blocks;
      leads = leads_on c.args.basis.index.now c.args.basis.universe.now c.args.basis.reaches.now c.requires.policy c.args.at c.args.from c.args.upto c.loop-line.at c.after.result c.next_line-at.result c.loop-line.from c.loop-line.upto (line_of c.in-Some.line) c.loop-line.invariant.leads line c.in_default-next_in_line.ensures.row.none c.next_line-at.ensures.skips;
      metered = λ start sought given h.
          metered_over c.args.basis.index.now c.args.basis.universe.now c.args.basis.reaches.now start sought given c.loop-line.at c.after.result c.next_line-at.result (line_of c.in-Some.line) c.loop-line.from c.loop-line.upto c.loop-line.seats c.next_in_line.new.seats c.empty_line.new.seats c.next_line-at.new.seats c.loop-line.meter c.next_in_line.new.meter c.next_line-at.new.meter
          c.requires.policy c.line_at.ensures.universe c.requires.reaches line c.in_default-next_in_line.ensures.row c.empty_line.ensures c.in_default-next_in_line.ensures.costs c.next_line-at.ensures.costs c.next_line-at.ensures.skips (c.loop-line.invariant.metered start sought given h);
    }

pub returns-clause-row : goal.returns-clause-row
returns-clause-row c = record {
  ended = c.in_default.ensures.line;
  begin = c.loop-line.from;
  low = c.loop-line.upto;
  leads = c.loop-line.invariant.leads;
  ready = ready_past c.args.basis.index.now c.args.basis.universe.now c.args.basis.reaches.now c.loop-line.at c.loop-line.from c.loop-line.upto c.loop-line.seats c.loop-line.invariant.ready c.in_default.ensures.line;
}

pub next_in_line-requires-clause-blocks : goal.next_in_line-requires-clause-blocks
next_in_line-requires-clause-blocks c = c.loop-line.invariant.blocks (line_of c.in-Some.line) _ c.in-Some.ensures.line

pub empty_line-requires-clause-runs : goal.empty_line-requires-clause-runs
empty_line-requires-clause-runs c = rw c.next_in_line.ensures.runs (c.loop-line.invariant.runs (line_of c.in-Some.line) _ c.in-Some.ensures.line).0.0

pub returns-in-Some-next_in_line-clause-runs : goal.returns-in-Some-next_in_line-clause-runs
returns-in-Some-next_in_line-clause-runs c = rw c.next_in_line.ensures.runs c.loop-line.invariant.runs

pub returns-in-Some-next_in_line-clause-blocks : goal.returns-in-Some-next_in_line-clause-blocks
returns-in-Some-next_in_line-clause-blocks c = blocks_here c.args.basis.index.now c.args.basis.universe.now c.loop-line.at (line_of c.in-Some.line) _ c.next_in_line.new.kept c.next_in_line.new.seats c.in-Some.ensures.line c.next_in_line.ensures.blocks

pub next_line-at-requires-clause-known : goal.next_line-at-requires-clause-known
next_line-at-requires-clause-known c =
    let known = c.loop-line.invariant.runs (line_of c.in-Some.line) _ c.in-Some.ensures.line in
    rw (c.after.ensures, c.next_in_line.ensures.runs) (known_at c.args.basis.index.now c.args.basis.universe.now c.loop-line.at (line_of c.in-Some.line) c.loop-line.kept.runs (c.loop-line.at.verb + 1) c.in-Some.ensures.place known.0 known.1)
