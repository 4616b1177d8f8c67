use Rattle.std.proofs.Common.{◌≡◌, [], false}
use Rattle.rbac_terms.specs.Text.{Text}
use Rattle.rbac_cli.specs.Printing.{BorrowsTheSame}
use Rattle.rbac_cli.proofs.Printed.{HasPrinted}
use Rattle.rbac_cli.proofs.lines.print_lines.Given as goal

abbrev pub invariant-loop-line : goal.invariant-loop-line
invariant-loop-line g l = record {
  going : g.L.Lines.is_open l.lines;
  works : l.output.sink.now.has_failed ≡ false;
  same : BorrowsTheSame l.fn.output l.output;
  empty : l.line.items ≡ [];
  printed : (text : Text) → g.L.Lines.are_left l.fn.lines text → HasPrinted g.W.Write.contents l.fn.output l.output (g.L.Lines.are_left l.lines) text;
}

abbrev pub decreases-loop-line : goal.decreases-loop-line
decreases-loop-line g l = g.L.Lines.most_left l.lines
