use Rattle.std.proofs.Common.{sym}
use Rattle.std.proofs.lemmas.Result.{err_from_is_err_and}
use Rattle.rbac_question.specs.declared.command.Action.TheVariants.{CanI}
use Rattle.rbac_cli.specs.declared.exports.Exports.TheVariants.{Single, Pair}
use Rattle.rbac_question.specs.declared.command.Action.{Action}
use Rattle.rbac_cli.specs.Printing.{EndsPrinting}
use Rattle.rbac_cli.proofs.Loads.{of_diff}
use Rattle.rbac_cli.proofs.Stops.{failed_by, stops_within}
use Rattle.rbac_cli.proofs.answer.print_answer.Goals as goal

pub returns-in_err-print-in-CanI : goal.returns-in_err-print-in-CanI
returns-in_err-print-in-CanI g c =
    let verdict = c.in_ok-verdict-in-CanI.verdict in
    let action = CanI c.in-CanI.principal c.in-CanI.options c.in-CanI.question in
    let ended = c.in_err-print-in-CanI.ensures in
    let fault = c.in_err-print-in-CanI.field-0.0 in
    let stops = rw c.as_slice.ensures.value at ended.err in
    let p = err_from_is_err_and c.from_residual-in_err-print-in-CanI.result c.from_residual-in_err-print-in-CanI.ensures.1 in
    rw (c.in-Single.is, c.in-CanI.is, p.1, p.2) (record {
      ends = stops_within g.W.Write.contents c.args.output.now c.print.new.self (Single c.in-Single.export) action fault (verdict.text.items, verdict.status, c.in_ok-verdict-in-CanI.ensures, stops);
      failed = failed_by fault c.print.new.self.sink.now.has_failed ended.failed;
      same = ended.same;
    })

pub returns-in_ok-print-in-CanI : goal.returns-in_ok-print-in-CanI
returns-in_ok-print-in-CanI g c =
    let verdict = c.in_ok-verdict-in-CanI.verdict in
    let ended = c.in_ok-print-in-CanI.ensures in
    let printed = rw c.as_slice.ensures.value at ended.ok in
    rw (c.in-Single.is, c.in-CanI.is) (record {
      ends = (verdict.text.items, c.in_ok-verdict-in-CanI.ensures, printed);
      failed = ended.failed;
      same = ended.same;
    })

pub returns-in-Pair : goal.returns-in-Pair
returns-in-Pair g c =
    let over = rw c.in-Pair.is at c.requires.over in
    rw c.in-Pair.is (of_diff (λ (a : Action). EndsPrinting g.W.Write.contents c.args.output.now c.print_changes.new.output (Pair c.in-Pair.before c.in-Pair.after) a c.print_changes.result)
    c.args.action.now c.in-Pair.before c.in-Pair.after over c.print_changes.ensures)

pub returns-in-Paths : goal.returns-in-Paths
returns-in-Paths g c = rw (c.in-Single.is, c.in-Paths.is) (c.print_paths.ensures c.in-Paths.steps (sym c.as_slice-in-Paths.ensures.value))

pub returns-in-WaysTo : goal.returns-in-WaysTo
returns-in-WaysTo g c = rw (c.in-Single.is, c.in-WaysTo.is) (c.print_ways.ensures c.in-WaysTo.steps (sym c.as_slice-in-WaysTo.ensures.value))

pub returns-in-Used : goal.returns-in-Used
returns-in-Used g c = rw c.in-Used.is (rw c.log.ensures at c.print_use.ensures)

pub print_use-requires-clause-over : goal.print_use-requires-clause-over
print_use-requires-clause-over g c = rw c.log.ensures (rw c.in-Used.is at c.requires.over)
