use Rattle.std.proofs.Common.{refl}
use Rattle.std.proofs.lemmas.Result.{err_from_is_err_and}
use Rattle.rbac_question.specs.declared.command.Action.TheVariants.{Universe}
use Rattle.rbac_cli.specs.declared.exports.Exports.TheVariants.{Single}
use Rattle.rbac_cli.specs.declared.outcome.Status.TheVariants.{Zero}
use Rattle.rbac_cli.proofs.Stops.{failed_by, stops_within}
use Rattle.rbac_cli.proofs.universe.print_universe.Goals as goal

pub returns-in_err-print : goal.returns-in_err-print
returns-in_err-print g c =
    let document = c.in_ok-document.document in
    let ended = c.in_err-print.ensures in
    let fault = c.in_err-print.field-0.0 in
    let stops = rw c.as_slice.ensures.value at ended.err in
    let p = err_from_is_err_and c.from_residual-in_err-print.result c.from_residual-in_err-print.ensures.1 in
    rw (p.1, p.2) (record {
      ends = stops_within g.W.Write.contents c.args.output.now c.print.new.self (Single c.args.export.now) Universe fault (document.items, Zero, (c.in_ok-document.ensures.ok.0, c.in_ok-document.ensures.ok.1, refl), stops);
      failed = failed_by fault c.print.new.self.sink.now.has_failed ended.failed;
      same = ended.same;
    })

pub returns : goal.returns
returns g c =
    let document = c.in_ok-document.document in
    let ended = c.in_ok-print.ensures in
    let printed = rw c.as_slice.ensures.value at ended.ok in
    record {
      ends = (document.items, (c.in_ok-document.ensures.ok.0, c.in_ok-document.ensures.ok.1, refl), printed);
      failed = ended.failed;
      same = ended.same;
    }
