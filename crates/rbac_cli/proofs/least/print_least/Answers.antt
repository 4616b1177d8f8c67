use Rattle.std.proofs.Common.{refl}
use Rattle.std.proofs.lemmas.Result.{err_from_is_err_and}
use Rattle.rbac_question.specs.declared.command.Action.TheVariants.{Least}
use Rattle.rbac_cli.specs.declared.exports.Exports.TheVariants.{Used}
use Rattle.rbac_cli.specs.declared.outcome.Status.TheVariants.{Zero}
use Rattle.rbac_cli.proofs.Stops.{failed_by, stops_within}
use Rattle.rbac_cli.proofs.least.print_least.Goals as goal

pub returns-in_err-print : goal.returns-in_err-print
returns-in_err-print g c =
    let document = c.in_ok-document.document in
    let action = Least c.args.user.now c.args.names c.args.name.now in
    let is = rw c.policy.ensures at c.in_ok-document.ensures in
    let ended = c.in_err-print.ensures in
    let fault = c.in_err-print.field-0.0 in
    let stops = rw c.as_slice.ensures.value at ended.err in
    let p = err_from_is_err_and c.from_residual-in_err-print.result c.from_residual-in_err-print.ensures.1 in
    rw (p.1, p.2) (record {
      ends = stops_within g.W.Write.contents c.args.output.now c.print.new.self (Used c.args.export.now c.args.log.now) action fault (document.items, Zero, (is, refl), stops);
      failed = failed_by fault c.print.new.self.sink.now.has_failed ended.failed;
      same = ended.same;
    })

pub returns : goal.returns
returns g c =
    let document = c.in_ok-document.document in
    let is = rw c.policy.ensures at c.in_ok-document.ensures in
    let ended = c.in_ok-print.ensures in
    let printed = rw c.as_slice.ensures.value at ended.ok in
    record {
      ends = (document.items, (is, refl), printed);
      failed = ended.failed;
      same = ended.same;
    }
