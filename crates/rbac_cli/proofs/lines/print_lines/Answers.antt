use Rattle.std.proofs.Common.{◌∙◌, inr}
use Rattle.std.proofs.lemmas.Result.{err_from_is_err_and}
use Rattle.rbac_cli.proofs.Printed.{one_more, stopped, unfinished}
use Rattle.rbac_cli.proofs.Stops.{failed_by, stops_within}
use Rattle.rbac_cli.proofs.lines.print_lines.Goals as goal

pub returns-in_err-put_next : goal.returns-in_err-put_next
returns-in_err-put_next g c = λ l action text left answers.
    let inv = c.loop-line.invariant in
    let p = err_from_is_err_and c.from_residual.result c.from_residual.ensures.1 in
    rw (p.1, p.2) (record {
      ends = inr (text, c.args.status, answers, unfinished g.W.Write.contents _ _ text _ (inv.printed text left));
      failed = inv.works;
      same = inv.same;
    })

pub returns-in_err-print : goal.returns-in_err-print
returns-in_err-print g c = λ l action text left answers.
    let inv = c.loop-line.invariant in
    let p = err_from_is_err_and c.from_residual-in_err-print.result c.from_residual-in_err-print.ensures.1 in
    let gives = rw c.if-branch.true at c.in_ok-put_next.ensures in
    let ended = c.in_err-print.ensures in
    let stops = stopped g.W.Write.contents _ _ text _ (inv.printed text left) c.print.new.self c.put_next.new.line.items _ gives.2 (rw c.as_slice.ensures.value at ended.err) in
    rw (p.1, p.2) (record {
      ends = stops_within g.W.Write.contents c.args.output.now c.print.new.self l action c.in_err-print.field-0.0 (text, c.args.status, answers, stops);
      failed = failed_by c.in_err-print.field-0.0 c.print.new.self.sink.now.has_failed ended.failed;
      same = (ended.same.0 ∙ inv.same.0, ended.same.1 ∙ inv.same.1);
    })

pub loop-line-preserved : goal.loop-line-preserved
loop-line-preserved g c =
    let inv = c.loop-line.invariant in
    let gives = rw c.if-branch.true at c.in_ok-put_next.ensures in
    let ended = c.in_ok-print.ensures in
    record {
      going = gives.0;
      works = ended.failed;
      same = (ended.same.0 ∙ inv.same.0, ended.same.1 ∙ inv.same.1);
      empty = c.clear.ensures.items;
      printed = λ text left. one_more g.W.Write.contents _ _ text _ (inv.printed text left) c.print.new.self c.put_next.new.line.items _ gives.2 (rw c.as_slice.ensures.value at ended.ok);
    }
