use Rattle.std.proofs.Common.{[]}
use Rattle.rbac_streams.proofs.TakenLemmas.{Printed-all}
use Rattle.rbac_cli.proofs.Stops.{stopped, stopped_at}
use Rattle.rbac_cli.proofs.running.write_answer.Goals as goal

pub returns-in-Err-clause-ends : goal.returns-in-Err-clause-ends
returns-in-Err-clause-ends g c =
    rw c.fault.ensures (stopped g.W.Write.contents c.args.output.now c.print_answer.new.output c.args.exports.now c.args.action.now
    c.requires.printed c.requires.took c.requires.empty c.in-Err.stop c.in-Err.ensures.ends)

pub returns-in-Ok-flush-clause-ends : goal.returns-in-Ok-flush-clause-ends
returns-in-Ok-flush-clause-ends g c =
    let start = c.args.output.now.sink.now in
    let ok = c.in-Ok.ensures.ends in
    (ok.0, ok.1, Printed-all g.W.Write.contents start c.flush.new.sink c.flush.new.self ok.0 (c.in-Ok-flush.ensures.ok start _ (ok.2 start [] c.requires.printed)) c.in-Ok-flush.ensures.empty.0)

pub returns-in-Err-flush-clause-ends : goal.returns-in-Err-flush-clause-ends
returns-in-Err-flush-clause-ends g c =
    let start = c.args.output.now.sink.now in
    let ok = c.in-Ok.ensures.ends in
    rw (c.fault-in-Err-flush.ensures, c.from.ensures) (stopped_at g.W.Write.contents start c.flush.new.sink c.flush.new.self
    c.args.exports.now c.args.action.now ok.0 c.in-Ok.status c.in-Err-flush.fault ok.1
    (c.in-Err-flush.ensures.err start _ (ok.2 start [] c.requires.printed)))
