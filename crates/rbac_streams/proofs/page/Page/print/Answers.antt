use Rattle.std.proofs.Common.{rules}
use Rattle.rbac_streams.proofs.TakenLemmas.{Prints-pending, Stops-unprinted, Prints-flushed, Stops-flushed}
use Rattle.rbac_streams.proofs.page.Page.print.Goals as goal

pub returns-then-is_err-clause-err : goal.returns-then-is_err-clause-err
returns-then-is_err-clause-err g c = Stops-unprinted g.W.Write.contents c.args.sink.now c.args.self.now _ c.args.more.now (search rules)

pub returns-then-len-ge-FULL-clause-ok : goal.returns-then-len-ge-FULL-clause-ok
returns-then-len-ge-FULL-clause-ok g c =
    let printed = Prints-pending g.W.Write.contents c.args.sink.now c.args.self.now _ c.args.more.now (search rules) (search rules) in
    Prints-flushed g.W.Write.contents c.args.sink.now c.flush.new.sink c.args.self.now _ _ c.args.more.now printed c.flush.result c.flush.ensures.ok

pub returns-then-len-ge-FULL-clause-err : goal.returns-then-len-ge-FULL-clause-err
returns-then-len-ge-FULL-clause-err g c =
    let printed = Prints-pending g.W.Write.contents c.args.sink.now c.args.self.now _ c.args.more.now (search rules) (search rules) in
    Stops-flushed g.W.Write.contents c.args.sink.now c.flush.new.sink c.args.self.now _ _ c.args.more.now printed c.flush.result c.flush.ensures.err

pub returns-clause-ok : goal.returns-clause-ok
returns-clause-ok g c = Prints-pending g.W.Write.contents c.args.sink.now c.args.self.now _ c.args.more.now (search rules) (search rules)

pub returns-then-len-ge-FULL-clause-pending : goal.returns-then-len-ge-FULL-clause-pending
returns-then-len-ge-FULL-clause-pending g c = search rules
