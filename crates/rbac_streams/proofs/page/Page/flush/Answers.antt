use Rattle.std.proofs.Common.{rules}
use Rattle.rbac_streams.proofs.TakenLemmas.{flushed, stopped}
use Rattle.rbac_streams.proofs.page.Page.flush.Goals as goal

pub returns-in-Ok-clause-ok : goal.returns-in-Ok-clause-ok
returns-in-Ok-clause-ok g c = λ start text p.
    flushed g.W.Write.contents start c.args.sink.now c.put.new.self c.args.self.now _ text p (search rules) (search rules) (search rules)

pub returns-in-Err-clause-err : goal.returns-in-Err-clause-err
returns-in-Err-clause-err g c = λ start text p.
    stopped g.W.Write.contents start c.args.sink.now c.put.new.self c.args.self.now _ text c.in-Err.taken p (search rules) (search rules) (search rules)
