use Rattle.rbac_index.proofs.ListedLemmas.{ok_holders, ok_law}
use Rattle.rbac_index.proofs.index.Index.who_can.Goals as goal

pub returns-clause-holders : goal.returns-clause-holders
returns-clause-holders c = ok_holders c.args.self.now.held c.args.namespace.now c.args.verb.now c.args.target.now c.holders.result (rw (c.in_ok-from_slice.ensures, c.as_bytes.ensures) at c.holders.ensures)

pub returns-clause-law : goal.returns-clause-law
returns-clause-law c = ok_law c.args.self.now.held c.args.namespace.now c.args.verb.now c.args.target.now c.holders.result (returns-clause-holders c)
