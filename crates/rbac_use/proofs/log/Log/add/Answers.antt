use Rattle.rbac_use.proofs.Logged.{added_to}
use Rattle.rbac_use.proofs.log.Log.add.Goals as goal

pub returns-clause-added : goal.returns-clause-added
returns-clause-added c = added_to c.self.inside.entries.keys c.args.self.now c.insert.new.self.keys _ c.self.view_is c.in_ok-insert.ensures.keys
