use Rattle.serde_json.specs.Read.{read}
use Rattle.serde_json.specs.View.{view}
use Rattle.rbac_log.proofs.Unread.{told_by_read}
use Rattle.rbac_log.proofs.line.parse.Goals as goal

pub returns-in-Ok : goal.returns-in-Ok
returns-in-Ok c = told_by_read (read c.args.line.now) (view c.in-Ok.value) c.in-Ok.ensures.read
