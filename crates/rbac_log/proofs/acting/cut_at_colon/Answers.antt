use Rattle.std.proofs.Common.{sym, ◌∙◌}
use Rattle.rbac_log.proofs.Accounts.{no_parts, the_parts}
use Rattle.rbac_log.proofs.acting.cut_at_colon.Goals as goal

pub returns-in_err-namespace : goal.returns-in_err-namespace
returns-in_err-namespace c = rw c.from_residual.ensures (sym (no_parts c.args.text.now c.in_err-namespace.ensures))

pub returns : goal.returns
returns c = c.parts_of.ensures ∙ sym (the_parts c.args.text.now c.in_ok-namespace.namespace.now c.in_ok-namespace.name.now c.in_ok-namespace.ensures)
