use Rattle.std.proofs.Common.{◌≡◌, ◌++◌, OnOk, subst, sym}
use Rattle.rbac_terms.specs.Text.{Text}
use Rattle.rbac_cli.proofs.who_can.put_line.Goals as goal

pub returns-in-Some : goal.returns-in-Some
returns-in-Some c = λ text is.
    subst (λ (l : Text). OnOk c.put_holder_why.result (c.put_holder_why.new.line.items ≡ c.args.line.now.items ++ l)) (sym (c.in-Some.ensures text is)) c.put_holder_why.ensures

pub returns-in-None : goal.returns-in-None
returns-in-None c = λ text is.
    subst (λ (l : Text). OnOk c.put_holder.result (c.put_holder.new.line.items ≡ c.args.line.now.items ++ l)) (sym (c.in-None.ensures text is)) c.put_holder.ensures
