use Rattle.rbac_diff.proofs.line.sign_of.Goals as goal

pub returns-in-Lost : goal.returns-in-Lost
returns-in-Lost c = rw c.in-Lost.is
