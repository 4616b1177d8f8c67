use Rattle.rbac_terms.proofs.Cases.{on_ok}
use Rattle.rbac_lint.proofs.Looked.{adds_under}
use Rattle.rbac_lint.proofs.candidates.Candidates.add_under.Goals as goal

pub returns : goal.returns
returns c = on_ok c.add.result (λ e. adds_under c.args.lists.now c.args.word.now c.args.self.now c.add.new.self c.under.result e c.under.ensures) c.add.ensures
