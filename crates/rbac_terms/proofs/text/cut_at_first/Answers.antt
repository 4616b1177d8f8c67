use Rattle.std.proofs.Common.{◌+◌}
use Rattle.std.proofs.lemmas.List.{take_rest}
use Rattle.rbac_terms.proofs.Texts.{IsCutAtFirst-at}
use Rattle.rbac_terms.proofs.text.cut_at_first.Goals as goal

pub returns : goal.returns
returns c =
    rw (take_rest c.args.text.now (c.in_ok-at.at + 1)) (IsCutAtFirst-at c.args.text.now c.in_ok-at.at c.args.byte c.in_ok-at.ensures)
