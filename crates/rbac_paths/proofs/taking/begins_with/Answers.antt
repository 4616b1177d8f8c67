use Rattle.std.proofs.Common.{drop, length}
use Rattle.std.proofs.lemmas.Slice.Eq.{starts_is}
use Rattle.std.proofs.lemmas.Bool.Decides.{Decides-eqb}
use Rattle.rbac_paths.proofs.taking.begins_with.Goals as goal

pub returns : goal.returns
returns c =
    let text = c.args.text.now in
    let prefix = c.args.prefix.now in
    let begins = starts_is Decides-eqb text prefix _ c.starts_with.ensures.value in
    (λ h. (drop (length prefix) text, begins.0 h), λ b. begins.1 b.0 b.1)
