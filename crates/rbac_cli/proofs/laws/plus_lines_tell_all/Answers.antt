use Rattle.std.proofs.Common.{List, subst, sym}
use Rattle.std.specs.Prelude.{◌↔◌, ℕ}
use Rattle.rbac_diff.specs.Requests.{AllowsNoMore}
use Rattle.rbac_cli.specs.PlusLines.{HasPlusLine}
use Rattle.rbac_cli.proofs.PlusLemmas.{plus_lines}
use Rattle.rbac_cli.proofs.laws.plus_lines_tell_all.Goals as goal

pub returns : goal.returns
returns c = λ n change inputs log before after text status loaded (xs, are, e, s).
    let lines = plus_lines before after xs are in
    let tells = c.changes_tell_all.ensures.nothing before after xs loaded.0.1.policy loaded.1.1.policy are in
    subst (λ (t : List ℕ). (¬ HasPlusLine t) ↔ AllowsNoMore before after) (sym e)
    (λ none. tells.0 (lines.0 none), λ allows. lines.1 (tells.1 allows))
