use Rattle.std.proofs.Common.{◌∙◌, ap, subst}
use Rattle.std.specs.Prelude.{ℕ, List, vec_items}
use Rattle.rbac_groups.specs.Memberships.{with_memberships}
use Rattle.rbac_cli.specs.Agreement.{HasNoPowerLine}
use Rattle.rbac_cli.specs.Groups.{named_in}
use Rattle.rbac_cli.specs.Out.{paths_text}
use Rattle.rbac_cli.proofs.PowerLines.{no_power}
use Rattle.rbac_cli.proofs.laws.no_paths_without_powers.Goals as goal

pub returns : goal.returns
returns c = λ inputs l who steps text other status ending loaded (powers, these, e, s) none (paths, listed, are, all, f, z).
    let given = with_memberships l.memberships who in
    let without = no_power given powers (subst (λ (t : List ℕ). HasNoPowerLine t given) e none) in
    f ∙ ap paths_text (all ∙ c.paths_begin_with_powers.ensures l.policy powers (named_in l) (vec_items steps) given paths loaded.policy these without are)
