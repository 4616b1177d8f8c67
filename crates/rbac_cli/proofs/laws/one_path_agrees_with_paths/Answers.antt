use Rattle.std.proofs.Common.{List, subst, sym}
use Rattle.std.specs.Prelude.{vec_items}
use Rattle.rbac_groups.specs.Memberships.{with_memberships}
use Rattle.rbac_paths.specs.Nodes.{Somebody}
use Rattle.rbac_paths.specs.OnePath.{IsPathTo}
use Rattle.rbac_paths.specs.Paths.{ArePathsOf, PathView}
use Rattle.rbac_steps.specs.declared.steps.Step.{Step}
use Rattle.rbac_cli.specs.Groups.{named_in}
use Rattle.rbac_cli.proofs.OnePathListed.{agrees}
use Rattle.rbac_cli.proofs.laws.one_path_agrees_with_paths.Goals as goal

pub returns : goal.returns
returns c = λ l who steps others to text other status ending same (paths, all, are, listed, e, s) (found, path, those, is, f, z).
    let given = with_memberships l.memberships who in
    let these : ArePathsOf l.policy (named_in l) (vec_items steps) given found = subst (λ (chosen : List Step). ArePathsOf l.policy (named_in l) chosen given found) (sym same) those in
    let one = c.paths_are_one.ensures l.policy (named_in l) (vec_items steps) given found paths these are in
    agrees to paths all path text other ending given listed e (subst (λ (xs : List PathView). IsPathTo (Somebody given) to.what to.namespace xs path) one is) f z
