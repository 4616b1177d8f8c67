use Rattle.std.proofs.Common.{◌∙◌, List, ap, subst, sym}
use Rattle.std.specs.Prelude.{vec_items}
use Rattle.rbac_groups.specs.Memberships.{with_memberships}
use Rattle.rbac_paths.specs.WaysTo.{AreWaysTo}
use Rattle.rbac_steps.specs.declared.steps.Step.{Step}
use Rattle.rbac_universe.proofs.Flattened.{map_contains}
use Rattle.rbac_cli.specs.Groups.{named_alone, named_in}
use Rattle.rbac_cli.specs.Meant.{access_meant}
use Rattle.rbac_cli.specs.Out.{paths_text}
use Rattle.rbac_cli.proofs.ToldByKeys.{told_by_keys}
use Rattle.rbac_cli.proofs.laws.indirect_answers_agree_with_paths.Goals as goal

pub returns : goal.returns
returns c = λ inputs l who steps others q text other status ending loaded among same (paths, listed, are, all, e, s) (target, namespace, meant, (ways, those, f, z)).
    let asked = access_meant q target namespace in
    let these = subst (λ (chosen : List Step). AreWaysTo l.policy (named_in l) chosen asked ways) (sym same) those in
    let here = map_contains (with_memberships l.memberships) (named_alone l) who among in
    record {
      target = target;
      namespace = namespace;
      meant = meant;
      paths = paths;
      are_paths = are;
      lines_of_paths = e ∙ ap paths_text all;
      ways = ways;
      are_ways = these;
      lines_of_ways = f;
      agree = c.ways_agree_with_paths.ensures l.policy (named_in l) (vec_items steps) (with_memberships l.memberships who) asked paths ways (told_by_keys inputs l loaded) here are these;
    }
