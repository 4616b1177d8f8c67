use Rattle.std.proofs.Common.{rules, refl, ◌≡◌}
use Rattle.std.proofs.lemmas.Fn.{answers_by}
use Rattle.rbac_model.specs.Lists.{by_name}
use Rattle.rbac_model.specs.Policies.{cluster_role_name}
use Rattle.rbac_paths.proofs.RolePlaces.{found_place}
use Rattle.rbac_paths.proofs.holding.place_of.Goals as goal

pub returns : goal.returns
returns c =
    let facts = c.binary_search_by.ensures in
    rw c.ok.ensures.value (found_place c.args.roles.now c.requires.ascending c.args.role.now c.requires.among c.binary_search_by.result facts.bound
    (facts.position (λ y. by_name cluster_role_name y c.args.role.now)
    (answers_by _ _ (λ f. f.0 ≡ c.args.role) (λ f a r h called same. (search rules, search rules)) _ refl)))
