use Rattle.std.proofs.Common.{rules, refl, ◌≡◌}
use Rattle.std.proofs.lemmas.Fn.{answers_by}
use Rattle.rbac_model.specs.Lists.{by_name}
use Rattle.rbac_model.specs.Policies.{cluster_role_name}
use Rattle.rbac_model.proofs.Lookups.{cluster_role_found, cluster_role_named}
use Rattle.rbac_model.proofs.references.cluster_role_place.Goals as goal

pub returns : goal.returns
returns c =
    let facts = c.binary_search_by.ensures in
    rw c.ok.ensures.value (cluster_role_found c.args.roles.now c.args.name.now _ c.requires facts.bound
    (facts.position (λ y. by_name cluster_role_name y (cluster_role_named c.args.name.now))
    (answers_by _ _ (λ f. f.0 ≡ c.args.name) (λ f a r h called same. (search rules, search rules)) _ refl)))
