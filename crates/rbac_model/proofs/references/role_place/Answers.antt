use Rattle.std.proofs.Common.{rules, refl, ◌≡◌}
use Rattle.std.proofs.lemmas.Fn.{answers_by}
use Rattle.rbac_model.specs.Lists.{by_name}
use Rattle.rbac_model.specs.Policies.{role_name}
use Rattle.rbac_model.proofs.Lookups.{role_found, role_named}
use Rattle.rbac_model.proofs.references.role_place.Goals as goal

pub returns : goal.returns
returns c =
    let facts = c.binary_search_by.ensures in
    rw c.ok.ensures.value (role_found c.args.roles.now c.args.namespace.now c.args.name.now _ c.requires facts.bound
    (facts.position (λ y. by_name role_name y (role_named c.args.namespace.now c.args.name.now))
    (answers_by _ _ (λ f. (f.0 ≡ c.args.namespace) × (f.1 ≡ c.args.name)) (λ f a r h called same. (search rules, search rules)) _ (refl, refl))))
