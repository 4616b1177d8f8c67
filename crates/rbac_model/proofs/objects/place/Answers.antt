use Rattle.std.proofs.Common.{rules, refl, ◌≡◌}
use Rattle.std.proofs.lemmas.Fn.{answers_by}
use Rattle.rbac_model.specs.Lists.{by_name}
use Rattle.rbac_model.proofs.NamePlaces.{searched}
use Rattle.rbac_model.proofs.objects.place.Goals as goal

pub returns-clause-found : goal.returns-clause-found
returns-clause-found g c =
    let facts = c.binary_search_by.ensures in
    (searched g.T.Named.name c.args.items.now c.requires c.args.item.now _ facts.bound
    (facts.position (λ y. by_name g.T.Named.name y c.args.item.now)
    (answers_by _ _ (λ f. f.0 ≡ c.args.item) (λ f a r h called same. (search rules, search rules)) _ refl))).found

pub returns-clause-absent : goal.returns-clause-absent
returns-clause-absent g c =
    let facts = c.binary_search_by.ensures in
    (searched g.T.Named.name c.args.items.now c.requires c.args.item.now _ facts.bound
    (facts.position (λ y. by_name g.T.Named.name y c.args.item.now)
    (answers_by _ _ (λ f. f.0 ≡ c.args.item) (λ f a r h called same. (search rules, search rules)) _ refl))).absent
