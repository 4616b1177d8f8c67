use Rattle.std.proofs.Common.{rules, refl, ◌≡◌, ◌∙◌}
use Rattle.std.proofs.lemmas.Fn.{answers_by}
use Rattle.rbac_manifest.specs.Names.{name_cmp}
use Rattle.rbac_manifest.proofs.Halved.{found_is}
use Rattle.rbac_manifest.proofs.names.is_among.Goals as goal

pub returns : goal.returns
returns c =
    let facts = c.binary_search_by-found.ensures in
    c.is_ok.ensures.value ∙ found_is c.args.sorted.now c.args.name.now c.binary_search_by-found.result c.requires facts.bound
    (facts.position (λ y. name_cmp y c.args.name.now)
    (answers_by _ _ (λ f. f.0 ≡ c.args.name) (λ f a r h called same. (search rules, search rules)) _ refl))
