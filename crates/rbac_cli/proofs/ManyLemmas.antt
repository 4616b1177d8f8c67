-- too many resources, by their names or by groups and texts alone
use Rattle.std.proofs.Common.{◌≡◌, ◌<◌, ◌≤◌, List, length, get_or, Contains, arith, Less}
use Rattle.std.proofs.lemmas.List.Elements.{Contains-get_or, All-contains}
use Rattle.std.proofs.lemmas.Map.Keys.{Less-from_sorted}
use Rattle.rbac_terms.specs.Text.{text_cmp}
use Rattle.rbac_model.specs.Lists.{by_name, IsAscendingBy, IsOnceEach}
use Rattle.rbac_model.specs.Universes.{most_targets}
use Rattle.rbac_universe.specs.declared.lists.ListedResource.{ListedResource}
use Rattle.rbac_universe.specs.Stems.{stem_name}
use Rattle.rbac_lists.specs.Wide.{AreTooMany}
use Rattle.rbac_lists.proofs.WideLemmas.{at_most, then_prefix}
use Rattle.rbac_document.specs.Names.{resource_name}

below_by_name : (r s : ListedResource) → by_name stem_name r s ≡ Less → by_name resource_name r s ≡ Less
below_by_name r s e = then_prefix (text_cmp r.group s.group) (text_cmp r.text s.text) _ e

-- different groups and texts are different resources
pub many_by_name : (xs : List ListedResource) → AreTooMany stem_name xs → AreTooMany resource_name xs
many_by_name xs many =
    (many.0, (λ i j d lt l. below_by_name (get_or many.0 i d) (get_or many.0 j d) (many.1 i j d lt l)), many.2, many.3)

module _ (xs each : List ListedResource) (once : IsOnceEach (by_name resource_name) xs each) where
  each_ascends : IsAscendingBy resource_name each
  each_ascends i j d lt l = Less-from_sorted (by_name resource_name) each i j d once.ascending lt l

  pub many_of_each : most_targets < length each → AreTooMany resource_name xs
  many_of_each long = (each, each_ascends, (λ k d l. (once.same (get_or each k d)).0 (Contains-get_or each k d l)), long)

  pub few_of_each : length each ≤ most_targets → AreTooMany resource_name xs → ⊥
  few_of_each short many =
      let fits = at_most resource_name many.0 each many.1 each_ascends (λ x w. (once.same x).1 (All-contains (Contains xs) many.0 x many.2 w)) in
      omega (arith, short, fits, many.3)
