use Rattle.std.proofs.Common.{◌++◌, ◌∷◌, [], ◌∙◌, sym, ap}
use Rattle.std.specs.List.{filter_map}
use Rattle.std.proofs.lemmas.List.Elements.{filter_map-append}
use Rattle.rbac_model.specs.Kept.{as_role, as_cluster_role, as_binding}
use Rattle.rbac_model.proofs.replacement.by_kind.Goals as goal

pub loop-object-preserved : goal.loop-object-preserved
loop-object-preserved c =
    let seen = c.loop-object.yielded in
    let one = c.in-Some.object ∷ [] in
    let was = c.loop-object.invariant in
    let now = c.in_ok-push.ensures in
    record {
      roles = now.roles ∙ ap (λ rs. rs ++ filter_map as_role one) was.roles ∙ sym (filter_map-append as_role seen one);
      cluster_roles = now.cluster_roles ∙ ap (λ rs. rs ++ filter_map as_cluster_role one) was.cluster_roles ∙ sym (filter_map-append as_cluster_role seen one);
      bindings = now.bindings ∙ ap (λ bs. bs ++ filter_map as_binding one) was.bindings ∙ sym (filter_map-append as_binding seen one);
    }
