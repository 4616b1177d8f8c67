use Rattle.std.proofs.Common.{ap, subst, sym}
use Rattle.std.proofs.lemmas.Result.{IfOk-weaker}
use Rattle.rbac_paths.specs.Deciding.{ArePlacesOf}
use Rattle.rbac_paths.specs.Nodes.{NodeView, node_of}
use Rattle.rbac_paths.proofs.ListPlaces.{own_place}
use Rattle.rbac_paths.proofs.NotSomebody.{not_somebody}
use Rattle.rbac_paths.proofs.deciding.places_of_node.Goals as goal

pub returns-in-Somebody : goal.returns-in-Somebody
returns-in-Somebody c = IfOk-weaker c.granting_places.result _ _
    (λ places are. subst (λ (y : NodeView). ArePlacesOf c.args.index.now c.args.grants.now c.args.own y places) (sym (ap node_of c.in-Somebody.is)) are) c.granting_places.ensures

pub returns-in_default : goal.returns-in_default
returns-in_default c = IfOk-weaker c.only_place.result _ _
    (λ places are. own_place c.args.index.now c.args.grants.now c.args.own (node_of c.args.node) places (not_somebody c.args.node c.in_default.not-Somebody) are) c.only_place.ensures
