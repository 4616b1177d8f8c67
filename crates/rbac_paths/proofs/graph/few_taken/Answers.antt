use Rattle.std.proofs.Common.{◌↔◌, List, Contains, ap, get_or, subst, sym, ℕ}
use Rattle.std.proofs.lemmas.List.Elements.{Contains-get_or}
use Rattle.std.proofs.lemmas.Option.{slice_get_within}
use Rattle.std.proofs.lemmas.Result.{IfOk-weaker}
use Rattle.rbac_ways.specs.Joining.{IsListedIn}
use Rattle.rbac_paths.specs.Deciding.{ArePlacesOf}
use Rattle.rbac_paths.specs.Joints.{DecideOn, IsNobody}
use Rattle.rbac_paths.specs.Nodes.{NodeView, node_of}
use Rattle.rbac_paths.proofs.ListPlaces.{few_are}
use Rattle.rbac_paths.proofs.NotSomebody.{not_somebody}
use Rattle.rbac_paths.proofs.Others.{few_decide}
use Rattle.rbac_paths.proofs.graph.few_taken.Goals as goal

pub given_by-requires : goal.given_by-requires
given_by-requires c =
    let numbers = c.as_slice.result.now in
    λ k d low.
    let n = get_or numbers k d in
    let l = (c.in_ok-numbers-in-Somebody.ensures n).0 (subst (λ (ns : List ℕ). Contains ns n) c.as_slice.ensures.value (Contains-get_or numbers k d low)) in
    let of = c.requires.few n l.0 l.2 in
    slice_get_within c.args.policy.now.grants n of.0 of.1

pub returns-in_ok-numbers-in-Somebody : goal.returns-in_ok-numbers-in-Somebody
returns-in_ok-numbers-in-Somebody c grants own past taking are at decide =
    let p = c.args.policy.now in
    let steps = c.args.steps.now in
    let few = c.args.few.now in
    let places = c.args.places.now in
    let is = ap node_of c.in-Somebody.is in
    let numbers = c.as_slice.result.now in
    let each = subst (λ (ns : List ℕ). (n : ℕ) → Contains ns n ↔ IsListedIn few places n) (sym c.as_slice.ensures.value) c.in_ok-numbers-in-Somebody.ensures in
    IfOk-weaker c.given_by.result _ _ (λ hs gives. subst (λ (z : NodeView). DecideOn p steps z hs.items IsNobody) (sym is)
    (few_are p c.requires.policy steps grants taking _ own places few numbers hs.items past (subst (λ (z : NodeView). ArePlacesOf p grants own z places) is at) are each gives)) c.given_by.ensures

pub returns-in_default : goal.returns-in_default
returns-in_default c grants own past taking are at decide =
    let p = c.args.policy.now in
    let steps = c.args.steps.now in
    let x = node_of c.args.node in
    let hs = c.args.holdings.now in
    IfOk-weaker c.over_others.result _ _ (λ few over. few_decide p steps x hs (decide (not_somebody c.args.node c.in_default.not-Somebody)) few.items over) c.over_others.ensures
