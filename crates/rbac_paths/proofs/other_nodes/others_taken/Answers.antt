use Rattle.std.proofs.Common.{◌≡◌, ◌∙◌, List, ℕ, [], All, length, map, subst, sym}
use Rattle.std.proofs.lemmas.Result.{IfOk-weaker}
use Rattle.std.specs.Cmp.{unsigned_Decides}
use Rattle.rbac_paths.specs.Having.{HoldingView}
use Rattle.rbac_paths.specs.Joints.{AreAskedPlaces, AreOthers, AreScoped, DecideOn, IsNobody}
use Rattle.rbac_paths.specs.Nodes.{node_of}
use Rattle.rbac_paths.specs.Tracing.{IsAt}
use Rattle.rbac_paths.proofs.Others.{no_items, no_others, others_all}
use Rattle.rbac_paths.proofs.other_nodes.others_taken.Goals as goal

pub returns-then-is_empty : goal.returns-then-is_empty
returns-then-is_empty c p decide =
    let few = c.args.few.now in
    let x = node_of c.args.from in
    let none : few ≡ [] = no_items few ((unsigned_Decides (length few) 0).0 (sym c.is_empty.ensures ∙ c.if-is_empty.true)) in
    no_others p c.args.steps.now x (map node_of c.args.nodes.now) (subst (λ (some : List HoldingView). DecideOn p c.args.steps.now x some IsNobody) none decide) c.new.result c.new.ensures

pub others_among-requires : goal.others_among-requires
others_among-requires c =
    subst (λ (js : List ℕ). All (IsAt IsNobody (map node_of c.args.nodes.now)) js) (sym c.as_slice-2.ensures.value) (c.in_ok-places.ensures (map node_of c.args.nodes.now) c.requires.others).others

pub returns : goal.returns
returns c p decide =
    let steps = c.args.steps.now in
    let x = node_of c.args.from in
    let ys = map node_of c.args.nodes.now in
    let few = c.args.few.now in
    let scoped = c.as_slice.result.now in
    let in_scopes : AreScoped p steps x scoped = subst (λ (some : List HoldingView). AreScoped p steps x some) (sym c.as_slice.ensures.value) (c.in_ok-scoped.ensures p x decide) in
    let asked : AreAskedPlaces ys few scoped c.as_slice-2.result.now = subst (λ (js : List ℕ). AreAskedPlaces ys few scoped js) (sym c.as_slice-2.ensures.value) (c.in_ok-places.ensures ys c.requires.others) in
    IfOk-weaker c.others_among.result _ (λ js. AreOthers p steps x ys js)
    (λ js of. others_all p steps x ys few scoped decide in_scopes c.as_slice-2.result.now js asked of) (c.others_among.ensures p decide)
