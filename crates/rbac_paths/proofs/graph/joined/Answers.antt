use Rattle.std.proofs.Common.{◌≡◌, ◌+◌, ◌++◌, ◌∙◌, ◌∷◌, [], Contains, List, Some, ap, append-nil, append_assoc, arith, get_or, length, map, refl, slice_get, subst, sym, ℕ}
use Rattle.std.proofs.lemmas.List.{length-map}
use Rattle.std.proofs.lemmas.Option.{same_Some}
use Rattle.rbac_terms.specs.Text.{Text}
use Rattle.rbac_ways.specs.Joining.{IsListedIn}
use Rattle.rbac_paths.specs.Deciding.{ArePlaces, ArePlacesOf, IsAnyNode}
use Rattle.rbac_paths.specs.Having.{HoldingView}
use Rattle.rbac_paths.specs.Joints.{AreFewGrants, AreOwnWords, AreTaken, DecideOn, IsNobody, OthersTakenView, TakesByWords}
use Rattle.rbac_paths.specs.Nodes.{NodeView, node_of}
use Rattle.rbac_paths.specs.SharedLists.{list_of}
use Rattle.rbac_paths.specs.Told.{HasItsRole}
use Rattle.rbac_paths.proofs.GraphOf.{graph_is, ok_both, own_more, own_none}
use Rattle.rbac_paths.proofs.ListPlaces.{each_takes}
use Rattle.rbac_paths.proofs.Mapped.{mapped_at, mapped_has}
use Rattle.rbac_paths.proofs.graph.joined.Goals as goal

pub rules_held-requires-clause-role : goal.rules_held-requires-clause-role
rules_held-requires-clause-role c =
    mapped_has node_of (HasItsRole c.args.policy.now.held) c.args.nodes.now c.loop-place.place c.index-nodes-place.result c.loop-place-test.true c.index-nodes-place.is c.requires.held

pub words_of_bindings-requires : goal.words_of_bindings-requires
words_of_bindings-requires c = λ n at has. ((c.requires.grants n at).0 has).0

pub few_of_bindings-requires : goal.few_of_bindings-requires
few_of_bindings-requires c = λ n at has. ((c.requires.grants n at).0 has).0

pub few_taken-requires-clause-few : goal.few_taken-requires-clause-few
few_taken-requires-clause-few c =
    let few = subst (λ (fs : List (List ℕ)). AreFewGrants c.args.policy.now c.args.steps.now c.args.grants.now fs) (sym c.as_slice-few.ensures.value) (c.in_ok-few.ensures c.args.steps.now c.requires.takeovers) in
    λ n at has. ((c.requires.grants n at).0 ((few at n).0 has).0).0

pub loop-place-init : goal.loop-place-init
loop-place-init c =
    let p = c.args.policy.now in
    let steps = c.args.steps.now in
    let ys = map node_of c.args.nodes.now in
    ([], sym (append-nil c.in_ok-words.words.lists.items), own_none p steps ys [] refl, c.none-others.ensures p steps ys)

pub loop-place-preserved : goal.loop-place-preserved
loop-place-preserved c =
    let p = c.args.policy.now in
    let steps = c.args.steps.now in
    let ys = map node_of c.args.nodes.now in
    let place = c.loop-place.place in
    let x = node_of c.index-nodes-place.result in
    let at : slice_get ys place ≡ Some x = mapped_at node_of c.args.nodes.now place c.index-nodes-place.result c.loop-place-test.true c.index-nodes-place.is in
    let is : (y : NodeView) → slice_get ys place ≡ Some y → x ≡ y = λ y there. same_Some x y (sym at ∙ there) in
    let held : IsNobody x → DecideOn p steps x c.as_slice-held.result.now IsAnyNode = λ nobody.
    subst (λ (h : List HoldingView). DecideOn p steps x h IsAnyNode) (sym c.as_slice-held.ensures.value) (c.in_ok-holdings.ensures steps nobody) in
    let grants = c.args.grants.now in
    let few = subst (λ (fs : List (List ℕ)). AreFewGrants p steps grants fs) (sym c.as_slice-few.ensures.value) (c.in_ok-few.ensures steps c.requires.takeovers) in
    let own = subst (λ (ps : List ℕ). ArePlacesOf p grants (length grants + place) x ps) (sym c.listed_at-own.ensures) (c.requires.places.each place x c.loop-place-test.true at) in
    let decide = c.in_ok-over.ensures grants (length grants + place) (omega arith) c.requires.grants few own held in
    let bound = c.in_ok-words.words.lists.items in
    let before = c.loop-place.invariant.0 in
    let ws = c.in_ok-words_held.field-0 in
    rw c.in_ok-push.ensures.items (
      before ++ ws ∷ [],
      ap (λ (ls : List (List Text)). ls ++ ws ∷ []) c.loop-place.invariant.1 ∙ append_assoc bound before (ws ∷ []),
      own_more p steps ys place before ws c.loop-place.invariant.2
          (λ y there nobody. subst (λ (z : NodeView). TakesByWords p steps z (λ w. Contains ws w)) (is y there) (c.in_ok-words_held.ensures p (held (subst (λ (z : NodeView). IsNobody z) (sym (is y there)) nobody)))),
      c.in_ok-add.ensures p place c.loop-place.invariant.3 at decide,
    )

pub returns : goal.returns
returns c =
    let p = c.args.policy.now in
    let steps = c.args.steps.now in
    let nodes = c.args.nodes.now in
    let ys = map node_of nodes in
    let len = length-map nodes node_of in
    let end : c.loop-place.place ≡ length ys = (let test = c.loop-place-test.false in let low = c.loop-place.auto.place-end in let e : c.loop-place.place ≡ length nodes = omega (arith, test, low) in e) ∙ sym len in
    let own = c.loop-place.invariant.0 in
    let bound = c.in_ok-words.words.lists.items in
    let shared = c.in_ok-words.words.places.items in
    let words_own = subst (λ (n : ℕ). AreOwnWords p steps ys n own) end c.loop-place.invariant.2 in
    let taken = subst (λ (n : ℕ). AreTaken p steps ys n c.loop-place.others) end c.loop-place.invariant.3 in
    let places = subst (λ (n : ℕ). ArePlaces p c.args.grants.now ys n c.args.places.now) (sym len) c.requires.places in
    let lists : c.as_slice-2.result.now ≡ bound ++ own = c.as_slice-2.ensures.value ∙ c.loop-place.invariant.1 in
    let takes : c.as_slice-3.result.now ≡ map (map (list_of shared)) c.args.places.now =
    c.as_slice-3.ensures.value ∙ c.in_ok-takes.ensures ∙ ap (λ (ps : List ℕ). map (map (list_of ps)) c.args.places.now) c.as_slice.ensures.value in
    let words = each_takes p c.requires.policy steps c.args.grants.now c.requires.grants bound own shared (c.in_ok-words.ensures steps c.requires.takeovers) ys c.args.places.now c.as_slice-3.result.now places takes words_own in
    let had = rw (← c.as_slice-4.ensures.value, ← len) at c.in_ok-had_by.ensures in
    let takes_len : length c.as_slice-3.result.now ≡ length ys = ap length takes ∙ length-map c.args.places.now (map (list_of shared)) ∙ places.len in
    ok_both c.joined.result _ _ _
    (λ g g_len edges. graph_is p steps ys c.as_slice-2.result.now c.as_slice-3.result.now c.as_slice-4.result.now c.as_slice-5.result.now c.as_slice-6.result.now takes_len
    (λ i x there. subst (λ (ls : List (List Text)). TakesByWords p steps x (λ w. IsListedIn ls (get_or c.as_slice-3.result.now i []) w)) (sym lists) (words i x there))
    (rw (c.as_slice-5.ensures.value, c.as_slice-6.ensures.value, ap (λ (v : OthersTakenView). v.lists) c.others.view_is, ap (λ (v : OthersTakenView). v.places) c.others.view_is) taken.others)
    had g g_len edges)
    c.joined.ensures.nodes c.joined.ensures.edges
