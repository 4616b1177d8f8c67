use Rattle.std.proofs.Common.{◌≡◌, ◌∙◌, ap, length, map}
use Rattle.rbac_paths.specs.Joints.{OthersTakenView}
use Rattle.rbac_paths.specs.Nodes.{node_of}
use Rattle.rbac_paths.proofs.SameOthers.{taken_new, taken_old}
use Rattle.rbac_paths.proofs.same_others.OthersTaken.add.Goals as goal
use Rattle.rbac_paths.proofs.same_others.OthersTaken.add.Goals.{in-Some+in_ok-push-in-Some+in_ok-push-in-Some-2, in-None+in_ok-found-in-None+in_ok-push-in-None+in_ok-push-in-None-2}

pub returns : goal.returns
returns c p count taken here decide =
    let steps = c.args.steps.now in
    let z = node_of c.args.from in
    let ys = map node_of c.args.nodes.now in
    let o = c.args.self.now in
    let few = c.args.few.items in
    let overs : c.self.inside.overs.items ≡ o.overs = ap (λ (v : OthersTakenView). v.overs) c.self.view_is ∙ c.same_before.ensures.same in
    let lists : c.self.inside.lists.items ≡ o.lists = ap (λ (v : OthersTakenView). v.lists) c.self.view_is ∙ c.same_before.ensures.lists in
    let places : c.self.inside.places.items ≡ o.places = ap (λ (v : OthersTakenView). v.places) c.self.view_is ∙ c.same_before.ensures.places in
    elim c.match-branch-2.branch [
      | in-Some+in_ok-push-in-Some+in_ok-push-in-Some-2 w ↦ (
          let found = rw w.in-Some.is at c.in_ok-list.ensures.found p steps count taken (rw c.as_slice.ensures.value decide) in
          rw (c.in_ok-push.ensures.items, c.from_vec.ensures, w.self-inside-is, w.in_ok-push-in-Some.ensures.items, w.in_ok-push-in-Some-2.ensures.items, overs, lists, places)
          (taken_old p steps ys count o taken z here few decide w.in-Some.list w.new.result found.0 found.1)
          )
      | in-None+in_ok-found-in-None+in_ok-push-in-None+in_ok-push-in-None-2 w ↦
          rw (c.in_ok-push.ensures.items, c.from_vec.ensures, w.self-inside-is, w.in_ok-push-in-None.ensures.items, w.in_ok-push-in-None-2.ensures.items, w.len.ensures ∙ c.self.inside.lists.ok.0 ∙ ap length lists ∙ taken.others.lists_len, overs, lists, places)
          (taken_new p steps ys count o taken z here few decide w.in_ok-found-in-None.found (w.in_ok-found-in-None.ensures p (rw w.as_slice-in-None.ensures.value decide)))
    ]
