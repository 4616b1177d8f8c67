use Rattle.std.proofs.Common.{◌≡◌, ◌∙◌, ◌<◌, [], ℕ, List, ap, arith, get_or, length, map, subst, sym}
use Rattle.rbac_paths.specs.Having.{HoldingView}
use Rattle.rbac_paths.specs.Joints.{AreOthers, DecideOn, IsNobody, OthersTakenView}
use Rattle.rbac_paths.specs.Nodes.{node_of}
use Rattle.rbac_paths.specs.SharedLists.{list_of}
use Rattle.rbac_paths.proofs.SameOthers.{same_others}
use Rattle.rbac_paths.proofs.same_others.OthersTaken.same_before.Goals as goal

pub returns-then-has_same-clause-found : goal.returns-then-has_same-clause-found
returns-then-has_same-clause-found c p steps count taken decide =
    let o = c.args.self.now in
    let few = c.args.few.now in
    let place = c.in-Some.place in
    let z = node_of c.args.from in
    let ys = map node_of c.args.nodes.now in
    let there = c.goes_on_at.ensures c.if-goes_on_at.true in
    let overs : o.overs ≡ c.as_slice-overs.result.now = sym (ap (λ (v : OthersTakenView). v.overs) c.self.view_is) ∙ sym c.as_slice-overs.ensures.value in
    let low : place < count = (let less = c.has_same.ensures.low c.if-has_same.true in let len = taken.len in let same = ap length overs in omega (arith, less, len, same)) in
    let list : c.list_of.result ≡ list_of o.places place = c.list_of.ensures ∙ ap (λ (ps : List ℕ). list_of ps place) (c.as_slice.ensures.value ∙ ap (λ (v : OthersTakenView). v.places) c.self.view_is) in
    let decided = subst (λ (hs : List HoldingView). DecideOn p steps there.0 hs IsNobody) (ap (λ (os : List (List HoldingView)). get_or os place []) overs ∙ c.has_same.ensures.same c.if-has_same.true) (taken.decide place there.0 low there.1) in (
      subst (λ (n : ℕ). n < count) (sym list) (taken.others.within place low),
      subst (λ (n : ℕ). AreOthers p steps z ys (get_or o.lists n [])) (sym list)
          (same_others p steps few there.0 z decided decide there.2 (c.goes_on.ensures c.if-goes_on.true) ys (get_or o.lists (list_of o.places place) []) (taken.others.each place low there.0 there.1)),
    )
