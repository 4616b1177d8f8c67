use Rattle.std.proofs.Common.{◌++◌, ◌∷◌, List, [], arith, subst, sym, take}
use Rattle.std.proofs.lemmas.List.{take_all}
use Rattle.rbac_paths.specs.Having.{HoldingView}
use Rattle.rbac_model.proofs.Stairs.{take_read}
use Rattle.rbac_paths.specs.Joints.{AreOverOthers, SomeMayTake}
use Rattle.rbac_paths.proofs.Kept.{kept_more, kept_same}
use Rattle.rbac_paths.proofs.other_nodes.over_others.Goals as goal
use Rattle.rbac_paths.proofs.other_nodes.over_others.Goals.{then-some_may_take+in_ok-push, else-some_may_take}

pub loop-held-preserved : goal.loop-held-preserved
loop-held-preserved c =
    let steps = c.args.steps.now in
    let hs = c.args.holdings.now in
    let i = c.loop-held.held-index in
    let h = c.held-item.result in
    let few = c.loop-held.few.items in
    rw (take_read hs i h c.loop-held-test.true c.held-item.is) (elim c.if-some_may_take.branch [
      | then-some_may_take+in_ok-push w ↦ rw (w.few-is, w.in_ok-push.ensures.items)
          (subst (λ (z : HoldingView). AreOverOthers steps (take i hs ++ h ∷ []) (few ++ z ∷ [])) (sym c.held.view_is)
          (kept_more (SomeMayTake steps) (take i hs) h few c.loop-held.invariant (c.some_may_take.ensures.0 w.if-some_may_take.true)))
      | else-some_may_take w ↦ rw w.few-is
          (kept_same (SomeMayTake steps) (take i hs) h few c.loop-held.invariant (λ t. (let both = c.some_may_take.ensures.1 t in let not = w.if-some_may_take.false in cc)))
    ])

pub returns : goal.returns
returns c =
    let hs = c.args.holdings.now in
    let i = c.loop-held.held-index in
    subst (λ (zs : List HoldingView). AreOverOthers c.args.steps.now zs c.loop-held.few.items) (take_all i hs (let test = c.loop-held-test.false in omega (arith, test))) c.loop-held.invariant
