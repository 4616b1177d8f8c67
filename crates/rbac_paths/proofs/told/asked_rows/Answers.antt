use Rattle.std.proofs.Common.{◌≡◌, ◌+◌, ◌++◌, ◌∷◌, ◌∙◌, [], List, ap, arith, subst, sym, take}
use Rattle.std.proofs.lemmas.List.{take_all, take_more}
use Rattle.rbac_paths.specs.Asked.{AreAskedFor, RowAsks}
use Rattle.rbac_paths.specs.Nodes.{node_of}
use Rattle.rbac_paths.specs.Steps.{StepRowView}
use Rattle.rbac_paths.proofs.Taken.{asked_more, asked_same}
use Rattle.rbac_paths.proofs.told.asked_rows.Goals as goal
use Rattle.rbac_paths.proofs.told.asked_rows.Goals.{in-Some+in_ok-push, in_default}

pub loop-row-preserved : goal.loop-row-preserved
loop-row-preserved c =
    let rows = c.args.rows.now in
    let i = c.loop-row.row-index in
    let row = c.row-item.result in
    let y = node_of c.args.node in
    let more : take (i + 1) rows ≡ take i rows ++ row ∷ [] = take_more rows i row c.loop-row-test.true ∙ ap (λ (v : StepRowView). take i rows ++ v ∷ []) (sym c.row-item.is) in
    rw more (elim c.match-asked_for.branch [
      | in-Some+in_ok-push w ↦ rw (w.asked-is, w.in_ok-push.ensures.items)
          (asked_more y (take i rows) row c.loop-row.asked.items _ c.loop-row.invariant (subst (RowAsks row y) w.in-Some.is c.asked_for.ensures))
      | in_default w ↦ rw w.asked-is
          (asked_same y (take i rows) row c.loop-row.asked.items c.loop-row.invariant c.asked_for.result c.asked_for.ensures w.in_default.not-Some)
    ])

pub returns : goal.returns
returns c =
    let rows = c.args.rows.now in
    subst (λ (rs : List StepRowView). AreAskedFor rs (node_of c.args.node) c.loop-row.asked.items) (take_all c.loop-row.row-index rows (let test = c.loop-row-test.false in omega (arith, test))) c.loop-row.invariant
