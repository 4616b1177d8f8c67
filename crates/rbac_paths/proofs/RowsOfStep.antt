-- What holdings take over by the rows of a step.
use Rattle.std.proofs.Common.{◌≡◌, List, Any}
use Rattle.rbac_model.proofs.OwnWords.{any_from}
use Rattle.rbac_paths.specs.Having.{HoldingView}
use Rattle.rbac_paths.specs.Nodes.{NodeView}
use Rattle.rbac_paths.specs.Rows.{AreOfStep}
use Rattle.rbac_paths.specs.Steps.{StepRowView, table}
use Rattle.rbac_paths.specs.Taking.{RowTakes}
use Rattle.rbac_paths.specs.Told.{HoldingTakes, HoldingsTake}
use Rattle.rbac_steps.specs.declared.steps.Step.{Step}

-- a holding takes over a node by the rows of a step exactly if it does by the table
module _ (step : Step) (rows : List StepRowView) (of : AreOfStep step table rows) (y : NodeView) where
  pub by_rows : (h : HoldingView) → Any (λ row. RowTakes row h.home h.rule y) rows → HoldingTakes step h y
  unfolding HoldingTakes
  by_rows h a = let w = (of a.1).0 (a.0, a.2, a.3) in any_from (λ row. (row.step ≡ step) × RowTakes row h.home h.rule y) table a.1 w.0 (w.1, a.4)

  pub in_rows : (h : HoldingView) → HoldingTakes step h y → Any (λ row. RowTakes row h.home h.rule y) rows
  unfolding HoldingTakes
  in_rows h a = any_from (λ row. RowTakes row h.home h.rule y) rows a.1 ((of a.1).1 ((a.0, a.2, a.3), a.4.0)) a.4.1

  -- one of these holdings takes over the node by one of the rows exactly if one does by the step
  pub some_by_rows : (hs : List HoldingView) → Any (λ row. Any (λ h. RowTakes row h.home h.rule y) hs) rows → HoldingsTake step hs y
  unfolding HoldingsTake
  some_by_rows hs a = (a.4.0, a.4.1, a.4.2, a.4.3, by_rows a.4.1 (any_from (λ row. RowTakes row a.4.1.home a.4.1.rule y) rows a.1 (a.0, a.2, a.3) a.4.4))

  pub some_in_rows : (hs : List HoldingView) → HoldingsTake step hs y → Any (λ row. Any (λ h. RowTakes row h.home h.rule y) hs) rows
  unfolding HoldingsTake
  some_in_rows hs a =
      let by = in_rows a.1 a.4 in
      any_from (λ row. Any (λ h. RowTakes row h.home h.rule y) hs) rows by.1 (by.0, by.2, by.3) (any_from (λ h. RowTakes by.1 h.home h.rule y) hs a.1 (a.0, a.2, a.3) by.4)
