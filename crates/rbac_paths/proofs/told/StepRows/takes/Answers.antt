use Rattle.std.proofs.Common.{List, subst, sym}
use Rattle.rbac_paths.specs.Nodes.{node_of}
use Rattle.rbac_paths.specs.Rows.{AreOfStep}
use Rattle.rbac_paths.specs.Steps.{StepRowView, table}
use Rattle.rbac_paths.proofs.RowsOfStep.{some_by_rows, some_in_rows}
use Rattle.rbac_paths.proofs.told.StepRows.takes.Goals as goal

pub returns : goal.returns
returns c =
    let step = c.self.inside.step in
    let rows = c.as_slice.result.now in
    let of = subst (λ (rows : List StepRowView). AreOfStep step table rows) (sym c.as_slice.ensures.value) c.self.invariant in
    let to = node_of c.args.to in
    rw (← c.self.view_is) (
      λ t. some_by_rows step rows of to c.args.holdings.now (c.some_takes.ensures.0 t),
      λ w. c.some_takes.ensures.1 (some_in_rows step rows of to c.args.holdings.now w),
    )
