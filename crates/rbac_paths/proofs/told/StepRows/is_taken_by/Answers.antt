use Rattle.std.proofs.Common.{List, subst, sym}
use Rattle.rbac_paths.specs.Nodes.{node_of}
use Rattle.rbac_paths.specs.Rows.{AreOfStep}
use Rattle.rbac_paths.specs.Steps.{StepRowView, table}
use Rattle.rbac_paths.proofs.RowsOfStep.{by_rows, in_rows}
use Rattle.rbac_paths.proofs.told.StepRows.is_taken_by.Goals as goal

pub returns : goal.returns
returns c =
    let step = c.self.inside.step in
    let rows = c.as_slice.result.now in
    let of = subst (λ (rows : List StepRowView). AreOfStep step table rows) (sym c.as_slice.ensures.value) c.self.invariant in
    let to = node_of c.args.to in
    rw (← c.self.view_is) (
      λ t. by_rows step rows of to c.args.held.now (c.takes_some.ensures.0 t),
      λ w. c.takes_some.ensures.1 (in_rows step rows of to c.args.held.now w),
    )
