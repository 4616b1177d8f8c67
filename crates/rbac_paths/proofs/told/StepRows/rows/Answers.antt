use Rattle.std.proofs.Common.{List, subst, sym}
use Rattle.rbac_paths.specs.Rows.{AreOfStep}
use Rattle.rbac_paths.specs.Steps.{StepRowView, table}
use Rattle.rbac_paths.proofs.told.StepRows.rows.Goals as goal

pub returns : goal.returns
returns c =
    let of = subst (λ (rows : List StepRowView). AreOfStep c.self.inside.step table rows) (sym c.as_slice.ensures.value) c.self.invariant in
    rw (← c.self.view_is) of
