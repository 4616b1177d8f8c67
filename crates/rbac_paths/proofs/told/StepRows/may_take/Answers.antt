use Rattle.std.proofs.Common.{List, subst, sym}
use Rattle.rbac_paths.specs.Rows.{AreOfStep}
use Rattle.rbac_paths.specs.Steps.{StepRowView, table}
use Rattle.rbac_paths.proofs.WhatDecides.{may_take_rows}
use Rattle.rbac_paths.proofs.told.StepRows.may_take.Goals as goal

pub returns : goal.returns
returns c =
    let step = c.self.inside.step in
    let rows = c.as_slice.result.now in
    let of = subst (λ (rows : List StepRowView). AreOfStep step table rows) (sym c.as_slice.ensures.value) c.self.invariant in
    let same = may_take_rows step rows of c.args.rule.now in
    rw (← c.self.view_is) (λ t. same.0 (c.some_matches_over_others.ensures.0 t), λ w. c.some_matches_over_others.ensures.1 (same.1 w))
