use Rattle.std.proofs.Common.{◌≡◌, ◌∷◌, [], ◌∙◌, ap, sym, subst, map, take, arith, List}
use Rattle.std.proofs.lemmas.List.{map-append, take_all, take_more}
use Rattle.rbac_paths.specs.Rows.{AreOfStep, row_view}
use Rattle.rbac_paths.specs.Steps.{StepRowView}
use Rattle.rbac_paths.specs.declared.table.Row.{Row}
use Rattle.rbac_paths.proofs.Choosing.{added}
use Rattle.rbac_paths.proofs.rows.rows_among.Goals as goal

pub loop-row-preserved : goal.loop-row-preserved
loop-row-preserved c =
    let i = c.loop-row.row-index in
    let all = c.args.all.now in
    let more = ap (map row_view) (take_more all i _ c.loop-row-test.true) ∙ map-append row_view (take i all) (_ ∷ []) in
    subst (λ (rows : List StepRowView). AreOfStep c.args.step rows c.add_row.new.rows.items) (sym more)
    (added c.args.step (map row_view (take i all)) c.loop-row.rows.items c.add_row.new.rows.items c.loop-row.invariant _ c.in_ok-add_row.ensures)

pub returns : goal.returns
returns c =
    let all : take c.loop-row.row-index c.args.all.now ≡ c.args.all.now = take_all c.loop-row.row-index c.args.all.now (omega (arith, c.loop-row-test.false)) in
    subst (λ (rows : List Row). AreOfStep c.args.step (map row_view rows) c.loop-row.rows.items) all c.loop-row.invariant
