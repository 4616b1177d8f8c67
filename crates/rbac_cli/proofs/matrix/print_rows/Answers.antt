use Rattle.std.proofs.Common.{◌∙◌, Bool, ap, refl, subst, sym}
use Rattle.std.specs.Prelude.{None}
use Rattle.std.specs.Option.{option_copied}
use Rattle.rbac_model.specs.Policies.{PolicyView}
use Rattle.rbac_model.specs.Universes.{UniverseView}
use Rattle.rbac_question.specs.declared.command.Action.TheVariants.{Matrix}
use Rattle.rbac_cli.specs.MatrixPage.{AreListedRows, cut_at, matrix_text, rows_past}
use Rattle.rbac_cli.specs.PageLeft.{text_after}
use Rattle.rbac_cli.specs.declared.exports.Exports.TheVariants.{Single}
use Rattle.rbac_cli.proofs.matrix.print_rows.Goals as goal

pub returns : goal.returns
returns g c = λ l universe policy.
    let options = c.args.options in
    let every = options.every in
    let m = option_copied c.args.after in
    let basis = c.args.basis.now in
    let matrix = c.build-matrix in
    let left = c.after-left.ensures.left in
    let rows = rows_past every m left.0 in
    let listed = subst (λ (p : PolicyView). AreListedRows options p.held basis.universe left.0) (matrix.ensures.index ∙ policy)
    (subst (λ (u : UniverseView). AreListedRows options matrix.result.index.now.held u left.0) matrix.ensures.universe left.1) in
    c.print_lines.ensures (Single l) (Matrix options m c.args.limit) (matrix_text every m c.args.limit left.0)
    (None, rows, refl, left.2, ap (λ (e : Bool). text_after e None (cut_at c.args.limit rows)) (sym c.after-left.ensures.every))
    (basis.universe, left.0, universe, listed, refl, refl)
