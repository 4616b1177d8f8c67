use Rattle.std.proofs.Common.{◌∙◌, ap, subst, sym}
use Rattle.rbac_matrix.specs.Once.{PassesRepeats}
use Rattle.rbac_cli.specs.MatrixRows.{AreRowsLeft, GivesNextRow}
use Rattle.rbac_cli.specs.declared.matrix_rows.MatrixRows.{MatrixRows}
use Rattle.rbac_cli.specs.declared.rows_left.RowsLeft.{RowsLeft}
use Rattle.rbac_cli.proofs.RowsLeftLemmas.{next_once, next_plain}
use Rattle.rbac_cli.proofs.rows_left.RowsLeft.next.Goals.{then-self, else-self}
use Rattle.rbac_cli.proofs.rows_left.RowsLeft.next.Goals as goal

pub returns-clause-gives : goal.returns-clause-gives
returns-clause-gives c =
    let old = c.args.self.now in
    let new : RowsLeft = record { rows = c.next.new.self; once = c.if-self.self.once } in
    elim c.if-self.branch [
      | then-self w ↦
          let passes = subst (λ (m : MatrixRows). PassesRepeats (AreRowsLeft old.rows) (AreRowsLeft m)) (sym (ap (λ (l : RowsLeft). l.rows) w.self-is)) w.pass_repeats.ensures.passes in
          next_once old new c.if-self.self.rows passes w.if-self.true (ap (λ (l : RowsLeft). l.once) w.self-is ∙ w.if-self.true) c.next.result c.next.ensures.gives
      | else-self w ↦
          let gives = subst (λ (m : MatrixRows). GivesNextRow m c.next.result c.next.new.self) (ap (λ (l : RowsLeft). l.rows) w.self-is) c.next.ensures.gives in
          next_plain old new w.if-self.false (ap (λ (l : RowsLeft). l.once) w.self-is ∙ w.if-self.false) c.next.result gives
    ]
