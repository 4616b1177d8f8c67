use Rattle.std.proofs.Common.{ap, true≢false, sym, ◌∙◌}
use Rattle.rbac_model.specs.Labelled.{LabelEntry}
use Rattle.rbac_model.proofs.LabelJoining.{joins_tested, other_label}
use Rattle.rbac_model.proofs.labels.Entry.joins.Goals as goal

pub returns-then-is_eq : goal.returns-then-is_eq
returns-then-is_eq c =
    joins_tested c.args.self.now c.args.other.now _ c.cmp_label.result c.is_eq.result c.self.inside.place c.other.inside.place c.is_eq.ensures c.cmp_label.ensures
    (ap (λ (e : LabelEntry). e.label) c.other.view_is) (ap (λ (e : LabelEntry). e.place) c.self.view_is) (ap (λ (e : LabelEntry). e.place) c.other.view_is) c.if-is_eq.true

pub returns-else-is_eq : goal.returns-else-is_eq
returns-else-is_eq c = (
  λ t. absurd (true≢false (sym t ∙ c.if-is_eq.false)),
  λ w. absurd (other_label c.args.self.now c.args.other.now _ c.cmp_label.result c.is_eq.result c.is_eq.ensures c.cmp_label.ensures (ap (λ (e : LabelEntry). e.label) c.other.view_is) c.if-is_eq.false w.0),
)
