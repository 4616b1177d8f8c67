use Rattle.std.proofs.Common.{ℕ, List, ◌<◌, ◌↔◌, length, sym, subst}
use Rattle.std.proofs.lemmas.Result.{IfOk-weaker}
use Rattle.rbac_terms.specs.Selecting.{MeetsOp, Meets, HasOneOf, HasLabelKey}
use Rattle.rbac_terms.specs.declared.selecting.SelectOp.{SelectOp}
use Rattle.rbac_model.specs.Graphs.{HasPlace}
use Rattle.rbac_model.specs.Labelled.{AreWith}
use Rattle.rbac_model.proofs.LabelSets.{with_same, with_others}
use Rattle.rbac_model.proofs.labels.Labelled.meeting.Goals as goal

pub returns-in_ok-having_one_of-in-NoneOf : goal.returns-in_ok-having_one_of-in-NoneOf
returns-in_ok-having_one_of-in-NoneOf c =
    let r = c.args.requirement.now in
    let roles = c.args.self.now in
    let found : List ℕ = c.in_ok-having_one_of-in-NoneOf.field-0 in
    IfOk-weaker c.others-in-NoneOf.result (λ m. (k : ℕ) → HasPlace m k ↔ ((k < length roles) × (HasPlace found k → ⊥))) (AreWith (Meets r) roles)
    (λ m others. with_same roles (λ ls. HasOneOf ls r.key r.values → ⊥) (Meets r) m
    (λ ls. subst (λ (op : SelectOp). (HasOneOf ls r.key r.values → ⊥) ↔ MeetsOp op r.key r.values ls) (sym c.in-NoneOf.is) (λ h. h, λ h. h))
    (with_others roles (λ ls. HasOneOf ls r.key r.values) found m others c.in_ok-having_one_of-in-NoneOf.ensures))
    c.others-in-NoneOf.ensures

pub returns-in_ok-having-in-Absent : goal.returns-in_ok-having-in-Absent
returns-in_ok-having-in-Absent c =
    let r = c.args.requirement.now in
    let roles = c.args.self.now in
    let found : List ℕ = c.in_ok-having-in-Absent.field-0 in
    IfOk-weaker c.others-in-Absent-2.result (λ m. (k : ℕ) → HasPlace m k ↔ ((k < length roles) × (HasPlace found k → ⊥))) (AreWith (Meets r) roles)
    (λ m others. with_same roles (λ ls. HasLabelKey ls r.key → ⊥) (Meets r) m
    (λ ls. subst (λ (op : SelectOp). (HasLabelKey ls r.key → ⊥) ↔ MeetsOp op r.key r.values ls) (sym c.in-Absent.is) (λ h. h, λ h. h))
    (with_others roles (λ ls. HasLabelKey ls r.key) found m others c.in_ok-having-in-Absent.ensures))
    c.others-in-Absent-2.ensures
