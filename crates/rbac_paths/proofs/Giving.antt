-- A rule allows a request of the rows of a step exactly if it allows a request of the step by the
-- table.
use Rattle.std.proofs.Common.{◌≡◌, ◌≤◌, ◌<◌, ◌↔◌, ℕ, List, Option, Some, ◌∙◌, ap, sym, subst, refl, Any, length, slice_get}
use Rattle.std.proofs.lemmas.Option.{same_Some}
use Rattle.rbac_terms.specs.Text.{Text}
use Rattle.rbac_terms.specs.declared.matching.Rule.{Rule}
use Rattle.rbac_model.specs.Policies.{GrantView, IsOfBinding, PolicyView}
use Rattle.rbac_model.proofs.OwnWords.{any_from}
use Rattle.rbac_paths.specs.Powers.{AllowsStep, GivesStep}
use Rattle.rbac_paths.specs.Finding.{GivesNone, IsFirstGiving}
use Rattle.rbac_paths.specs.Rows.{AreOfStep}
use Rattle.rbac_paths.specs.Steps.{AllowsIn, StepRowView, table}
use Rattle.rbac_terms.specs.declared.granting.Binding.{Binding}
use Rattle.rbac_steps.specs.declared.steps.Step.{Step}

module _ (step : Step) (rows : List StepRowView) (of : AreOfStep step table rows) (namespace : Option Text) (rule : Rule) where
  pub by_rows : Any (AllowsIn namespace rule) rows → AllowsStep step namespace rule
  by_rows a =
      let w = (of a.1).0 (a.0, a.2, a.3) in
      any_from (λ row. (row.step ≡ step) × AllowsIn namespace rule row) table a.1 w.0 (w.1, a.4)

  pub in_rows : AllowsStep step namespace rule → Any (AllowsIn namespace rule) rows
  in_rows a = any_from (AllowsIn namespace rule) rows a.1 ((of a.1).1 ((a.0, a.2, a.3), a.4.0)) a.4.1

-- the binding of a grant is the binding at the grant's place
pub own_binding : (p : PolicyView) (n place : ℕ) (g : GrantView) (b : Binding) → slice_get p.grants n ≡ Some g → IsOfBinding p n place → slice_get p.held.bindings place ≡ Some b → g.binding ≡ b
own_binding p n place g b here of there =
    ap (λ (x : GrantView). x.binding) (same_Some g of.0 (sym here ∙ of.1)) ∙ same_Some of.0.binding b (sym of.2 ∙ there)

-- the grants from one number up to another allow no request of these rows
abbrev pub AllowsNone : PolicyView → List StepRowView → ℕ → ℕ → Type 0
AllowsNone p rows from end = (k : ℕ) (g : GrantView) → from ≤ k → k < end → slice_get p.grants k ≡ Some g → ¬ Any (AllowsIn g.binding.namespace g.rule.rule) rows

module _ (p : PolicyView) (rows : List StepRowView) (from end place : ℕ) (step : Step) (of : AreOfStep step table rows)
    (between : (n at : ℕ) → IsOfBinding p n at → ((from ≤ n) × (n < end)) ↔ (at ≡ place)) where
  -- if no grant of the binding allows a request of these rows, none gives the step
  pub gives_none : AllowsNone p rows from end → GivesNone p step place
  gives_none none n g (here, is) gives =
      let within = (between n place is).1 refl in
      none n g within.0 within.1 here (in_rows step rows of g.binding.namespace g.rule.rule gives)

  pub first_giving : (n : ℕ) (g : GrantView) → AllowsNone p rows from n → n < length p.grants → n < end → IsOfBinding p n place → slice_get p.grants n ≡ Some g → Any (AllowsIn g.binding.namespace g.rule.rule) rows → IsFirstGiving p step place n
  first_giving n g none number low is here allows = record {
    number = number;
    of_binding = is;
    gives = λ x there. subst (λ (y : GrantView). GivesStep step y) (same_Some g x (sym here ∙ there)) (by_rows step rows of g.binding.namespace g.rule.rule allows);
    first = λ k x less (there, also) gives. none k x ((between k place also).1 refl).0 less there (in_rows step rows of x.binding.namespace x.rule.rule gives);
  }
