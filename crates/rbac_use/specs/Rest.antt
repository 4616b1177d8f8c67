-- What is left of a policy if all that is unused is taken away.
use Rattle.std.specs.Prelude.{◌≡◌, ℕ, List, Some, Contains, slice_get}
use Rattle.rbac_terms.specs.Granting.{Names}
use Rattle.rbac_terms.specs.Matching.{RuleAllows}
use Rattle.rbac_terms.specs.declared.granting.Binding.{Binding}
use Rattle.rbac_terms.specs.declared.granting.Subject.{Subject as ASubject}
use Rattle.rbac_terms.specs.declared.matching.Rule.{Rule as ARule}
use Rattle.rbac_model.specs.Policies.{GrantView, Live, PolicyView}
use Rattle.rbac_diff.specs.Requests.{RequestView}
use Rattle.rbac_use.specs.Adding.{line_at}
use Rattle.rbac_use.specs.Permissions.{IsPermissionAt}
use Rattle.rbac_use.specs.Used.{IsGrantOf, IsUsed}
use Rattle.rbac_use.specs.declared.permission.TargetPlaces.{TargetPlaces}
use Rattle.rbac_use.specs.declared.unused.Part.TheVariants.{Whole, Subject, Rule, Permission}
use Rattle.rbac_use.specs.declared.unused.Unused.{Unused}

-- some permission of the rule is used through the binding
abbrev pub HasUsedPermission : List RequestView → Binding → ARule → Type 0
HasUsedPermission log b rule = (verb : ℕ) × (target : TargetPlaces) × (permission : ARule)
    × IsPermissionAt rule verb target permission × IsUsed log b permission

-- the rest of the policy allows the request (own): a subject of a binding and a permission of one
-- of its rules allow it, and no line is about the binding, the subject, the rule or the permission
pub record IsAllowedByRest (p : PolicyView) (xs : List Unused) (r : RequestView) : Type 0 where
  pub place : ℕ
  pub number : ℕ
  pub grant : GrantView
  pub of_binding : IsGrantOf p place number grant
  pub counts : Live grant.binding.namespace r.namespace r.target
  pub keeps_binding : ¬ Contains xs (line_at place Whole)
  pub subject_place : ℕ
  pub subject : ASubject
  pub subject_there : slice_get grant.binding.subjects subject_place ≡ Some subject
  pub names : Names subject grant.binding.namespace r.who
  pub keeps_subject : ¬ Contains xs (line_at place (Subject subject_place))
  pub keeps_rule : ¬ Contains xs (line_at place (Rule number))
  pub verb : ℕ
  pub target : TargetPlaces
  pub permission : ARule
  pub of_rule : IsPermissionAt grant.rule.rule verb target permission
  pub allows : RuleAllows permission r.verb r.target
  pub keeps_permission : ¬ Contains xs (line_at place (Permission number verb target))
