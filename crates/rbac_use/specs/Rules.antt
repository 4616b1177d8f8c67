-- The lines of a rule through a binding, by the requests that the binding allows.
use Rattle.std.specs.Prelude.{◌≡◌, ◌⊎◌, ℕ, List, Some, None}
use Rattle.rbac_terms.specs.declared.granting.Binding.{Binding}
use Rattle.rbac_terms.specs.declared.matching.Rule.{Rule as ARule}
use Rattle.rbac_model.specs.Policies.{GrantView, PolicyView}
use Rattle.rbac_use.specs.Adding.{OfSome, line_at}
use Rattle.rbac_use.specs.Asked.{IsAskedBy}
use Rattle.rbac_use.specs.Permissions.{IsPermissionAt}
use Rattle.rbac_use.specs.Used.{CanBeUsed, IsGrantOf}
use Rattle.rbac_use.specs.declared.permission.TargetPlaces.{TargetPlaces}
use Rattle.rbac_use.specs.declared.permission.TargetPlaces.TheVariants.{Resource, Url}
use Rattle.rbac_use.specs.declared.request.Request.{Request}
use Rattle.rbac_use.specs.declared.rules.GrantUse.{GrantUse}
use Rattle.rbac_use.specs.declared.unused.Part.TheVariants.{Rule, Permission}
use Rattle.rbac_use.specs.declared.unused.Unused.{Unused}

-- a grant by its number, with the place of its binding, and the requests that the binding allows
pub record UseView : Type 0 where
  pub place : ℕ
  pub number : ℕ
  pub binding : Binding
  pub rule : ARule
  pub asked : List Request

-- what contracts see of a grant and its requests
abbrev pub use_of : GrantUse → UseView
use_of u = record {
  place = u.place;
  number = u.number;
  binding = u.binding.now;
  rule = u.rule.now;
  asked = u.asked.now;
}

-- some request can match the permission through the binding, but none of the requests uses it
abbrev pub IsIdle : UseView → ARule → Type 0
IsIdle u permission = CanBeUsed u.binding permission × ¬ IsAskedBy u.asked permission

-- the permission with the words at these places is such a one
abbrev pub IsIdleAt : UseView → ℕ → TargetPlaces → Type 0
IsIdleAt u verb target = (permission : ARule) × IsPermissionAt u.rule verb target permission
    × IsIdle u permission

-- the line of that permission
abbrev pub IsPermissionLine : UseView → ℕ → TargetPlaces → Unused → Type 0
IsPermissionLine u verb target x = (x ≡ line_at u.place (Permission u.number verb target))
    × IsIdleAt u verb target

-- the line of a permission for a URL
abbrev pub IsUrlLine : UseView → ℕ → ℕ → Unused → Type 0
IsUrlLine u verb url x = IsPermissionLine u verb (Url url) x

-- the line of a permission for a resource with an object name
abbrev pub IsNameLine : UseView → ℕ → ℕ → ℕ → ℕ → Unused → Type 0
IsNameLine u verb group resource name x =
    IsPermissionLine u verb (Resource group resource (Some name)) x

-- the line of a permission for a resource with any name, or with one
abbrev pub IsResourceLine : UseView → ℕ → ℕ → ℕ → Unused → Type 0
IsResourceLine u verb group resource x = IsPermissionLine u verb (Resource group resource None) x
    ⊎ OfSome (IsNameLine u verb group resource) x

-- the line of a permission for a resource of that API group
abbrev pub IsGroupLine : UseView → ℕ → ℕ → Unused → Type 0
IsGroupLine u verb group x = OfSome (IsResourceLine u verb group) x

-- the line of a permission with that verb
abbrev pub IsVerbLine : UseView → ℕ → Unused → Type 0
IsVerbLine u verb x = OfSome (IsUrlLine u verb) x ⊎ OfSome (IsGroupLine u verb) x

-- the line of a rule that none of the requests uses, or of a permission of a rule that one uses
abbrev pub IsRuleLine : UseView → Unused → Type 0
IsRuleLine u x = ((x ≡ line_at u.place (Rule u.number)) × IsIdle u u.rule)
    ⊎ (IsAskedBy u.asked u.rule × OfSome (IsVerbLine u) x)

-- a grant, with the requests that its binding at that place allows
abbrev pub grant_use : ℕ → List Request → ℕ → GrantView → UseView
grant_use place asked n g = record {
  place = place;
  number = n;
  binding = g.binding;
  rule = g.rule.rule;
  asked = asked;
}

-- the line of the grant with that number, of the binding at that place
abbrev pub IsGrantLine : PolicyView → ℕ → List Request → ℕ → Unused → Type 0
IsGrantLine p place asked n x = (g : GrantView) × IsGrantOf p place n g
    × IsRuleLine (grant_use place asked n g) x
