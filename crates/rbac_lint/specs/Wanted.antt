-- Which findings are asked for.
use Rattle.std.specs.Prelude.{◌≡◌, ℕ, ◌⊎◌, List, Option, Bool, IsTrue, IfSome, Contains, codes}
use Rattle.rbac_terms.specs.Text.{Text, BeginsWith}
use Rattle.rbac_model.specs.Policies.{Held}
use Rattle.rbac_manifest.specs.declared.replacement.Replaced.{Replaced}
use Rattle.rbac_lint.specs.declared.finding.Finding.{Finding}
use Rattle.rbac_lint.specs.Lines.{ObjectName, Line, AreShown}
use Rattle.rbac_lint.specs.Findings.{IsFinding}

-- the codes of the findings that are asked for, all codes without a list; and whether findings
-- about Kubernetes' own objects are left out
pub record WantedView : Type 0 where
  pub only : Option (List ℕ)
  pub skip_system : Bool

-- the user-facing roles: the default cluster roles whose names don't begin with `system:` (Using
-- RBAC Authorization, Default roles and role bindings)
abbrev pub IsUserFacing : Text → Type 0
IsUserFacing name = (name ≡ codes "cluster-admin")
    ⊎ ((name ≡ codes "admin") ⊎ ((name ≡ codes "edit") ⊎ (name ≡ codes "view")))

-- the object is Kubernetes' own: its name begins with `system:`, which marks what the control plane
-- manages (Using RBAC Authorization, Default roles and role bindings), whatever its kind and its
-- namespace; or it is a user-facing cluster role (own)
unfoldable pub IsSystem : ObjectName → Type 0
IsSystem o = BeginsWith o.name (codes "system:")
    ⊎ ((o.kind ≡ codes "ClusterRole") × IsUserFacing o.name)

-- findings with this code are asked for (own)
abbrev pub HasCode : WantedView → ℕ → Type 0
HasCode w code = IfSome w.only (λ only. Contains only code)

-- findings about this object aren't left out (own)
abbrev pub IsKept : WantedView → ObjectName → Type 0
IsKept w o = IsTrue w.skip_system → ¬ IsSystem o

-- this line is asked for, if it is a finding
abbrev pub IsWanted : WantedView → Line → Type 0
IsWanted w x = HasCode w x.code × IsKept w x.object

-- these are the findings that are asked for: exactly those lines, in order (own)
abbrev pub AreWanted : WantedView → Held → List Replaced → List Finding → Type 0
AreWanted w h rs found = AreShown (λ x. IsFinding h rs x × IsWanted w x) found

-- a line with the property, about an object that isn't left out
abbrev pub OfKept : WantedView → (Line → Type 0) → Line → Type 0
OfKept w P x = P x × IsKept w x.object

-- a line with the property that is asked for
abbrev pub OfWanted : WantedView → (Line → Type 0) → Line → Type 0
OfWanted w P x = P x × IsWanted w x
