-- What of a policy a log doesn't use.
use Rattle.std.specs.Prelude.{◌≡◌, ◌↔◌, ℕ, Bool, IsTrue, List, [], ◌∷◌, Option, Some, None}
use Rattle.std.specs.Prelude.{AllPairs, Contains, codes, slice_get}
use Rattle.std.specs.Cmp.Lexicographic.{slice_cmp}
use Rattle.std.specs.Ordering.{nat_cmp}
use Rattle.std.specs.declared.cmp.Ordering.TheVariants.{Less}
use Rattle.rbac_terms.specs.Text.{BeginsWith}
use Rattle.rbac_terms.specs.declared.granting.Binding.{Binding}
use Rattle.rbac_terms.specs.declared.granting.Subject.{Subject as ASubject}
use Rattle.rbac_terms.specs.declared.matching.Rule.{Rule as ARule}
use Rattle.rbac_model.specs.Policies.{GrantView, PolicyView}
use Rattle.rbac_diff.specs.Requests.{RequestView}
use Rattle.rbac_use.specs.Permissions.{IsPermissionAt}
use Rattle.rbac_use.specs.Used.{CanBeUsed, HasPermissions, IsGrantOf, IsUsed, IsUsedAt, IsUsedBy}
use Rattle.rbac_use.specs.Used.{NamesSomebody}
use Rattle.rbac_use.specs.declared.permission.TargetPlaces.{TargetPlaces}
use Rattle.rbac_use.specs.declared.permission.TargetPlaces.TheVariants.{Resource, Url}
use Rattle.rbac_use.specs.declared.unused.Part.{Part}
use Rattle.rbac_use.specs.declared.unused.Part.TheVariants.{Whole, Subject, Rule, Permission}
use Rattle.rbac_use.specs.declared.unused.Unused.{Unused}

-- this part of the binding at that place has a line, since nothing that was logged used it (own):
-- all of the binding, which has permissions; of a binding that is used, a subject that names
-- somebody, or a rule that some request can match; of a rule that is used, a permission that some
-- request can match
abbrev pub IsUnusedPart : PolicyView → List RequestView → ℕ → Part → Type 0
IsUnusedPart p log place Whole = HasPermissions p place × ¬ IsUsedAt p log place
IsUnusedPart p log place (Subject i) = (b : Binding) × (s : ASubject)
    × (slice_get p.held.bindings place ≡ Some b) × (slice_get b.subjects i ≡ Some s)
    × NamesSomebody b.namespace s × IsUsedAt p log place × ¬ IsUsedBy p log place b.namespace s
IsUnusedPart p log place (Rule n) = (g : GrantView) × IsGrantOf p place n g
    × CanBeUsed g.binding g.rule.rule × IsUsedAt p log place × ¬ IsUsed log g.binding g.rule.rule
IsUnusedPart p log place (Permission n verb target) = (g : GrantView) × (permission : ARule)
    × IsGrantOf p place n g × IsPermissionAt g.rule.rule verb target permission
    × CanBeUsed g.binding permission × IsUsed log g.binding g.rule.rule
    × ¬ IsUsed log g.binding permission

-- x is the line of an unused part of the binding at that place
abbrev pub IsPartLine : PolicyView → List RequestView → ℕ → Unused → Type 0
IsPartLine p log place x = (x.binding ≡ place) × IsUnusedPart p log place x.part

-- the binding isn't left out: those whose names begin with `system:` are, if this is asked for (own)
abbrev pub Keeps : Bool → Binding → Type 0
Keeps skip_system b = IsTrue skip_system → ¬ BeginsWith b.name (codes "system:")

-- the binding at that place isn't left out
abbrev pub IsKept : PolicyView → Bool → ℕ → Type 0
IsKept p skip_system place = (b : Binding) × (slice_get p.held.bindings place ≡ Some b)
    × Keeps skip_system b

-- x is a line of the binding at that place, which isn't left out
abbrev pub IsUnusedAt : PolicyView → List RequestView → Bool → ℕ → Unused → Type 0
IsUnusedAt p log skip_system place x = IsKept p skip_system place × IsPartLine p log place x

-- x is a line: of an unused part of a binding that isn't left out
abbrev pub IsUnused : PolicyView → List RequestView → Bool → Unused → Type 0
IsUnused p log skip_system x = IsKept p skip_system x.binding × IsUnusedPart p log x.binding x.part

-- the place of an object name of a permission; none for any name
abbrev pub name_place : Option ℕ → List ℕ
name_place None = []
name_place (Some i) = i ∷ []

-- the places of the words of a target: URLs come first, then resources by API group, resource and
-- object name
abbrev pub target_places : TargetPlaces → List ℕ
target_places (Url i) = 0 ∷ i ∷ []
target_places (Resource i j name) = 1 ∷ i ∷ j ∷ name_place name

-- the places of a part in its binding: subjects come first, then rules in order of grants; of a
-- rule, permissions by the place of the verb, then of the target's words
abbrev pub part_places : Part → List ℕ
part_places Whole = []
part_places (Subject i) = 0 ∷ i ∷ []
part_places (Rule n) = 1 ∷ n ∷ []
part_places (Permission n verb target) = 1 ∷ n ∷ verb ∷ target_places target

-- the places by which lines are ordered: of the binding, then of the part in it
abbrev pub line_places : Unused → List ℕ
line_places x = x.binding ∷ part_places x.part

-- x comes before y (own)
abbrev pub IsBefore : Unused → Unused → Type 0
IsBefore x y = slice_cmp nat_cmp (line_places x) (line_places y) ≡ Less

-- exactly the lines with the property, each once, in order
pub record AreExactly (P : Unused → Type 0) (xs : List Unused) : Type 0 where
  pub ordered : AllPairs IsBefore xs
  pub exact : (x : Unused) → Contains xs x ↔ P x

-- what the log doesn't use: exactly its lines, each once, in order (own)
abbrev pub AreUnused : PolicyView → List RequestView → Bool → List Unused → Type 0
AreUnused p log skip_system xs = AreExactly (IsUnused p log skip_system) xs
