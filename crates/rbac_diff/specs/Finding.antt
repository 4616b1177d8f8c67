-- The search for the permissions that one policy has and another doesn't allow.
use Rattle.std.specs.Prelude.{◌≡◌, ℕ, ◌<◌, ◌⊎◌, List, Option, Some, None, Any, IsSome, Contains}
use Rattle.std.specs.Prelude.{map, slice_get}
use Rattle.std.specs.BTreeMap.{BTreeMap, get}
use Rattle.std.specs.Option.{option_copied}
use Rattle.std.proofs.Common.{Bor}
use Rattle.rbac_terms.specs.Text.{Text, text_cmp}
use Rattle.rbac_terms.specs.declared.matching.Rule.{Rule}
use Rattle.rbac_model.specs.Policies.{PolicyView, GrantView, IsOfBinding}
use Rattle.rbac_diff.specs.Permissions.{PermissionView, OnResource, OnUrl, one_star}
use Rattle.rbac_diff.specs.Permissions.{IsNameOf, Permits, HasPermission}
use Rattle.rbac_diff.specs.Covering.{CoversWords, IsAskedFor, IsCovered}
use Rattle.rbac_diff.specs.Texts.{permission_text}
use Rattle.rbac_diff.specs.Listed.{OriginView}
use Rattle.rbac_diff.specs.declared.change.ChangeKind.{ChangeKind}
use Rattle.rbac_diff.specs.declared.finding.Search.{Search}

-- what was found so far, by the texts of permissions
abbrev pub FoundChanges : Type 0
FoundChanges = BTreeMap Text OriginView

-- `new` has the entries of `old`, and `x` under the text of each permission with the property that
-- has no entry in `old`
pub record Finds (P : PermissionView → Type 0) (x : OriginView) (old new : FoundChanges)
    : Type 0 where
  pub kept : (t : Text) (y : OriginView) → get text_cmp old t ≡ Some y → get text_cmp new t ≡ Some y
  pub has : (p : PermissionView) → P p → IsSome (get text_cmp new (permission_text p))
  pub only : (t : Text) (y : OriginView) → get text_cmp new t ≡ Some y
      → (get text_cmp old t ≡ Some y) ⊎ ((get text_cmp old t ≡ None) × (y ≡ x)
      × ((p : PermissionView) × P p × (t ≡ permission_text p)))

-- the permission stands for some request, and none of these rules covers it
pub record IsMissing (rules : List (Bor Rule)) (p : PermissionView) : Type 0 where
  pub asked : IsAskedFor p.target
  pub missing : ¬ Any (λ r. CoversWords p.verb p.target r.now) rules

-- a search also has its rules with their words in order
abbrev pub IsOrdered : Search → Type 0
IsOrdered s = s.ordered.now ≡ map (λ r. r.now) s.others.now

-- a search finds its principal's permissions with the property that the rules of `others` don't
-- cover
abbrev pub SearchFinds : Search → (PermissionView → Type 0) → FoundChanges → FoundChanges → Type 0
SearchFinds s P = Finds
    (λ p. (p.principal ≡ s.principal.now) × P p × IsMissing s.others.now p) s.origin.now

-- a verb on a resource, with one of the rule's names, or any
abbrev pub IsOnResource : Search → Rule → Text → Text → Text → PermissionView → Type 0
IsOnResource s r verb group resource p = (p.verb ≡ verb)
    × ((name : Option Text) × IsNameOf r.resource_names name
    × (p.target ≡ OnResource (option_copied s.namespace) group resource name))

-- a verb on one of the rule's URLs
abbrev pub IsOnUrl : Text → Text → PermissionView → Type 0
IsOnUrl verb w p = (p.verb ≡ verb) × (p.target ≡ OnUrl (one_star w))

-- a verb on what a rule permits
abbrev pub IsOnTarget : Search → Rule → Text → PermissionView → Type 0
IsOnTarget s r verb p = (p.verb ≡ verb) × Permits (option_copied s.namespace) r p.target

-- the permissions of the rule
abbrev pub IsOfRule : Search → Rule → PermissionView → Type 0
IsOfRule s r p = Contains r.verbs p.verb × Permits (option_copied s.namespace) r p.target

-- a grant of the binding at that place, which is in that namespace or in none, has the verb and
-- permits the target
abbrev pub IsByGrants : PolicyView → ℕ → Option Text → PermissionView → Type 0
IsByGrants policy place own p = (no : ℕ) × (g : GrantView) × (slice_get policy.grants no ≡ Some g)
    × IsOfBinding policy no place × Contains g.rule.rule.verbs p.verb
    × Permits own g.rule.rule p.target

-- the permission stands for some request, and `before` doesn't cover it
abbrev pub IsUncovered : PolicyView → PermissionView → Type 0
IsUncovered before p = IsAskedFor p.target × (¬ IsCovered before p)

-- a permission by a grant of the binding at that place that `before` doesn't cover
pub record IsGainedAt (before after : PolicyView) (at : ℕ) (p : PermissionView) : Type 0 where
  pub grant : (no : ℕ) × (g : GrantView) × (slice_get after.grants no ≡ Some g)
      × IsOfBinding after no at × HasPermission p g
  pub asked : IsAskedFor p.target
  pub missing : ¬ IsCovered before p

-- `new` has the entries of `old`, and the permissions of the first `count` bindings that `before`
-- doesn't cover and `old` doesn't have, each with the first of these bindings that has it
pub record FindsGained (kind : ChangeKind) (before after : PolicyView) (count : ℕ)
    (old new : FoundChanges) : Type 0 where
  pub kept : (t : Text) (y : OriginView) → get text_cmp old t ≡ Some y → get text_cmp new t ≡ Some y
  pub has : (at : ℕ) (p : PermissionView) → at < count → IsGainedAt before after at p
      → IsSome (get text_cmp new (permission_text p))
  pub only : (t : Text) (y : OriginView) → get text_cmp new t ≡ Some y
      → (get text_cmp old t ≡ Some y) ⊎ ((get text_cmp old t ≡ None) × (y.kind ≡ kind)
      × ((at : ℕ) × (p : PermissionView) × (at < count) × IsGainedAt before after at p
      × (slice_get after.held.bindings at ≡ Some y.binding) × (t ≡ permission_text p)
      × ((k : ℕ) (q : PermissionView) → k < at → IsGainedAt before after k q
      → ¬ (t ≡ permission_text q))))
