-- What holds while the near grants to groups are found, binding by binding.
use Rattle.std.specs.Prelude.{◌≡◌, ◌<◌, ◌⊎◌, ℕ, List, Contains, IsSome, Some, None, length, slice_get}
use Rattle.std.specs.BTreeMap.{BTreeMap, get}
use Rattle.rbac_terms.specs.Text.{Text, text_cmp}
use Rattle.rbac_terms.specs.declared.granting.Subject.{Subject}
use Rattle.rbac_terms.specs.declared.granting.Subject.TheVariants.{Group as ForGroup}
use Rattle.rbac_model.specs.Lists.{IsFirstAt}
use Rattle.rbac_model.specs.Policies.{GrantView, IsOfBinding, PolicyView}
use Rattle.rbac_near.specs.Near.{Lacks, LacksMember, RequestView}
use Rattle.rbac_near.specs.declared.near.Missing.TheVariants.{Member}
use Rattle.rbac_near.specs.declared.near.Near.{Near}

-- near grants, each under the name of its group
abbrev pub Found : Type 0
Found = BTreeMap Text Near

-- the grant g has number n, and is a grant of the binding at that place
abbrev pub IsGrantOf : PolicyView → ℕ → ℕ → GrantView → Type 0
IsGrantOf p place n g = (slice_get p.grants n ≡ Some g) × IsOfBinding p n place

-- no grant of the binding at that place lacks only a member
abbrev pub LackNoMember : PolicyView → RequestView → ℕ → Type 0
LackNoMember p q place = (n : ℕ) (g : GrantView) → IsGrantOf p place n g → ¬ Lacks q Member g

-- n is the number of the first grant that lacks only a member, among the grants of the binding at
-- that place
pub record IsFirstLacking (p : PolicyView) (q : RequestView) (place n : ℕ) : Type 0 where
  pub number : n < length p.grants
  pub of_binding : IsOfBinding p n place
  pub lacks : (g : GrantView) → slice_get p.grants n ≡ Some g → Lacks q Member g
  pub first : (k : ℕ) (g : GrantView) → k < n → IsGrantOf p place k g → ¬ Lacks q Member g

-- x is the near grant with number n, by the first of these subjects that is for the group
abbrev pub IsForGroup : ℕ → List Subject → Text → Near → Type 0
IsForGroup n subjects group x = (x.missing ≡ Member) × (x.number ≡ n)
    × IsFirstAt (λ s. s ≡ ForGroup group) subjects x.subject_place (ForGroup group)

-- new has what old has, and the near grant with number n for each group of these subjects, unless
-- old has one for the group
pub record AddsGroups (n : ℕ) (subjects : List Subject) (old new : Found) : Type 0 where
  pub kept : (t : Text) (y : Near) → get text_cmp old t ≡ Some y → get text_cmp new t ≡ Some y
  pub has : (group : Text) → Contains subjects (ForGroup group) → IsSome (get text_cmp new group)
  pub only : (t : Text) (y : Near) → get text_cmp new t ≡ Some y → (get text_cmp old t ≡ Some y)
      ⊎ ((get text_cmp old t ≡ None) × IsForGroup n subjects t y)

-- x is the first near grant to the group whose members alone are missing, by the first subject for
-- the group
abbrev pub IsMemberOf : PolicyView → RequestView → Text → Near → Type 0
IsMemberOf p q group x = (g : GrantView) × IsFirstAt (LacksMember q group) p.grants x.number g
    × IsForGroup x.number g.binding.subjects group x

-- the map has only such near grants, and has one for each group to which a grant of the first
-- `count` bindings lacks only a member
pub record FindsMembers (p : PolicyView) (q : RequestView) (count : ℕ) (found : Found) : Type 0 where
  pub has : (place n : ℕ) (g : GrantView) (group : Text) → place < count → IsGrantOf p place n g
      → LacksMember q group g → IsSome (get text_cmp found group)
  pub only : (t : Text) (y : Near) → get text_cmp found t ≡ Some y → IsMemberOf p q t y
