-- Who may use a verb on a target: the holders of a permission.
use Rattle.std.specs.Prelude.{◌≡◌, ℕ, ◌+◌, ◌<◌, ◌⊎◌, ◌↔◌, List, Some, Any, Contains, AllPairs}
use Rattle.std.specs.Prelude.{slice_get}
use Rattle.rbac_terms.specs.Text.{Text}
use Rattle.rbac_terms.specs.Targets.{What}
use Rattle.rbac_terms.specs.Principals.{Who, AsMember, who_key, IsInGroup}
use Rattle.rbac_terms.specs.Granting.{IsSubjectKey}
use Rattle.rbac_terms.specs.declared.granting.Binding.{Binding}
use Rattle.rbac_terms.specs.declared.granting.Subject.{Subject}
use Rattle.rbac_model.specs.Policies.{Held, Live, Brings}

-- the key holds the permission by that subject of that binding: the subject has the key, the
-- binding is live, and the binding brings a rule that allows the verb on the target
abbrev pub HoldsBy : Held → Text → Text → What → Binding → Subject → Text → Type 0
HoldsBy h namespace verb t b s key = Live b.namespace namespace t × Brings h b verb t
    × IsSubjectKey s b.namespace key

-- a holder: a key, with the least pair of places (of a binding, and of a subject in it) by which it
-- holds the permission
pub record HolderView : Type 0 where
  pub key : Text
  pub binding : Binding
  pub binding_place : ℕ
  pub subject_place : ℕ

-- the key holds the permission by the subject at place j of the binding at place i
abbrev pub IsHolderAt : Held → Text → Text → What → Text → ℕ → ℕ → Type 0
IsHolderAt h namespace verb t key i j =
    (b : Binding) × (s : Subject) × (slice_get h.bindings i ≡ Some b)
    × (slice_get b.subjects j ≡ Some s) × HoldsBy h namespace verb t b s key

-- the pair of places i and j comes before the pair k and l
abbrev pub IsBefore : ℕ → ℕ → ℕ → ℕ → Type 0
IsBefore i j k l = (i < k) ⊎ ((i ≡ k) × (j < l))

-- x is a holder: its key holds the permission by its pair of places, and by no pair before it (own)
abbrev pub IsHolder : Held → Text → Text → What → HolderView → Type 0
IsHolder h namespace verb t x =
    (slice_get h.bindings x.binding_place ≡ Some x.binding)
    × IsHolderAt h namespace verb t x.key x.binding_place x.subject_place
    × ((i j : ℕ) → IsHolderAt h namespace verb t x.key i j
    → IsBefore x.binding_place x.subject_place i (j + 1))

-- who can: each holder once, in order of their pairs of places (own)
pub record AreHolders (h : Held) (namespace verb : Text) (t : What)
    (xs : List HolderView) : Type 0 where
  pub ordered : AllPairs
      (λ x y. IsBefore x.binding_place x.subject_place y.binding_place y.subject_place) xs
  pub exact : (x : HolderView) → Contains xs x ↔ IsHolder h namespace verb t x

-- some subject of the binding has the key
abbrev pub HasKey : Binding → Text → Type 0
HasKey b key = Any (λ s. IsSubjectKey s b.namespace key) b.subjects

-- the key of the principal, or of one of its groups
abbrev pub IsKeyFor : Who → Text → Type 0
IsKeyFor who key = (key ≡ who_key who)
    ⊎ ((group : Text) × IsInGroup who group × (key ≡ who_key (AsMember group)))
