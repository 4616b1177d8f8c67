-- Why a key holds a permission.
use Rattle.std.specs.Prelude.{◌≡◌, ℕ, Some, slice_get}
use Rattle.rbac_terms.specs.Text.{Text}
use Rattle.rbac_terms.specs.Targets.{What}
use Rattle.rbac_terms.specs.Granting.{IsSubjectKey}
use Rattle.rbac_terms.specs.Matching.{RuleAllows}
use Rattle.rbac_terms.specs.declared.granting.Subject.{Subject}
use Rattle.rbac_model.specs.Lists.{IsFirstAt}
use Rattle.rbac_model.specs.Policies.{PolicyView, GrantView, Live}
use Rattle.rbac_model.specs.Holders.{HolderView, HasKey}
use Rattle.rbac_index.specs.Deciding.{IsFirstAllowing, ShowsGrant}
use Rattle.rbac_index.specs.Requested.{RequestedView}
use Rattle.rbac_model.specs.declared.why.Why.{Why}

-- a grant allows a request to a key: its binding is live and some subject of it has the key, and
-- its rule allows the verb on the target
abbrev pub AllowsKey : Text → Text → Text → What → GrantView → Type 0
AllowsKey key namespace verb t g = Live g.binding.namespace namespace t × HasKey g.binding key
    × RuleAllows g.rule.rule verb t

-- why a key holds a permission: the first grant that allows the request to the key, and the first
-- subject of the grant's binding that has the key (own)
pub record IsWhyHeld (p : PolicyView) (key namespace verb : Text) (t : What) (g : GrantView)
    (subject_place : ℕ) : Type 0 where
  pub grant : (no : ℕ) × IsFirstAt (AllowsKey key namespace verb t) p.grants no g
  pub subject : (s : Subject)
      × IsFirstAt (λ s. IsSubjectKey s g.binding.namespace key) g.binding.subjects subject_place s

-- the answer shows why a key holds a permission
abbrev pub IsHeldShown : PolicyView → Text → Text → Text → What → Why → Type 0
IsHeldShown p key namespace verb t why = (g : GrantView)
    × IsWhyHeld p key namespace verb t g why.subject_place × ShowsGrant why g

-- why a holder's key holds the permission by the holder's binding: the first grant of that binding
-- whose rule allows the verb on what is requested (own)
abbrev pub IsWhyBy : PolicyView → Text → RequestedView → HolderView → GrantView → Type 0
IsWhyBy p verb t x g = (no : ℕ) × IsFirstAllowing p verb t x.binding_place no
    × (slice_get p.grants no ≡ Some g)

-- the answer shows why a holder's key holds the permission by the holder's binding, and the
-- holder's subject
abbrev pub IsShownBy : PolicyView → Text → RequestedView → HolderView → Why → Type 0
IsShownBy p verb t x why = (g : GrantView) × IsWhyBy p verb t x g × ShowsGrant why g
    × (why.subject_place ≡ x.subject_place)

-- the answer shows the first grant of the binding at that place that allows the verb on what is
-- requested, and that subject
pub record IsFirstShown (p : PolicyView) (verb : Text) (t : RequestedView) (at subject_place : ℕ)
    (why : Why) : Type 0 where
  pub number : ℕ
  pub grant : GrantView
  pub granted : slice_get p.grants number ≡ Some grant
  pub first : IsFirstAllowing p verb t at number
  pub shown : ShowsGrant why grant
  pub subject : why.subject_place ≡ subject_place
