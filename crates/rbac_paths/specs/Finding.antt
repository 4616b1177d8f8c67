-- What holds while the powers of a step are found, binding by binding.
use Rattle.std.specs.Prelude.{◌≡◌, ℕ, ◌<◌, ◌⊎◌, List, Any, IsSome, Some, None, length, slice_get}
use Rattle.std.specs.BTreeMap.{BTreeMap, get}
use Rattle.rbac_terms.specs.Text.{Text, text_cmp}
use Rattle.rbac_terms.specs.Granting.{IsSubjectKey}
use Rattle.rbac_terms.specs.declared.granting.Subject.{Subject}
use Rattle.rbac_model.specs.Lists.{IsFirstAt}
use Rattle.rbac_model.specs.Policies.{GrantView, IsOfBinding, PolicyView}
use Rattle.rbac_model.specs.Holders.{HasKey}
use Rattle.rbac_paths.specs.Powers.{GivesStep, IsPower, PowerView, power_place}
use Rattle.rbac_paths.specs.Powers.{who_and_where}
use Rattle.rbac_steps.specs.declared.steps.Step.{Step}

-- powers, each under its who and where, as printed
abbrev pub Found : Type 0
Found = BTreeMap Text PowerView

-- the grant g has number n, and is a grant of the binding at that place
abbrev pub IsGrantOf : PolicyView → ℕ → ℕ → GrantView → Type 0
IsGrantOf p place n g = (slice_get p.grants n ≡ Some g) × IsOfBinding p n place

-- no grant of the binding at that place gives the step
abbrev pub GivesNone : PolicyView → Step → ℕ → Type 0
GivesNone p step place = (n : ℕ) (g : GrantView) → IsGrantOf p place n g → ¬ GivesStep step g

-- n is the number of the first grant that gives the step, among the grants of the binding at that
-- place
pub record IsFirstGiving (p : PolicyView) (step : Step) (place n : ℕ) : Type 0 where
  pub number : n < length p.grants
  pub of_binding : IsOfBinding p n place
  pub gives : (g : GrantView) → slice_get p.grants n ≡ Some g → GivesStep step g
  pub first : (k : ℕ) (g : GrantView) → k < n → IsGrantOf p place k g → ¬ GivesStep step g

-- x is a power that the grant g gives by the first subject of its binding with the key; t is its
-- who and where, as printed
pub record IsBySubject (step : Step) (g : GrantView) (t : Text) (x : PowerView) : Type 0 where
  pub step_is : x.step ≡ step
  pub grant_is : x.grant ≡ g
  pub text_is : t ≡ who_and_where x.who g.binding.namespace
  pub subject : (s : Subject)
      × IsFirstAt
      (λ s. IsSubjectKey s g.binding.namespace x.who) g.binding.subjects x.subject_place s

-- new has what old has, and a power by the grant g for each key of these subjects of its binding,
-- unless old has a power under the same text
pub record AddsPowers (step : Step) (g : GrantView) (subjects : List Subject)
    (old new : Found) : Type 0 where
  pub kept : (t : Text) (y : PowerView) → get text_cmp old t ≡ Some y → get text_cmp new t ≡ Some y
  pub has : (key : Text) → Any (λ s. IsSubjectKey s g.binding.namespace key) subjects
      → IsSome (get text_cmp new (who_and_where key g.binding.namespace))
  pub only : (t : Text) (y : PowerView) → get text_cmp new t ≡ Some y → (get text_cmp old t ≡ Some y)
      ⊎ ((get text_cmp old t ≡ None) × IsBySubject step g t y)

-- the map has only powers of the step, and has one for each who and where to which a grant of the
-- first `count` bindings gives the step
pub record FindsPowers (p : PolicyView) (step : Step) (count : ℕ) (found : Found) : Type 0 where
  pub has : (place n : ℕ) (g : GrantView) (key : Text) → place < count → IsGrantOf p place n g
      → GivesStep step g → HasKey g.binding key
      → IsSome (get text_cmp found (who_and_where key g.binding.namespace))
  pub only : (t : Text) (y : PowerView) → get text_cmp found t ≡ Some y
      → (t ≡ power_place y) × (y.step ≡ step) × IsPower p y

-- for each grant that gives the step, and each key of a subject of its binding, there is a power of
-- the step in the binding's namespace, or in the whole cluster if the binding has none
abbrev pub AreWithGrants : PolicyView → Step → List PowerView → Type 0
AreWithGrants p step xs = (n : ℕ) (g : GrantView) (key : Text) → slice_get p.grants n ≡ Some g
    → GivesStep step g → HasKey g.binding key
    → Any (λ x. (x.step ≡ step) × (x.who ≡ key)
    × (x.grant.binding.namespace ≡ g.binding.namespace)) xs
