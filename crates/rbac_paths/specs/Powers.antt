-- Powers: the steps that each user and group can take.
use Rattle.std.specs.Prelude.{◌≡◌, ℕ, ◌↔◌, List, [], ◌∷◌, ◌++◌, Option, Any, AllPairs, Contains}
use Rattle.std.specs.declared.cmp.Ordering.TheVariants.{Less}
use Rattle.rbac_terms.specs.Text.{Text, text_cmp}
use Rattle.rbac_terms.specs.Granting.{IsSubjectKey}
use Rattle.rbac_terms.specs.declared.granting.Subject.{Subject}
use Rattle.rbac_terms.specs.declared.matching.Rule.{Rule}
use Rattle.rbac_model.specs.Lists.{IsFirstAt}
use Rattle.rbac_model.specs.Policies.{GrantView, PolicyView}
use Rattle.rbac_model.specs.Holders.{HasKey}
use Rattle.rbac_text.specs.Choice.{choice_and_tab}
use Rattle.rbac_text.specs.Row.{field_and_tab}
use Rattle.rbac_paths.specs.Steps.{AllowsIn, table}
use Rattle.rbac_steps.specs.Steps.{steps}
use Rattle.rbac_steps.specs.declared.steps.Step.{Step}

-- a step that whoever has the key can take, by a grant and a subject of the grant's binding; in the
-- namespace of this binding, or in the whole cluster if the binding has none
pub record PowerView : Type 0 where
  pub step : Step
  pub who : Text
  pub grant : GrantView
  pub subject_place : ℕ

-- the rule, granted in that namespace, or in the whole cluster if there is none, allows a request
-- of the step
abbrev pub AllowsStep : Step → Option Text → Rule → Type 0
AllowsStep step namespace rule =
    Any (λ row. (row.step ≡ step) × AllowsIn namespace rule row) table

-- the grant gives the step to the subjects of its binding
abbrev pub GivesStep : Step → GrantView → Type 0
GivesStep step g = AllowsStep step g.binding.namespace g.rule.rule

-- the grant gives the step to whoever has the key, in that namespace, or in the whole cluster if
-- there is none
abbrev pub GivesThere : Step → Text → Option Text → GrantView → Type 0
GivesThere step key namespace g = (g.binding.namespace ≡ namespace) × HasKey g.binding key
    × GivesStep step g

-- x has the first grant that gives the step to whoever has the key there, and the first subject of
-- the grant's binding with the key (own)
pub record IsPower (p : PolicyView) (x : PowerView) : Type 0 where
  pub grant : (no : ℕ)
      × IsFirstAt (GivesThere x.step x.who x.grant.binding.namespace) p.grants no x.grant
  pub subject : (s : Subject)
      × IsFirstAt
      (λ s. IsSubjectKey s x.grant.binding.namespace x.who) x.grant.binding.subjects
      x.subject_place s

-- who and where, as printed, each with a tab after it (own)
abbrev pub who_and_where : Text → Option Text → Text
who_and_where who namespace = field_and_tab who ++ choice_and_tab namespace

-- who and where of a power, as printed, each with a tab after it
abbrev pub power_place : PowerView → Text
power_place x = who_and_where x.who x.grant.binding.namespace

-- all powers of a step, in order of who and where, byte by byte as printed (own)
pub record ArePowersOf (p : PolicyView) (step : Step) (xs : List PowerView) : Type 0 where
  pub ordered : AllPairs (λ x y. text_cmp (power_place x) (power_place y) ≡ Less) xs
  pub exact : (x : PowerView) → Contains xs x ↔ ((x.step ≡ step) × IsPower p x)

-- the powers of these steps, one step after the other
abbrev pub ArePowersIn : PolicyView → List Step → List PowerView → Type 0
ArePowersIn p [] xs = xs ≡ []
ArePowersIn p (step ∷ steps) xs = (own : List PowerView) × (rest : List PowerView)
    × ArePowersOf p step own × ArePowersIn p steps rest × (xs ≡ own ++ rest)

-- all powers, in order of the table of steps, and then of who and where, byte by byte as printed
-- (own)
abbrev pub ArePowers : PolicyView → List PowerView → Type 0
ArePowers p xs = ArePowersIn p steps xs
