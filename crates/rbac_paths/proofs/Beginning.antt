-- Each path from a principal begins with a step that is one of its powers.
use Rattle.std.proofs.Common.{◌≡◌, ◌∙◌, ◌<◌, ℕ, zero, suc, List, [], ◌∷◌, Any, Contains, Option, Some, slice_get, ap, arith, refl, subst, sym}
use Rattle.std.proofs.lemmas.Option.{slice_get-get_or}
use Rattle.rbac_terms.specs.Text.{Text}
use Rattle.rbac_terms.specs.Granting.{IsSubjectKey}
use Rattle.rbac_terms.specs.Principals.{Who}
use Rattle.rbac_terms.specs.declared.granting.Subject.{Subject}
use Rattle.rbac_model.specs.Holders.{HasKey, IsKeyFor}
use Rattle.rbac_model.specs.Lists.{IsFirstAt}
use Rattle.rbac_model.specs.Policies.{GrantView, IsPolicy, PolicyView}
use Rattle.rbac_model.proofs.OwnWords.{any_from}
use Rattle.rbac_paths.specs.Nodes.{NodeView, Somebody}
use Rattle.rbac_paths.specs.Paths.{ArePathsOf, GoesTo, IsPath, LeadsTo, PathView}
use Rattle.rbac_paths.specs.Powers.{ArePowers, GivesStep, GivesThere, IsPower, PowerView}
use Rattle.rbac_steps.specs.Steps.{steps as all_steps}
use Rattle.rbac_paths.specs.Taking.{CanTakeOver}
use Rattle.rbac_paths.specs.Telling.{CanTake}
use Rattle.rbac_steps.specs.declared.steps.Step.{Step}
use Rattle.rbac_paths.proofs.AllSteps.{each_listed}
use Rattle.rbac_paths.proofs.Telling.{given, in_steps}

-- ---- if no element is the first with a property, no element has it

module _ {X : Type 0} (P : X → Type 0) (xs : List X) (no_first : (i : ℕ) (x : X) → ¬ IsFirstAt P xs i x) where
  none_below : (n i : ℕ) (x : X) → i < n → slice_get xs i ≡ Some x → ¬ P x
  none_below zero i x low here holds = absurd (omega (arith, low))
  none_below (suc n) i x low here holds =
      no_first i x (record { here = here; holds = holds; none_before = λ k y under. none_below n k y (omega (arith, under, low)) })

  none_has : (i : ℕ) (x : X) → slice_get xs i ≡ Some x → ¬ P x
  none_has i x = none_below (suc i) i x (omega arith)

-- ---- if a key has no power of a step, no grant gives it the step

module _ (p : PolicyView) (step : Step) (key : Text) (no_power : (x : PowerView) → IsPower p x → x.step ≡ step → ¬ (x.who ≡ key)) where
  no_first_grant : (home : Option Text) (n : ℕ) (g : GrantView) → ¬ IsFirstAt (GivesThere step key home) p.grants n g
  no_first_grant home n g is =
      let own = g.binding.namespace in
      let first : IsFirstAt (GivesThere step key own) p.grants n g = subst (λ (o : Option Text). IsFirstAt (GivesThere step key o) p.grants n g) (sym is.holds.0) is in
      let has : HasKey g.binding key = is.holds.1 in
      none_has (λ s. IsSubjectKey s own key) g.binding.subjects
      (λ i s by. no_power (record { step = step; who = key; grant = g; subject_place = i }) (record { grant = (n, first); subject = (s, by) }) refl refl)
      has.0 has.1 (slice_get-get_or g.binding.subjects has.0 has.1 has.2 ∙ ap (λ (s : Subject). Some s) has.3) has.4

  no_grant : (n : ℕ) (g : GrantView) → slice_get p.grants n ≡ Some g → GivesStep step g → ¬ HasKey g.binding key
  no_grant n g here gives has =
      let home = g.binding.namespace in none_has (GivesThere step key home) p.grants (no_first_grant home) n g here (refl, has, gives)

-- ---- if a principal takes over a node, a grant gives it the step

module _ (p : PolicyView) (all : List Who) (steps : List Step) (who : Who) where
  -- the steps that lead on from a principal begin with a step that it takes
  first_step : (n : ℕ) (y : NodeView) → LeadsTo (GoesTo p all steps) (λ y. y ≡ Somebody who) (suc n) y → (z : NodeView) × GoesTo p all steps (Somebody who) z
  first_step zero y (x, is, goes) = (y, subst (λ (z : NodeView). GoesTo p all steps z y) is goes)
  first_step (suc n) y (x, from, goes) = first_step n x from

  -- if a principal can take over a node by a step, it can take the step
  can_take : (step : Step) (y : NodeView) (c : CanTakeOver p (Somebody who) step y) → CanTake p who step c.namespace
  can_take step y c = record {
    row = c.row;
    verb = c.verb;
    text = c.text;
    name = c.name;
    of_table = c.of_table;
    of_step = c.of_step;
    of_verbs = c.of_verbs;
    of_resources = c.of_resources;
    named = (c.own, c.named);
    allowed = c.allowed;
  }

pub no_paths : (p : PolicyView) → IsPolicy p → (powers : List PowerView) → ArePowers p powers → (principals : List Who) (steps : List Step) (who : Who)
    → ¬ Any (λ x. IsKeyFor who x.who) powers → (paths : List PathView) → ArePathsOf p principals steps who paths → paths ≡ []
no_paths p ok powers these principals steps who none [] are = refl
no_paths p ok powers these principals steps who none (x ∷ xs) (all, exact, are) =
    let is : IsPath p all steps (Somebody who) x = are.each 0 x (omega arith) in
    let count : x.count ≡ suc is.others = (let more = is.count in omega (arith, more)) in
    let goes = first_step p all steps who is.others x.node (subst (λ (n : ℕ). LeadsTo (GoesTo p all steps) (λ y. y ≡ Somebody who) n x.node) count is.fewest.leads) in
    let takes = goes.1.1 in
    let step : Step = takes.0 in
    let c = takes.1.can in
    let by = given p ok who step c.namespace (can_take p all steps who step goes.0 c) in
    let no_power : (y : PowerView) → IsPower p y → y.step ≡ step → ¬ (y.who ≡ by.key) = λ y power of key. none (any_from (λ z. IsKeyFor who z.who) powers y
    (each_listed p all_steps powers these y (subst (Contains all_steps) (sym of) (in_steps step)) power) (subst (IsKeyFor who) (sym key) by.theirs)) in
    absurd (no_grant p step by.key no_power by.place by.grant by.here by.gives by.has)
