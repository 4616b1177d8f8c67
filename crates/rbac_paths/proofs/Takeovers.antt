-- The takeovers of a rule decide which words it takes, and whether it takes over roles or
-- everything.
use Rattle.std.proofs.Common.{◌≡◌, ◌↔◌, ◌∷◌, List, Option, Any, Contains, [], ap, arith, length, refl, subst, sym}
use Rattle.rbac_terms.specs.Text.{Text}
use Rattle.rbac_terms.specs.declared.matching.Rule.{Rule}
use Rattle.rbac_model.proofs.OwnWords.{any_from}
use Rattle.rbac_paths.specs.Deciding.{MatchesStep, SomeRowMatches}
use Rattle.rbac_paths.specs.Having.{HoldingView}
use Rattle.rbac_paths.specs.Joints.{IsOverNobody, MatchesOverOthers, MayTakeBy, SomeMayTake}
use Rattle.rbac_paths.specs.Rows.{AreOfStep, MatchesRow}
use Rattle.rbac_paths.specs.SharedWords.{LetsWord, StepTakesWord, TakesWord}
use Rattle.rbac_paths.specs.Steps.{StepRowView, table}
use Rattle.rbac_paths.specs.Takeovers.{AreTakeovers, HasTakeover, takeover_of}
use Rattle.rbac_steps.specs.declared.steps.Step.{Step}
use Rattle.rbac_paths.specs.declared.takeover.Takeover.{Takeover}

-- a rule has a takeover by the rows of a step exactly if it has it by the table
pub by_rows : (step : Step) (rows : List StepRowView) → AreOfStep step table rows → (rule : Rule) (t : Takeover)
    → Any (λ row. (takeover_of row ≡ t) × MatchesRow row rule) rows ↔ HasTakeover rule t step
unfolding HasTakeover
by_rows step rows of rule t = (
  λ a. (let there = (of a.1).0 (a.0, a.2, a.3) in any_from (λ row. (row.step ≡ step) × ((takeover_of row ≡ t) × MatchesRow row rule)) table a.1 there.0 (there.1, a.4)),
  λ a. any_from (λ row. (takeover_of row ≡ t) × MatchesRow row rule) rows a.1 ((of a.1).1 ((a.0, a.2, a.3), a.4.0)) a.4.1,
)

module _ (steps : List Step) (rule : Rule) (ts : List Takeover) (are : AreTakeovers steps rule ts) where
  -- the rule matches a row exactly if it has a takeover
  pub some_matches : (t : Takeover) → Contains ts t → SomeRowMatches steps rule
  unfolding SomeRowMatches MatchesStep HasTakeover
  some_matches t c =
      let a = (are t).0 c in
      let row = a.4.1 in
      any_from (MatchesStep rule) steps a.1 (a.0, a.2, a.3)
      (any_from (λ r. (r.step ≡ a.1) × MatchesRow r rule) table row (a.4.0, a.4.2, a.4.3) (a.4.4.0, a.4.4.1.1))

  pub matches_some : SomeRowMatches steps rule → (t : Takeover) × Contains ts t
  unfolding SomeRowMatches MatchesStep HasTakeover
  matches_some m =
      let row = m.4.1 in
      let t = takeover_of row in (
        t,
        (are t).1 (any_from (HasTakeover rule t) steps m.1 (m.0, m.2, m.3)
            (any_from (λ r. (r.step ≡ m.1) × ((takeover_of r ≡ t) × MatchesRow r rule)) table row (m.4.0, m.4.2, m.4.3) (m.4.4.0, (refl, m.4.4.1)))),
      )

  -- the words that the rule takes
  pub same_words : (home : Option Text) (w : Text) → Any (λ t. LetsWord t home rule w) ts ↔ Any (StepTakesWord home rule w) steps
  unfolding HasTakeover
  same_words home w = (
    λ a.
        (let b = (are a.1).0 (a.0, a.2, a.3) in
        let row = b.4.1 in
        any_from (StepTakesWord home rule w) steps b.1 (b.0, b.2, b.3)
        (any_from (λ r. (r.step ≡ b.1) × TakesWord r home rule w) table row (b.4.0, b.4.2, b.4.3)
        (b.4.4.0, (b.4.4.1.1, subst (λ (t : Takeover). LetsWord t home rule w) (sym b.4.4.1.0) a.4)))),
    λ m.
        (let row = m.4.1 in
        let t = takeover_of row in
        any_from (λ x. LetsWord x home rule w) ts t
        ((are t).1 (any_from (HasTakeover rule t) steps m.1 (m.0, m.2, m.3)
        (any_from (λ r. (r.step ≡ m.1) × ((takeover_of r ≡ t) × MatchesRow r rule)) table row (m.4.0, m.4.2, m.4.3) (m.4.4.0, (refl, m.4.4.1.0))))) m.4.4.1.1),
  )

  -- a rule without takeovers matches no row
  pub matches_none : ts ≡ [] → SomeRowMatches steps rule → ⊥
  matches_none none m = let low = (subst (λ (xs : List Takeover). Contains xs (matches_some m).0) none (matches_some m).1).1 in omega (arith, low)

  -- whether the rule takes over roles or everything
  pub same_over : Any (λ t. IsOverNobody t.over) ts ↔ Any (MayTakeBy rule) steps
  unfolding HasTakeover MayTakeBy
  same_over = (
    λ a.
        (let b = (are a.1).0 (a.0, a.2, a.3) in
        let row = b.4.1 in
        any_from (MayTakeBy rule) steps b.1 (b.0, b.2, b.3)
        (any_from (λ r. (r.step ≡ b.1) × MatchesOverOthers rule r) table row (b.4.0, b.4.2, b.4.3)
        (b.4.4.0, (subst IsOverNobody (ap (λ (t : Takeover). t.over) (sym b.4.4.1.0)) a.4, b.4.4.1.1)))),
    λ m.
        (let row = m.4.1 in
        let t = takeover_of row in
        any_from (λ x. IsOverNobody x.over) ts t
        ((are t).1 (any_from (HasTakeover rule t) steps m.1 (m.0, m.2, m.3)
        (any_from (λ r. (r.step ≡ m.1) × ((takeover_of r ≡ t) × MatchesRow r rule)) table row (m.4.0, m.4.2, m.4.3) (m.4.4.0, (refl, m.4.4.1.1))))) m.4.4.1.0),
  )

pub may_take : (steps : List Step) (h : HoldingView) (ts : List Takeover) → AreTakeovers steps h.rule ts → Any (λ t. IsOverNobody t.over) ts ↔ SomeMayTake steps h
unfolding SomeMayTake
may_take steps h ts are = same_over steps h.rule ts are

pub not_empty : {X : Type 0} (xs : List X) → (xs ≡ [] → ⊥) → (x : X) × Contains xs x
not_empty [] isnt = absurd (isnt refl)
not_empty (x ∷ xs) isnt = (x, (0, omega arith, refl))

pub none_of : {X : Type 0} (xs : List X) → length xs ≡ 0 → xs ≡ []
none_of [] e = refl
none_of (x ∷ xs) e = absurd (omega (arith, e))
