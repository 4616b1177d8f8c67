-- Which grants decide what a node takes over, and that they do.
use Rattle.std.specs.Prelude.{IsSomeAnd}
use Rattle.std.proofs.Common.{◌≡◌, ◌<◌, ◌++◌, ◌∙◌, ◌↔◌, ℕ, List, [], ◌∷◌, MatchOption, None, Option, Some, Any, Contains, ap, arith, inl, inr, length, refl, slice_get, subst, sym}
use Rattle.std.proofs.lemmas.Bool.{cases_lt}
use Rattle.std.proofs.lemmas.List.Elements.{Contains-append_left, Contains-push, Contains-push_cases}
use Rattle.std.proofs.lemmas.Option.{same_Some, slice_get_within}
use Rattle.rbac_terms.specs.Matching.{VerbOk}
use Rattle.rbac_terms.specs.Principals.{Who}
use Rattle.rbac_terms.specs.declared.matching.Rule.{Rule}
use Rattle.rbac_model.proofs.OwnWords.{any_from}
use Rattle.rbac_model.specs.Policies.{BindingNames, GrantView, IsPolicy, PolicyView}
use Rattle.rbac_model.specs.Lists.{IsFirstAt}
use Rattle.rbac_paths.specs.Aims.{GrantServes, Serves, ToTakeOver}
use Rattle.rbac_paths.specs.Deciding.{AreNumbersOf, AreTakingNumbers, GiveHoldings, IsAnyNode, IsLeastTaking, IsTakingAt, MatchesStep, SomeRowMatches, TakesBy}
use Rattle.rbac_paths.specs.Having.{AreHoldings, HoldingView}
use Rattle.rbac_paths.specs.Joints.{DecideOn, IsAboutNode, MatchesOverOthers, MayTakeBy}
use Rattle.rbac_paths.specs.Nodes.{NodeView, Somebody, ClusterRoleIn, OwnRole, EverythingIn}
use Rattle.rbac_paths.specs.Rows.{AreOfStep, HasRowResource, MatchesRow}
use Rattle.rbac_paths.specs.Steps.{StepRowView, table}
use Rattle.rbac_paths.specs.Taking.{CanTakeOver, RowTakes, RuleTakes}
use Rattle.rbac_paths.specs.Told.{HoldingTakes, HoldingsTake, grant_holding}
use Rattle.rbac_steps.specs.declared.steps.Step.{Step}
use Rattle.rbac_paths.proofs.AllowedBy.{by_holdings, in_holdings}
use Rattle.rbac_paths.proofs.Grants.{GrantTakes, by_grant, some_takes}

-- ---- which rules match

-- what rows of a step say of a rule is what the table says
pub may_take_rows : (step : Step) (rows : List StepRowView) → AreOfStep step table rows → (rule : Rule) → Any (MatchesOverOthers rule) rows ↔ MayTakeBy rule step
unfolding MayTakeBy
may_take_rows step rows of rule = (
  λ a. (let there = (of a.1).0 (a.0, a.2, a.3) in any_from (λ row. (row.step ≡ step) × MatchesOverOthers rule row) table a.1 there.0 (there.1, a.4)),
  λ a. any_from (MatchesOverOthers rule) rows a.1 ((of a.1).1 ((a.0, a.2, a.3), a.4.0)) a.4.1,
)

-- a rule that takes over a node by a row matches the row
row_matches : (row : StepRowView) (h : HoldingView) (y : NodeView) → RowTakes row h.home h.rule y → MatchesRow row h.rule
row_matches row h y w = (
  any_from (VerbOk h.rule) row.verbs w.verb w.of_verbs w.allows.0,
  w.allows.1.0,
  any_from (HasRowResource h.rule) row.resources w.text w.of_resources w.allows.1.1,
)

pub step_matches : (steps : List Step) (step : Step) → Contains steps step → (h : HoldingView) (y : NodeView) → HoldingTakes step h y → SomeRowMatches steps h.rule
unfolding HoldingTakes SomeRowMatches MatchesStep
step_matches steps step among h y a =
    any_from (MatchesStep h.rule) steps step among
    (any_from (λ row. (row.step ≡ step) × MatchesRow row h.rule) table a.1 (a.0, a.2, a.3) (a.4.0, row_matches a.1 h y a.4.1))

-- ---- the grants whose rules match

module _ (p : PolicyView) (steps : List Step) where
  -- the rule of a grant whose rule matches
  pub taking_rule : (number : ℕ) (g : GrantView) → slice_get p.grants number ≡ Some g → IsTakingAt p steps number → SomeRowMatches steps g.rule.rule
  taking_rule number g here is = subst (λ (x : GrantView). SomeRowMatches steps x.rule.rule) (same_Some is.0 g (sym is.1 ∙ here)) is.2

  -- ---- what these grants give

  pub numbers_within : (y : NodeView) (numbers : List ℕ) → AreNumbersOf p steps y numbers → (n : ℕ) → Contains numbers n → n < length p.grants
  numbers_within (Somebody who) numbers are n c = let w = (are n).0 c in slice_get_within p.grants n w.1.0 w.1.1
  numbers_within (ClusterRoleIn role scope) numbers are n c = absurd (let low = (subst (λ (ks : List ℕ). Contains ks n) are c).1 in omega (arith, low))
  numbers_within (OwnRole role) numbers are n c = absurd (let low = (subst (λ (ks : List ℕ). Contains ks n) are c).1 in omega (arith, low))
  numbers_within (EverythingIn scope) numbers are n c = absurd (let low = (subst (λ (ks : List ℕ). Contains ks n) are c).1 in omega (arith, low))

pub given_more : (p : PolicyView) (numbers : List ℕ) (number : ℕ) (g : GrantView) → slice_get p.grants number ≡ Some g → (hs : List HoldingView) → GiveHoldings p numbers hs → GiveHoldings p (numbers ++ number ∷ []) (hs ++ grant_holding g ∷ [])
given_more p numbers number g here hs give h = (
  λ c. elim (Contains-push_cases hs (grant_holding g) h c) [
    | inl old ↦ (let w = (give h).0 old in (w.0, Contains-append_left numbers (number ∷ []) w.0 w.1, w.2))
    | inr same ↦ (number, Contains-push numbers number, (g, here, same))
  ],
  λ w. elim (Contains-push_cases numbers number w.0 w.1) [
    | inl old ↦ Contains-append_left hs (grant_holding g ∷ []) h ((give h).1 (w.0, old, w.2))
    | inr same ↦ (
        let at : slice_get p.grants number ≡ Some w.2.0 = subst (λ (k : ℕ). slice_get p.grants k ≡ Some w.2.0) (sym same) w.2.1 in
        let one : w.2.0 ≡ g = same_Some w.2.0 g (sym at ∙ here) in
        subst (λ (x : HoldingView). Contains (hs ++ grant_holding g ∷ []) x) (ap grant_holding (sym one) ∙ w.2.2) (Contains-push hs (grant_holding g))
        )
  ],
)

-- the grants of a principal whose rules match decide what it takes over
pub given_decide : (p : PolicyView) → IsPolicy p → (who : Who) (steps : List Step) (numbers : List ℕ) → AreTakingNumbers p steps who numbers → (hs : List HoldingView) → GiveHoldings p numbers hs → DecideOn p steps (Somebody who) hs IsAnyNode
unfolding HoldingsTake HoldingTakes
given_decide p ok who steps numbers are hs give step y among any = (
  λ a.
      (let w = (give a.1).0 (a.0, a.2, a.3) in
      let named = ((are w.0).0 w.1).0 in
      let g = w.2.0 in
      let names = subst (λ (x : GrantView). BindingNames x.binding who) (same_Some named.0 g (sym named.1 ∙ w.2.1)) named.2 in
      by_grant p ok who step y w.0 g w.2.1 (names, subst (λ (h : HoldingView). RuleTakes step h.home h.rule y) (sym w.2.2) a.4)),
  λ c.
      (let w = some_takes p ok who step y c in
      let g = w.1 in
      let is : IsTakingAt p steps w.0 = (g, w.2, step_matches steps step among (grant_holding g) y w.3.1) in
      any_from (λ h. RuleTakes step h.home h.rule y) hs (grant_holding g) ((give (grant_holding g)).1 (w.0, (are w.0).1 ((g, w.2, w.3.0), is), (g, w.2, refl))) w.3.1),
)

-- all holdings of a node decide what it takes over
pub held_decide : (p : PolicyView) → IsPolicy p → (x : NodeView) (hs : List HoldingView) → AreHoldings p x hs → (steps : List Step) → DecideOn p steps x hs IsAnyNode
held_decide p ok x hs are steps step y among any = (by_holdings p ok x hs are step y, in_holdings p ok x hs are step y)

pub given_for : (p : PolicyView) → IsPolicy p → (steps : List Step) (y : NodeView) (numbers : List ℕ) (hs : List HoldingView) (who : Who) → y ≡ Somebody who → AreNumbersOf p steps y numbers → GiveHoldings p numbers hs → DecideOn p steps y hs IsAnyNode
given_for p ok steps y numbers hs who is are give =
    subst (λ (z : NodeView). DecideOn p steps z hs IsAnyNode) (sym is) (given_decide p ok who steps numbers (subst (λ (z : NodeView). AreNumbersOf p steps z numbers) is are) hs give)

-- holdings that decide about all nodes also decide about one of them
pub decide_about : (p : PolicyView) (steps : List Step) (x : NodeView) (hs : List HoldingView) → DecideOn p steps x hs IsAnyNode → (y : NodeView) → DecideOn p steps x hs (IsAboutNode y)
decide_about p steps x hs decide y step z among about = decide step z among tt

-- ---- the first of somebody's grants that takes over a node

module _ (p : PolicyView) (step : Step) (y : NodeView) where
  module _ (numbers : List ℕ) (number : ℕ) where
    -- a number that isn't less than the least so far is skipped
    pub least_stays : (o : Option ℕ) → (MatchOption o (Unit {0}) (λ n. number < n) → ⊥) → IsLeastTaking p step y numbers o → IsLeastTaking p step y (numbers ++ number ∷ []) o
    least_stays None more least = absurd (more tt)
    least_stays (Some found) more least = (
      Contains-append_left numbers (number ∷ []) found least.0,
      least.1,
      λ n c takes. elim (Contains-push_cases numbers number n c) [
        | inl old ↦ least.2 n old takes
        | inr same ↦ elim (cases_lt n found) [
          | inl less ↦ absurd (more (omega (arith, same, less)))
          | inr high ↦ high
        ]
      ],
    )

    -- the number of a grant that doesn't take over the node is skipped
    pub least_skips : (o : Option ℕ) → (TakesBy p step y number → ⊥) → IsLeastTaking p step y numbers o → IsLeastTaking p step y (numbers ++ number ∷ []) o
    least_skips None isnt least = λ n c takes. elim (Contains-push_cases numbers number n c) [
      | inl old ↦ least n old takes
      | inr same ↦ isnt (subst (TakesBy p step y) (sym same) takes)
    ]
    least_skips (Some found) isnt least = (
      Contains-append_left numbers (number ∷ []) found least.0,
      least.1,
      λ n c takes. elim (Contains-push_cases numbers number n c) [
        | inl old ↦ least.2 n old takes
        | inr same ↦ absurd (isnt (subst (TakesBy p step y) (sym same) takes))
      ],
    )

    -- a lesser number, of a grant that takes over the node, is the new least
    pub least_new : (o : Option ℕ) → MatchOption o (Unit {0}) (λ n. number < n) → TakesBy p step y number → IsLeastTaking p step y numbers o → IsLeastTaking p step y (numbers ++ number ∷ []) (Some number)
    least_new None less is least = (
      Contains-push numbers number,
      is,
      λ n c takes. elim (Contains-push_cases numbers number n c) [ inl old ↦ absurd (least n old takes) | inr same ↦ omega (arith, same) ],
    )
    least_new (Some found) less is least = (
      Contains-push numbers number,
      is,
      λ n c takes. elim (Contains-push_cases numbers number n c) [
        | inl old ↦ (let high = least.2 n old takes in omega (arith, less, high))
        | inr same ↦ omega (arith, same)
      ],
    )

module _ (p : PolicyView) (ok : IsPolicy p) (who : Who) (steps : List Step) (step : Step) (among : Contains steps step) (numbers : List ℕ) (are : AreTakingNumbers p steps who numbers) (y : NodeView) where
  -- a grant by which the principal takes over the node is among these
  listed_takes : (n : ℕ) (g : GrantView) → slice_get p.grants n ≡ Some g → GrantTakes who step y g → Contains numbers n × TakesBy p step y n
  unfolding HoldingTakes
  listed_takes n g here takes = ((are n).1 ((g, here, takes.0), (g, here, step_matches steps step among (grant_holding g) y takes.1)), (g, here, takes.1))

  pub none_taking : ((n : ℕ) → Contains numbers n → ¬ TakesBy p step y n) → ¬ CanTakeOver p (Somebody who) step y
  none_taking none c =
      let w = some_takes p ok who step y c in
      let l = listed_takes w.0 w.1 w.2 w.3 in
      none w.0 l.0 l.1

  pub least_first : (least : ℕ) → IsLeastTaking p step y numbers (Some least) → (g : GrantView) × IsFirstAt (GrantServes (ToTakeOver step y) who) p.grants least g
  unfolding HoldingTakes Serves
  least_first least is =
      let g = is.1.0 in
      let here = is.1.1 in
      let named = ((are least).0 is.0).0 in
      let names = subst (λ (x : GrantView). BindingNames x.binding who) (same_Some named.0 g (sym named.1 ∙ here)) named.2 in (
        g,
        record {
          here = here;
          holds = (names, is.1.2);
          none_before = λ k h low there takes. (let l = listed_takes k h there takes in let high = is.2 k l.0 l.1 in omega (arith, low, high));
        },
      )

pub match_some : {X : Type 0} (o : Option X) (N : Type 0) (P : X → Type 0) → IsSomeAnd o P → MatchOption o N P
match_some None N P is = absurd is
match_some (Some x) N P is = is

pub holding_taken : (p : PolicyView) (step : Step) (y : NodeView) (number : ℕ) (g : GrantView) → slice_get p.grants number ≡ Some g → TakesBy p step y number → HoldingTakes step (grant_holding g) y
holding_taken p step y number g here takes = subst (λ (x : GrantView). HoldingTakes step (grant_holding x) y) (same_Some takes.0 g (sym takes.1 ∙ here)) takes.2
