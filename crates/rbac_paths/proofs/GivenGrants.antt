-- The holdings of a principal, grant by grant.
use Rattle.std.proofs.Common.{◌≡◌, ◌<◌, ◌≤◌, ◌∙◌, ◌+◌, ◌++◌, ◌∷◌, ◌↔◌, [], ℕ, List, Option, Some, Contains, ap, ap₂, arith, inl, inr, slice_get, subst, sym}
use Rattle.std.proofs.lemmas.Bool.{cases_lt}
use Rattle.std.proofs.lemmas.List.Elements.{Contains-append_left, Contains-push, Contains-push_cases}
use Rattle.std.proofs.lemmas.Option.{get_or_from_slice_get, same_Some, slice_get-get_or, slice_get_within}
use Rattle.rbac_terms.specs.Text.{Text}
use Rattle.rbac_terms.specs.Principals.{Who}
use Rattle.rbac_terms.specs.declared.matching.Rule.{Rule}
use Rattle.rbac_model.specs.Policies.{BindingNames, GrantView, PolicyView}
use Rattle.rbac_subjects.specs.Bound.{IsNamedBy, IsNextRunOf}
use Rattle.rbac_paths.specs.Having.{AreHoldings, HoldingView}
use Rattle.rbac_paths.specs.Nodes.{Somebody}
use Rattle.rbac_paths.specs.Told.{AddsGiven, grant_holding}

-- ---- the grants of a run, one after the other

module _ (p : PolicyView) (start : ℕ) where
  pub none_given : (hs : List HoldingView) → AddsGiven p start start hs hs
  none_given hs h = (
    λ c. inl c,
    λ a. elim a [
      | inl c ↦ c
      | inr w ↦ absurd (omega (arith, w.2, w.3))
    ],
  )

  pub one_given : (number : ℕ) (g : GrantView) (old hs new : List HoldingView) → start ≤ number → slice_get p.grants number ≡ Some g → new ≡ hs ++ grant_holding g ∷ [] → AddsGiven p start number old hs → AddsGiven p start (number + 1) old new
  one_given number g old hs new from here is adds h = (
    λ c. elim (Contains-push_cases hs (grant_holding g) h (subst (λ (xs : List HoldingView). Contains xs h) is c)) [
      | inl before ↦ elim ((adds h).0 before) [
        | inl o ↦ inl o
        | inr w ↦ inr (w.0, w.1, w.2, omega (arith, w.3), w.4, w.5)
      ]
      | inr same ↦ inr (number, g, from, omega arith, here, same)
    ],
    λ a. subst (λ (xs : List HoldingView). Contains xs h) (sym is) (elim a [
      | inl o ↦ Contains-append_left hs (grant_holding g ∷ []) h ((adds h).1 (inl o))
      | inr w ↦ elim (cases_lt w.0 number) [
        | inl less ↦ Contains-append_left hs (grant_holding g ∷ []) h ((adds h).1 (inr (w.0, w.1, w.2, less, w.4, w.5)))
        | inr high ↦ (let at : w.0 ≡ number = omega (arith, w.3, high) in
            let one : w.1 ≡ g = same_Some w.1 g (sym (subst (λ (i : ℕ). slice_get p.grants i ≡ Some w.1) at w.4) ∙ here) in
            subst (λ (x : HoldingView). Contains (hs ++ grant_holding g ∷ []) x) (ap grant_holding (sym one) ∙ w.5) (Contains-push hs (grant_holding g)))
      ]
    ]),
  )

-- ---- the runs of a principal's grants, one after the other

-- the holding is given by a grant with a number below `count` whose binding names the principal
abbrev pub IsGivenBefore : PolicyView → Who → ℕ → HoldingView → Type 0
IsGivenBefore p who count h = (number : ℕ) × (g : GrantView) × (number < count) × (slice_get p.grants number ≡ Some g) × BindingNames g.binding who × (grant_holding g ≡ h)

-- exactly these holdings
abbrev pub AreGivenBefore : PolicyView → Who → ℕ → List HoldingView → Type 0
AreGivenBefore p who count hs = (h : HoldingView) → Contains hs h ↔ IsGivenBefore p who count h

module _ (p : PolicyView) (who : Who) where
  pub none_before : (hs : List HoldingView) → hs ≡ [] → AreGivenBefore p who 0 hs
  none_before hs none h = (
    λ c. absurd (let w = subst (λ (xs : List HoldingView). Contains xs h) none c in omega (arith, w.1)),
    λ w. absurd (omega (arith, w.2)),
  )

  pub run_given : (from start end : ℕ) (hs new : List HoldingView) → IsNextRunOf p (IsNamedBy p who) from start end → AreGivenBefore p who from hs → AddsGiven p start end hs new → AreGivenBefore p who end new
  run_given from start end hs new run are adds h = (
    λ c. elim ((adds h).0 c) [
      | inl before ↦ (let w = (are h).0 before in (w.0, w.1, omega (arith, w.2, run.after, run.some), w.3, w.4, w.5))
      | inr w ↦ (let named = run.bound w.0 w.2 w.3 in
          let one : named.0 ≡ w.1 = same_Some named.0 w.1 (sym named.1 ∙ w.4) in
          (w.0, w.1, w.3, w.4, subst (λ (g : GrantView). BindingNames g.binding who) one named.2, w.5))
    ],
    λ w. (adds h).1 (elim (cases_lt w.0 from) [
      | inl less ↦ inl ((are h).1 (w.0, w.1, less, w.3, w.4, w.5))
      | inr high ↦ elim (cases_lt w.0 start) [
        | inl low ↦ absurd (run.none_before w.0 high low (w.1, w.3, w.4))
        | inr in_run ↦ inr (w.0, w.1, in_run, w.2, w.3, w.5)
      ]
    ]),
  )

  -- if no later grant is the principal's, these are all its holdings
  pub all_given : (count : ℕ) (hs : List HoldingView) → ((number : ℕ) → count ≤ number → ¬ IsNamedBy p who number) → AreGivenBefore p who count hs → AreHoldings p (Somebody who) hs
  all_given count hs none are h = (
    λ c.
        let w = (are h).0 c in
        (w.0, w.1, slice_get_within p.grants w.0 w.1 w.3, get_or_from_slice_get p.grants w.0 w.1 w.1 w.3, (w.4, ap (λ (x : HoldingView). x.home) w.5, ap (λ (x : HoldingView). x.rule) w.5)),
    λ a.
        let g = a.1 in
        let here : slice_get p.grants a.0 ≡ Some g = slice_get-get_or p.grants a.0 g a.2 ∙ ap (λ (v : GrantView). Some v) a.3 in
        let is : grant_holding g ≡ h = ap₂ (λ (o : Option Text) (rule : Rule). record { home = o; rule = rule }) a.4.1 a.4.2 in
        (are h).1 (elim (cases_lt a.0 count) [
          | inl less ↦ (a.0, g, less, here, a.4.0, is)
          | inr high ↦ absurd (none a.0 high (g, here, a.4.0))
        ]),
  )
