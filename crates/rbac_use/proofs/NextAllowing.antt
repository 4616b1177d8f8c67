-- The next binding that allows a request, by runs of grants of the bindings that may count.
use Rattle.std.proofs.Common.{◌≡◌, ◌↔◌, ◌∙◌, ◌<◌, ◌≤◌, ◌+◌, ℕ, Option, Some, None, ap, arith, inl, inr, subst, sym}
use Rattle.std.proofs.lemmas.Bool.{cases_eq, cases_lt}
use Rattle.std.proofs.lemmas.Option.{same_Some}
use Rattle.rbac_terms.specs.Text.{Text}
use Rattle.rbac_terms.specs.Targets.{What, Resource, Url}
use Rattle.rbac_terms.specs.declared.granting.Binding.{Binding}
use Rattle.rbac_model.specs.Policies.{BindingNames, GrantView, IsOfBinding, IsPolicy, Live, PolicyView}
use Rattle.rbac_model.specs.Universes.{LiveForSome}
use Rattle.rbac_model.proofs.BindingPlaces.{places_rise}
use Rattle.rbac_subjects.specs.Bound.{IsBoundTo, IsNextRun}
use Rattle.rbac_subjects.specs.Keyed.{IsNextOf}
use Rattle.rbac_diff.specs.Requests.{RequestView}
use Rattle.rbac_use.specs.Asked.{IsNamedAt}
use Rattle.rbac_use.specs.Used.{IsAllowedAt}

live_for_some : (own : Option Text) (namespace : Text) (t : What) → Live own namespace t → LiveForSome own namespace
live_for_some None namespace t h = tt
live_for_some (Some own) namespace (Resource group text name) h = h
live_for_some (Some own) namespace (Url path) h = absurd h

-- the bindings from one place up to another don't allow the request, and their grants are those up to a number
pub record AreDone (p : PolicyView) (r : RequestView) (place from : ℕ) : Type 0 where
  pub limit : ℕ
  pub after : place ≤ limit
  pub below : (n at : ℕ) → IsOfBinding p n at → (n < from) ↔ (at < limit)
  pub none : (at : ℕ) → place ≤ at → at < limit → ¬ IsAllowedAt p at r

module _ (p : PolicyView) (r : RequestView) (place : ℕ) where
  pub none_done : (from end : ℕ) → from ≤ end → ((n at : ℕ) → IsOfBinding p n at → ((from ≤ n) × (n < end)) ↔ (at ≡ place)) → ((n at : ℕ) → IsOfBinding p n at → (n < end) ↔ (at ≤ place)) → AreDone p r place from
  none_done from end le between upto = record {
    limit = place;
    after = omega arith;
    below = λ n at of. (
      λ low. elim (cases_eq at place) [
        | inl same ↦ absurd (let within = ((between n at of).1 same).0 in omega (arith, low, within))
        | inr other ↦ (let before = (upto n at of).0 (omega (arith, low, le)) in omega (arith, before, other))
      ],
      λ low. elim (cases_lt n from) [
        | inl under ↦ under
        | inr past ↦ absurd (let same = (between n at of).0 (past, (upto n at of).1 (omega (arith, low))) in omega (arith, same, low))
      ],
    );
    none = λ at high low. absurd (omega (arith, high, low));
  }

  module _ (from : ℕ) (done : AreDone p r place from) where
    -- the binding of the next run of grants that may count
    module _ (ok : IsPolicy p) (start end here : ℕ) (run : IsNextRun p r.who r.namespace from start end) (of : IsOfBinding p start here) where
      pub named_here : IsNamedAt p here r.who
      named_here b there =
          let bound = run.bound start (omega arith) run.some in
          let grant : bound.0 ≡ of.0 = same_Some bound.0 of.0 (sym bound.1 ∙ of.1) in
          let binding : bound.0.binding ≡ b = ap (λ (g : GrantView). g.binding) grant ∙ same_Some of.0.binding b (sym of.2 ∙ there) in
          subst (λ (v : Binding). BindingNames v r.who) binding bound.2

      comes_later : done.limit ≤ here
      comes_later = elim (cases_lt here done.limit) [
        | inl low ↦ absurd (let under = (done.below start here of).1 low in let after = run.after in omega (arith, under, after))
        | inr high ↦ high
      ]

      none_between : (at : ℕ) → done.limit ≤ at → at < here → IsAllowedAt p at r → ⊥
      none_between at high low (n, g, own, allows) =
          let there : IsOfBinding p n at = (g, own.grant, own.binding) in
          elim (cases_lt n from) [
            | inl under ↦ (let before = (done.below n at there).0 under in omega (arith, before, high))
            | inr past ↦ elim (cases_lt n start) [
              | inl between ↦ run.none_before n past between (g, own.grant, allows.0.1, live_for_some g.binding.namespace r.namespace r.target allows.0.0)
              | inr later ↦ (let rise = places_rise p ok start n here at later of there in omega (arith, rise, low))
            ]
          ]

      none_before : (at : ℕ) → place ≤ at → at < here → IsAllowedAt p at r → ⊥
      none_before at high low = elim (cases_lt at done.limit) [
        | inl under ↦ done.none at high under
        | inr past ↦ none_between at past low
      ]

      pub is_next : IsAllowedAt p here r → IsNextOf (λ at. IsAllowedAt p at r) place here
      is_next allowed = record {
        after = let after = done.after in let later = comes_later in omega (arith, after, later);
        holds = allowed;
        none_before = none_before;
      }

      pub more_done : (past : ℕ) → ((n at : ℕ) → IsOfBinding p n at → (n < past) ↔ (at ≤ here)) → (IsAllowedAt p here r → ⊥) → AreDone p r place past
      more_done past upto not = record {
        limit = here + 1;
        after = let after = done.after in let later = comes_later in omega (arith, after, later);
        below = λ n at own. (
          λ h. (let le = (upto n at own).0 h in omega (arith, le)),
          λ h. (upto n at own).1 (omega (arith, h)),
        );
        none = λ at high low. elim (cases_eq at here) [
          | inl same ↦ (λ allowed. not (subst (λ (k : ℕ). IsAllowedAt p k r) same allowed))
          | inr other ↦ none_before at high (omega (arith, low, other))
        ];
      }

      pub goes_on : (past : ℕ) → ((n at : ℕ) → IsOfBinding p n at → (n < past) ↔ (at ≤ here)) → from < past
      goes_on past upto = let low = (upto start here of).1 (omega arith) in let after = run.after in omega (arith, low, after)

    -- no run of grants is left
    pub none_left : ((n : ℕ) → from ≤ n → ¬ IsBoundTo p r.who r.namespace n) → (at : ℕ) → place ≤ at → IsAllowedAt p at r → ⊥
    none_left none at high (n, g, own, allows) = elim (cases_lt n from) [
      | inl under ↦ done.none at high ((done.below n at (g, own.grant, own.binding)).0 under) (n, g, own, allows)
      | inr past ↦ none n past (g, own.grant, allows.0.1, live_for_some g.binding.namespace r.namespace r.target allows.0.0)
    ]
