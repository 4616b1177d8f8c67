-- the rules of the grants that are bound to the principal
use Rattle.std.proofs.Common.{◌≡◌, ℕ, ◌+◌, ◌-◌, ◌≤◌, ◌⊎◌, ◌↔◌, List, [], ◌∷◌, ◌++◌, length, slice_get, sym, ap, ◌∙◌, refl, subst, inl, inr, arith, zero, suc, Any, Bor}
use Rattle.std.specs.Prelude.{Some, None, Option}
use Rattle.std.specs.Option.{option_copied, unwrap_or}
use Rattle.std.proofs.lemmas.Bool.{cases_lt}
use Rattle.std.proofs.lemmas.List.{length_push, get_or_push}
use Rattle.std.proofs.lemmas.Option.{same_Some, slice_get_within, get_or_from_slice_get, slice_get-get_or}
use Rattle.rbac_terms.specs.Text.{Text}
use Rattle.rbac_terms.specs.Principals.{Who}
use Rattle.rbac_terms.specs.declared.matching.Rule.{Rule}
use Rattle.rbac_terms.proofs.Reading.{any_pushed, any_kept}
use Rattle.rbac_model.specs.Policies.{PolicyView, GrantView, BindingNames}
use Rattle.rbac_model.specs.Universes.{LiveForSome}
use Rattle.rbac_subjects.specs.Bound.{IsBoundTo, IsNextRun}
use Rattle.rbac_diff.specs.Covering.{stand_ins}
use Rattle.rbac_diff.specs.StandIns.{HasRule, IsBoundRule, AddsRules, AddsRulesIn, AreStandInRules, IsWider, one_or_two}

any_last : {X : Type 0} (P : X → Type 0) (xs : List X) (x : X) → P x → Any P (xs ++ x ∷ [])
any_last P xs x h = (length xs, x, omega (arith, length_push xs x), get_or_push xs x x (length xs) refl, h)

abbrev has : Rule → Bor Rule → Type 0
has r held = held.now ≡ r

-- one grant after the other
pub one_more_in : (p : PolicyView) (start next : ℕ) (g : GrantView) (x : Bor Rule) (old mid new : List (Bor Rule)) → start ≤ next → slice_get p.grants next ≡ Some g → g.rule.rule ≡ x.now → new ≡ mid ++ x ∷ [] → AddsRulesIn p start next old mid → AddsRulesIn p start (next + 1) old new
one_more_in p start next g x old mid new le at is e adds r = (
  λ h. elim (any_pushed (has r) mid x (subst (λ (l : List (Bor Rule)). Any (has r) l) e h)) [
    | inl earlier ↦ elim ((adds r).0 earlier) [ inl o ↦ inl o | inr w ↦ inr (w.0, w.1, w.2, omega (arith, w.3), w.4, w.5) ]
    | inr last ↦ inr (next, g, le, omega arith, at, is ∙ last)
  ],
  λ h. subst (λ (l : List (Bor Rule)). Any (has r) l) (sym e) (elim h [
    | inl o ↦ any_kept (has r) mid x ((adds r).1 (inl o))
    | inr w ↦ elim (cases_lt w.0 next) [
      | inl l ↦ any_kept (has r) mid x ((adds r).1 (inr (w.0, w.1, w.2, l, w.4, w.5)))
      | inr ge ↦
          let same : w.0 ≡ next = omega (arith, w.3, ge) in
          let grant : w.1 ≡ g = same_Some w.1 g (sym w.4 ∙ ap (slice_get p.grants) same ∙ at) in
          any_last (has r) mid x (sym is ∙ sym (ap (λ (v : GrantView). v.rule.rule) grant) ∙ w.5)
    ]
  ]),
)

-- one run after the other
pub run_within : (p : PolicyView) (who : Who) (namespace : Text) (from start end : ℕ) → IsNextRun p who namespace from start end → end ≤ length p.grants
run_within p who namespace from start end run =
    let some = run.some in
    let bound = run.bound (end - 1) (omega (arith, some)) (omega (arith, some)) in
    let within = slice_get_within p.grants (end - 1) bound.0 bound.1 in
    omega (arith, within, some)

pub run_more : (p : PolicyView) (who : Who) (namespace : Text) (from start end : ℕ) (old mid new : List (Bor Rule)) → IsNextRun p who namespace from start end → AddsRules p who namespace from old mid → AddsRulesIn p start end mid new → AddsRules p who namespace end old new
run_more p who namespace from start end old mid new run adds more r = (
  λ h. elim ((more r).0 h) [
    | inl m ↦ elim ((adds r).0 m) [ inl o ↦ inl o | inr w ↦ inr (w.0, w.1, omega (arith, w.2, run.after, run.some), w.3, w.4, w.5) ]
    | inr w ↦ inr (w.0, w.1, w.3, w.4, run.bound w.0 w.2 w.3, w.5)
  ],
  λ h. elim h [
    | inl o ↦ (more r).1 (inl ((adds r).1 (inl o)))
    | inr w ↦ elim (cases_lt w.0 from) [
      | inl l ↦ (more r).1 (inl ((adds r).1 (inr (w.0, w.1, l, w.3, w.4, w.5))))
      | inr ge ↦ elim (cases_lt w.0 start) [
        | inl l ↦ absurd (run.none_before w.0 ge l w.4)
        | inr later ↦ (more r).1 (inr (w.0, w.1, later, w.2, w.3, w.5))
      ]
    ]
  ],
)

pub runs_end : (p : PolicyView) (who : Who) (namespace : Text) (from : ℕ) (old new : List (Bor Rule)) → ((number : ℕ) → from ≤ number → IsBoundTo p who namespace number → ⊥) → AddsRules p who namespace from old new → AddsRules p who namespace (length p.grants) old new
runs_end p who namespace from old new none adds r = (
  λ h. elim ((adds r).0 h) [ inl o ↦ inl o | inr w ↦ inr (w.0, w.1, slice_get_within p.grants w.0 w.1 w.3, w.3, w.4, w.5) ],
  λ h. elim h [
    | inl o ↦ (adds r).1 (inl o)
    | inr w ↦ elim (cases_lt w.0 from) [
      | inl l ↦ (adds r).1 (inr (w.0, w.1, l, w.3, w.4, w.5))
      | inr ge ↦ absurd (none w.0 ge w.4)
    ]
  ],
)

-- the namespace that is asked for: the empty one for bindings in none
abbrev pub IsAskedIn : Option Text → Text → Type 0
IsAskedIn None asked = asked ≡ []
IsAskedIn (Some namespace) asked = asked ≡ namespace

-- which is what the program asks for
pub asked_in : (namespace : Option (Bor Text)) (nowhere asked : Bor Text) → asked ≡ unwrap_or namespace nowhere → nowhere.now ≡ [] → IsAskedIn (option_copied namespace) asked.now
asked_in None nowhere asked e empty = ap (λ (b : Bor Text). b.now) e ∙ empty
asked_in (Some namespace) nowhere asked e empty = ap (λ (b : Bor Text). b.now) e

wider_live : (own namespace : Option Text) (asked : Text) → IsAskedIn namespace asked → (namespace ≡ Some [] → ⊥) → (IsWider own namespace ↔ LiveForSome own asked)
wider_live None namespace asked is some = (λ h. tt, λ h. inl refl)
wider_live (Some own) None asked is some = (λ h. absurd (elim h [ inl e ↦ cc | inr e ↦ cc ]), λ h. absurd (h.0 is))
wider_live (Some own) (Some namespace) asked is some = (
  λ h. elim h [
    | inl e ↦ absurd cc
    | inr e ↦ (λ empty. some (ap (λ (t : Text). Some t) (sym is ∙ empty)), same_Some own namespace e ∙ sym is)
  ],
  λ h. inr (ap (λ (t : Text). Some t) (h.1 ∙ is)),
)

-- a grant has the rule, and its binding is live there and names the principal
abbrev Gives : Option Text → Who → Rule → GrantView → Type 0
Gives namespace who r g = IsWider g.binding.namespace namespace × BindingNames g.binding who × (g.rule.rule ≡ r)

bound_gives : (p : PolicyView) (who : Who) (namespace : Option Text) (asked : Text) → IsAskedIn namespace asked → (namespace ≡ Some [] → ⊥) → (r : Rule) → (IsBoundRule p who asked (length p.grants) r ↔ Any (Gives namespace who r) p.grants)
bound_gives p who namespace asked is some r = (
  λ w.
      let b = w.4 in
      let g = b.0 in
      let grant : g ≡ w.1 = same_Some g w.1 (sym b.1 ∙ w.3) in
      (w.0, g, slice_get_within p.grants w.0 g b.1, get_or_from_slice_get p.grants w.0 g g b.1, ((wider_live g.binding.namespace namespace asked is some).1 b.3, b.2, ap (λ (v : GrantView). v.rule.rule) grant ∙ w.5)),
  λ a.
      let g = a.1 in
      let read : slice_get p.grants a.0 ≡ Some g = slice_get-get_or p.grants a.0 g a.2 ∙ ap (λ (v : GrantView). Some v) a.3 in
      (a.0, g, a.2, read, (g, read, a.4.1, (wider_live g.binding.namespace namespace asked is some).0 a.4.0), a.4.2),
)

any_one : {X : Type 0} (P : X → Type 0) (x : X) → Any P (x ∷ []) → P x
any_one P x (zero, y, l, at, h) = subst P (sym at) h
any_one P x (suc k, y, l, at, h) = absurd (omega (arith, l))

any_two : {X : Type 0} (P : X → Type 0) (x z : X) → Any P (x ∷ z ∷ []) → P x ⊎ P z
any_two P x z (zero, y, l, at, h) = inl (subst P (sym at) h)
any_two P x z (suc zero, y, l, at, h) = inr (subst P (sym at) h)
any_two P x z (suc (suc k), y, l, at, h) = absurd (omega (arith, l))

any_of : {X : Type 0} (P Q : X → Type 0) (xs : List X) → ((x : X) → P x → Q x) → Any P xs → Any Q xs
any_of P Q xs f h = (h.0, h.1, h.2, h.3, f h.1 h.4)

-- a grant has the rule, and its binding is live there and names one who stands in
abbrev GivesOne : Option Text → List Who → Rule → GrantView → Type 0
GivesOne namespace whos r g = IsWider g.binding.namespace namespace × Any (BindingNames g.binding) whos × (g.rule.rule ≡ r)

nothing : (r : Rule) → HasRule [] r → ⊥
nothing r h = omega (arith, h.2)

module _ (p : PolicyView) (namespace : Option Text) (asked : Text) (is : IsAskedIn namespace asked) (some : namespace ≡ Some [] → ⊥) where
  pub rules_of_one : (who first : Who) (rules : List (Bor Rule)) → one_or_two first None ≡ stand_ins who → AddsRules p first asked (length p.grants) [] rules → AreStandInRules p who namespace rules
  rules_of_one who first rules same adds r =
      let both = bound_gives p first namespace asked is some r in
      let P : List Who → Type 0 = λ whos. HasRule rules r ↔ Any (GivesOne namespace whos r) p.grants in
      subst P same (
        λ h. elim ((adds r).0 h) [
          | inl o ↦ absurd (nothing r o)
          | inr w ↦ any_of (Gives namespace first r) (GivesOne namespace (first ∷ []) r) p.grants (λ g f. (f.0, (0, first, omega arith, refl, f.1), f.2)) (both.0 w)
        ],
        λ a. (adds r).1 (inr (both.1 (any_of (GivesOne namespace (first ∷ []) r) (Gives namespace first r) p.grants (λ g f. (f.0, any_one (BindingNames g.binding) first f.1, f.2)) a))),
      )

  pub rules_of_two : (who first second : Who) (mid rules : List (Bor Rule)) → one_or_two first (Some second) ≡ stand_ins who → AddsRules p first asked (length p.grants) [] mid → AddsRules p second asked (length p.grants) mid rules → AreStandInRules p who namespace rules
  rules_of_two who first second mid rules same adds more r =
      let both = bound_gives p first namespace asked is some r in
      let others = bound_gives p second namespace asked is some r in
      let P : List Who → Type 0 = λ whos. HasRule rules r ↔ Any (GivesOne namespace whos r) p.grants in
      subst P same (
        λ h. elim ((more r).0 h) [
          | inl m ↦ elim ((adds r).0 m) [
            | inl o ↦ absurd (nothing r o)
            | inr w ↦ any_of (Gives namespace first r) (GivesOne namespace (first ∷ second ∷ []) r) p.grants (λ g f. (f.0, (0, first, omega arith, refl, f.1), f.2)) (both.0 w)
          ]
          | inr w ↦ any_of (Gives namespace second r) (GivesOne namespace (first ∷ second ∷ []) r) p.grants (λ g f. (f.0, (1, second, omega arith, refl, f.1), f.2)) (others.0 w)
        ],
        λ a. elim (any_two (BindingNames a.1.binding) first second a.4.1) [
          | inl n ↦ (more r).1 (inl ((adds r).1 (inr (both.1 (a.0, a.1, a.2, a.3, (a.4.0, n, a.4.2))))))
          | inr n ↦ (more r).1 (inr (others.1 (a.0, a.1, a.2, a.3, (a.4.0, n, a.4.2))))
        ],
      )
