-- bindings whose rules those of the other policy cover
use Rattle.std.proofs.Common.{◌≡◌, ℕ, List, ◌+◌, ◌-◌, ◌<◌, ◌≤◌, ◌↔◌, length, take, get_or, Contains, slice_get, sym, ap, ◌∙◌, refl, subst, inl, inr, arith}
use Rattle.std.specs.Prelude.{Some}
use Rattle.std.proofs.lemmas.Bool.{cases_lt}
use Rattle.std.proofs.lemmas.List.Elements.{Contains-push_cases}
use Rattle.std.proofs.lemmas.Option.{same_Some}
use Rattle.rbac_model.specs.Policies.{PolicyView, GrantView, IsOfBinding}
use Rattle.rbac_terms.specs.declared.granting.Binding.{Binding}
use Rattle.rbac_terms.specs.declared.granting.Subject.{Subject}
use Rattle.rbac_terms.proofs.Reading.{contains_read}
use Rattle.rbac_model.proofs.Stairs.{take_read}
use Rattle.rbac_covering.specs.Covering.{CoversAll}
use Rattle.rbac_diff.specs.Unchanged.{AreAmong, GrantsNoMore, HasCoveredRules, IsGrantCovered}

-- the grants numbered from `from` up to `next` are covered by those from `other_from` on, one by one
abbrev pub AreCoveredUpTo : PolicyView → ℕ → PolicyView → ℕ → ℕ → Type 0
AreCoveredUpTo own from other other_from next = (n : ℕ) → from ≤ n → n < next → IsGrantCovered own n other (other_from + (n - from))

pub covered_none : (own other : PolicyView) (from other_from : ℕ) → AreCoveredUpTo own from other other_from from
covered_none own other from other_from n le lt = absurd (omega (arith, le, lt))

pub covered_more : (own other : PolicyView) (from other_from next : ℕ) → AreCoveredUpTo own from other other_from next → IsGrantCovered own next other (other_from + (next - from)) → AreCoveredUpTo own from other other_from (next + 1)
covered_more own other from other_from next upto here n le lt =
    elim (cases_lt n next) [
      | inl l ↦ upto n le l
      | inr ge ↦ (let e : next ≡ n = omega (arith, lt, ge) in subst (λ k. IsGrantCovered own k other (other_from + (k - from))) e here)
    ]

-- the grants of the binding at a place are numbered from `from` up to `end`
abbrev pub AreNumbered : PolicyView → ℕ → ℕ → ℕ → Type 0
AreNumbered policy place from end = (n i : ℕ) → IsOfBinding policy n i → ((from ≤ n) × (n < end)) ↔ (i ≡ place)

pub have_covered : (own other : PolicyView) (place at from end other_from other_end last : ℕ) → AreNumbered own place from end → AreNumbered other at other_from other_end → end - from ≡ other_end - other_from → end ≤ last → AreCoveredUpTo own from other other_from last → HasCoveredRules own place other at
have_covered own other place at from end other_from other_end last mine theirs long upto all number g e of =
    let within = (mine number place of).1 refl in
    let covered = all number within.0 (omega (arith, within.1, upto)) in
    let m = other_from + (number - from) in
    let i : covered.place ≡ at = (theirs m covered.place covered.of).0 (omega arith, omega (arith, long, within.0, within.1)) in
    let own_grant : covered.mine ≡ g = same_Some covered.mine g (sym covered.read ∙ e) in
    (m, covered.theirs, covered.at, subst (λ k. IsOfBinding other m k) i covered.of, subst (λ (v : GrantView). CoversAll covered.theirs.rule.rule v.rule.rule) own_grant covered.covers)

-- two bindings in one namespace, of which the second covers the rules of the first and has all its subjects
pub grants_too : (own other : PolicyView) (place at : ℕ) (b h : Binding) → slice_get own.held.bindings place ≡ Some b → slice_get other.held.bindings at ≡ Some h → h.namespace ≡ b.namespace → AreAmong b.subjects h.subjects → HasCoveredRules own place other at → GrantsNoMore own place other
grants_too own other place at b h mine theirs namespace among rules number g read of =
    let r = rules number g read of in
    let grant : of.0 ≡ g = same_Some of.0 g (sym of.1 ∙ read) in
    let own_binding : b ≡ g.binding = same_Some b g.binding (sym mine ∙ of.2 ∙ ap (λ (v : GrantView). Some v.binding) grant) in
    let other_grant : r.3.0 ≡ r.1 = same_Some r.3.0 r.1 (sym r.3.1 ∙ r.2) in
    let other_binding : h ≡ r.1.binding = same_Some h r.1.binding (sym theirs ∙ r.3.2 ∙ ap (λ (v : GrantView). Some v.binding) other_grant) in (
      r.1,
      contains_read other.grants r.0 r.1 r.2,
      sym (ap (λ (x : Binding). x.namespace) other_binding) ∙ namespace ∙ ap (λ (x : Binding). x.namespace) own_binding,
      subst (λ (x : Binding). AreAmong g.binding.subjects x.subjects) other_binding (subst (λ (x : Binding). AreAmong x.subjects h.subjects) own_binding among),
      r.4,
    )

-- subjects that stand among others, and one more that does
pub held_more : (xs ys : List Subject) (i : ℕ) (x : Subject) → i < length xs → x ≡ get_or xs i x → AreAmong (take i xs) ys → Contains ys x → AreAmong (take (i + 1) xs) ys
held_more xs ys i x low is before there =
    subst (λ (zs : List Subject). AreAmong zs ys) (sym (take_read xs i x low is))
    (λ s h. elim (Contains-push_cases (take i xs) x s h) [
      | inl early ↦ before s early
      | inr e ↦ subst (λ (z : Subject). Contains ys z) e there
    ])

-- subjects found one after the other among others
pub among_more : (xs ys : List Subject) (i at : ℕ) (x y : Subject) → i < length xs → x ≡ get_or xs i x → AreAmong (take i xs) ys → slice_get ys at ≡ Some y → y ≡ x → AreAmong (take (i + 1) xs) ys
among_more xs ys i at x y low is before there same = held_more xs ys i x low is before (subst (λ (z : Subject). Contains ys z) same (contains_read ys at y there))
