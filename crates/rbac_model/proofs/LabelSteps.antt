-- the row of an aggregated role: whatever its selectors select, but itself
use Rattle.std.proofs.Common.{◌≡◌, ◌≢◌, ℕ, ◌<◌, ◌⊎◌, ◌↔◌, List, [], Any, inl, inr, sym, ap, ◌∙◌, arith, subst}
use Rattle.std.specs.Prelude.{Option, Some, slice_get}
use Rattle.std.proofs.lemmas.Bool.{cases_eq, cases_lt}
use Rattle.std.proofs.lemmas.Option.{same_Some, slice_get_within, get_or_from_slice_get}
use Rattle.rbac_terms.specs.Selecting.{Selects}
use Rattle.rbac_terms.specs.declared.granting.ClusterRole.{ClusterRole}
use Rattle.rbac_terms.specs.declared.selecting.Selector.{Selector}
use Rattle.rbac_model.specs.Graphs.{HasPlace}
use Rattle.rbac_model.specs.Lists.{IsAscendingBy}
use Rattle.rbac_model.specs.Policies.{Held, IsHeld, Gathers, cluster_role_name}
use Rattle.rbac_model.specs.Places.{IsRowOf}
use Rattle.rbac_model.specs.Labelled.{AreWith}
use Rattle.rbac_model.proofs.PlaceSets.{has_none}
use Rattle.rbac_model.proofs.NamePlaces.{equal_from_name}
use Rattle.rbac_model.proofs.Stairs.{step_read, step_same}

-- two roles of one name stand at one place
one_place : (roles : List ClusterRole) → IsAscendingBy cluster_role_name roles → (i j : ℕ) (r s : ClusterRole) → slice_get roles i ≡ Some r → slice_get roles j ≡ Some s → r.name ≡ s.name → i ≡ j
one_place roles up i j r s there here same =
    let less : (a b : ℕ) (x y : ClusterRole) → a < b → slice_get roles a ≡ Some x → slice_get roles b ≡ Some y → x.name ≡ y.name → ⊥ = λ a b x y lt first second e.
    let below = up a b x lt (slice_get_within roles b y second) in
    let read = rw (get_or_from_slice_get roles a x x first, get_or_from_slice_get roles b y x second) at below in
    let tied = equal_from_name cluster_role_name x y (ap (λ t. cluster_role_name (record { name = t; labels = x.labels; rules = x.rules; aggregation = x.aggregation })) e) in
    cc in
    elim (cases_lt i j) [
      | inl lt ↦ absurd (less i j r s lt there here same)
      | inr ge ↦ elim (cases_eq i j) [
        | inl e ↦ e
        | inr ne ↦ absurd (less j i s r (omega (arith, ge, ne)) here there (sym same))
      ]
    ]

pub row_of : (h : Held) → IsHeld h → (r : ClusterRole) (at : ℕ) (selectors : List Selector) (gathered own row : List ℕ) → slice_get h.cluster_roles at ≡ Some r → r.aggregation ≡ Some selectors → AreWith (λ labels. Any (λ selector. Selects selector labels) selectors) h.cluster_roles gathered → ((k : ℕ) → HasPlace own k ↔ (HasPlace [] k ⊎ (k ≡ at))) → ((k : ℕ) → HasPlace row k ↔ (HasPlace gathered k × (HasPlace own k → ⊥))) → IsRowOf h r row
row_of h held r at selectors gathered own row there is are one left k = (
  λ m.
      let w = (left k).0 m in
      let s = (are k).0 w.0 in
      let other : r.name ≢ s.0.name = λ e. w.1 ((one k).1 (inr (sym (one_place h.cluster_roles held.cluster_roles at k r s.0 there s.1 e)))) in
      step_read h r k s.0 s.1 (other, subst (λ (a : Option (List Selector)). Gathers a s.0) (sym is) s.2),
  λ step.
      let s = step.0 in
      let parts = step_same h r k s step.1 step in
      let gathers : Any (λ selector. Selects selector s.labels) selectors = subst (λ (a : Option (List Selector)). Gathers a s) is parts.1 in
      (left k).1 (
        (are k).1 (s, step.1, gathers),
        λ m. elim ((one k).0 m) [
          | inl v ↦ has_none k v
          | inr e ↦
              let same : s ≡ r = same_Some s r (sym step.1 ∙ ap (slice_get h.cluster_roles) e ∙ there) in
              parts.0 (ap (λ (x : ClusterRole). x.name) (sym same))
        ],
      ),
)
