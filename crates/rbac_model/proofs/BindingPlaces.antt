-- a grant is of one binding, at one place, and these places rise with the numbers of grants
use Rattle.std.proofs.Common.{◌≡◌, ℕ, ◌<◌, ◌≤◌, List, length, get_or, ap, sym, ◌∙◌, refl, inl, inr, arith, All, ltb, leb, true, false, Contains}
use Rattle.std.specs.Prelude.{Option, Some, None, slice_get, IsSome, option_and_then, ◌↔◌}
use Rattle.std.specs.Option.{option_map}
use Rattle.std.specs.List.Sorted.{IsNonDecreasingBy, IsPartitionPoint}
use Rattle.std.specs.declared.cmp.Ordering.TheVariants.{Less}
use Rattle.std.proofs.lemmas.Bool.{cases_order, cases_lt}
use Rattle.std.proofs.lemmas.List.Elements.{All-get_or}
use Rattle.std.proofs.lemmas.Option.{same_Some, slice_get_within, get_or_from_slice_get, slice_get-get_or}
use Rattle.rbac_terms.specs.Text.{Text}
use Rattle.rbac_terms.specs.declared.granting.Binding.{Binding}
use Rattle.rbac_terms.proofs.Reading.{read_some}
use Rattle.rbac_model.specs.Lists.{by_name, IsAscendingBy}
use Rattle.rbac_model.specs.declared.places.GrantPlace.{GrantPlace}
use Rattle.rbac_model.specs.declared.places.RolePlace.TheVariants.{RoleAt}
use Rattle.rbac_model.specs.Policies.{Held, PolicyView, IsPolicy, GrantView, SourcedRule, AreRulesFor, IsOfBinding, binding_name, sourced_at, grant_at, grants_at}
use Rattle.rbac_model.proofs.NamePlaces.{equal_from_name}
use Rattle.rbac_model.proofs.Granted.{granted}
use Rattle.rbac_model.proofs.GrantNumbers.{bindings_rise, binding_of, number_of, grant_by}

module _ {X : Type 0} (name : X → List Text) where
  not_below : (x y : X) → name x ≡ name y → by_name name x y ≡ Less → ⊥
  not_below x y e l = let tied = equal_from_name name x y e in cc

  -- a name stands at one place
  one_place : (xs : List X) (i j : ℕ) (x y : X) → IsAscendingBy name xs → slice_get xs i ≡ Some x → slice_get xs j ≡ Some y → name x ≡ name y → i ≡ j
  one_place xs i j x y up a b e =
      let at : get_or xs i x ≡ x = get_or_from_slice_get xs i x x a in
      let there : get_or xs j x ≡ y = get_or_from_slice_get xs j y x b in
      elim (cases_order i j) [
        | inl same ↦ same
        | inr less ↦ elim less [
          | inl l ↦ absurd (not_below x y e (rw (at, there) at (up i j x l (slice_get_within xs j y b))))
          | inr l ↦ absurd (not_below y x (sym e) (rw (at, there) at (up j i x l (slice_get_within xs i x a))))
        ]
      ]

module _ (p : PolicyView) (ok : IsPolicy p) where
  pub places_rise : (n m i j : ℕ) → n ≤ m → IsOfBinding p n i → IsOfBinding p m j → i ≤ j
  places_rise n m i j le a b =
      let r = bindings_rise p.held p.held.bindings p.grants n m a.0 b.0 ok.1 le a.1 b.1 in
      let first : i ≡ r.0 = one_place binding_name p.held.bindings i r.0 a.0.binding a.0.binding ok.0.bindings a.2 r.2 refl in
      let second : j ≡ r.1 = one_place binding_name p.held.bindings j r.1 b.0.binding b.0.binding ok.0.bindings b.2 r.3 refl in
      omega (arith, r.4)

  pub one_binding_place : (n i j : ℕ) → IsOfBinding p n i → IsOfBinding p n j → i ≡ j
  one_binding_place n i j a b =
      let same : a.0 ≡ b.0 = same_Some a.0 b.0 (sym a.1 ∙ b.1) in
      one_place binding_name p.held.bindings i j a.0.binding b.0.binding ok.0.bindings a.2 b.2 (ap (λ (g : GrantView). binding_name g.binding) same)

module _ (p : PolicyView) (ok : IsPolicy p) where
  -- each number is of a grant of some binding
  pub of_some_binding : (n : ℕ) → n < length p.grants → (i : ℕ) × IsOfBinding p n i
  of_some_binding n lt =
      let g = read_some p.grants n lt in
      let at = binding_of p.held p.held.bindings p.grants n g.0 ok.1 g.1 in
      (at.0, (g.0, g.1, at.1))

  -- a grant's rule is one of those that its binding brings
  pub rule_of_binding : (n i : ℕ) (g : GrantView) → slice_get p.grants n ≡ Some g → IsOfBinding p n i → (b : Binding) × (slice_get p.held.bindings i ≡ Some b) × ((rules : List SourcedRule) × AreRulesFor p.held b rules × Contains rules g.rule)
  rule_of_binding n i g at of =
      let same : of.0 ≡ g = same_Some of.0 g (sym of.1 ∙ at) in
      let by = binding_of p.held p.held.bindings p.grants n g ok.1 at in
      let rules = by.2.0 in
      let k = by.2.2.0 in
      (g.binding, of.2 ∙ ap (λ (v : GrantView). Some v.binding) same, (rules, by.2.1, (k, slice_get_within rules k g.rule by.2.2.1, get_or_from_slice_get rules k g.rule g.rule by.2.2.1)))

  -- a rule that a binding brings is of one of its grants
  pub grant_of_rule : (i : ℕ) (b : Binding) (rules : List SourcedRule) (rule : SourcedRule) → slice_get p.held.bindings i ≡ Some b → AreRulesFor p.held b rules → Contains rules rule → (n : ℕ) × (slice_get p.grants n ≡ Some (grant_by b rule)) × IsOfBinding p n i
  grant_of_rule i b rules rule at are has =
      let n = number_of p.held ok.0 p.held.bindings p.grants i b rules has.0 rule ok.1 at are (slice_get-get_or rules has.0 rule has.1 ∙ ap (λ (v : SourcedRule). Some v) has.2) in
      (n.0, n.1, (grant_by b rule, n.1, at))

binding_of_parts : (o : Option Binding) (r : Option SourcedRule) (g : GrantView) → option_and_then (λ (b : Binding). option_map (λ (rule : SourcedRule). let v : GrantView = record { binding = b; rule = rule } in v) r) o ≡ Some g → o ≡ Some g.binding
binding_of_parts None r g e = cc
binding_of_parts (Some b) None g e = cc
binding_of_parts (Some b) (Some r) g e = ap (λ (o : Option GrantView). option_map (λ (v : GrantView). v.binding) o) e

is_some_at : {X : Type 0} (o : Option X) → IsSome o → (x : X) × (o ≡ Some x)
is_some_at None h = cc
is_some_at (Some x) h = (x, refl)

module _ (held : Held) (places : List GrantPlace) (grants : List GrantView) (are : grants ≡ grants_at held places) (all : All (λ x. IsSome (grant_at held x)) places) where
  -- what stands at a place is the grant of its number
  pub granted_at : (n : ℕ) (at : GrantPlace) → n < length places → grant_at held (get_or places n at) ≡ slice_get grants n
  granted_at n at lt =
      let place = get_or places n at in
      let found = is_some_at (grant_at held place) (All-get_or (λ x. IsSome (grant_at held x)) places n at lt all) in
      found.1 ∙ sym (granted held held places grants n at found.0 refl are all lt found.1)

  -- its binding stands at the binding's place
  pub granted_binding : (n : ℕ) (at : GrantPlace) → n < length places → (g : GrantView) × (slice_get grants n ≡ Some g) × (slice_get held.bindings (get_or places n at).binding ≡ Some g.binding)
  granted_binding n at lt =
      let place = get_or places n at in
      let found = is_some_at (grant_at held place) (All-get_or (λ x. IsSome (grant_at held x)) places n at lt all) in
      (found.0, granted held held places grants n at found.0 refl are all lt found.1, binding_of_parts (slice_get held.bindings place.binding) (sourced_at held place.role place.rule) found.0 found.1)

ltb_below : (a b : ℕ) → ltb a b ≡ true → a < b
ltb_below a b e = grind arith

ltb_not_below : (a b : ℕ) → ltb a b ≡ false → b ≤ a
ltb_not_below a b e = grind arith

leb_below : (a b : ℕ) → leb a b ≡ true → a ≤ b
leb_below a b e = grind arith

leb_not_below : (a b : ℕ) → leb a b ≡ false → b < a
leb_not_below a b e = grind arith

module _ (p : PolicyView) (ok : IsPolicy p) (places : List GrantPlace) (are : p.grants ≡ grants_at p.held places) (all : All (λ x. IsSome (grant_at p.held x)) places) where
  pub places_ascend : IsNonDecreasingBy (λ (at : GrantPlace). at.binding) places
  places_ascend i j d le lt =
      places_rise p ok i j (get_or places i d).binding (get_or places j d).binding le
      (granted_binding p.held places p.grants are all i d (omega arith))
      (granted_binding p.held places p.grants are all j d lt)

  -- the grants of the binding at a place stand between the points that part the places there
  pub parted_at : (place first last : ℕ) → length places ≡ length p.grants
      → IsPartitionPoint (λ (at : GrantPlace). ltb at.binding place ≡ true) (λ (at : GrantPlace). ltb at.binding place ≡ false) places first
      → IsPartitionPoint (λ (at : GrantPlace). leb at.binding place ≡ true) (λ (at : GrantPlace). leb at.binding place ≡ false) places last
      → (n i : ℕ) → IsOfBinding p n i → ((first ≤ n) × (n < last)) ↔ (i ≡ place)
  parted_at place first last len below upto n i of =
      let lt : n < length places = omega (arith, slice_get_within p.grants n of.0 of.1, len) in
      let d : GrantPlace = record { binding = 0; role = RoleAt 0; rule = 0 } in
      let k = (get_or places n d).binding in
      let at : i ≡ k = one_binding_place p ok n i k of (granted_binding p.held places p.grants are all n d lt) in (
        λ within. omega (arith, at, ltb_not_below k place (below.1 n d within.0 lt), leb_below k place (upto.0 n d (omega arith) within.1)),
        λ same. (
          elim (cases_lt n first) [
            | inl l ↦ absurd (omega (arith, at, same, ltb_below k place (below.0 n d (omega arith) l)))
            | inr l ↦ l
          ],
          elim (cases_lt n last) [
            | inl l ↦ l
            | inr l ↦ absurd (omega (arith, at, same, leb_not_below k place (upto.1 n d l lt)))
          ],
        ),
      )

  -- the grants of bindings up to that place stand before the second point
  pub parted_upto : (place last : ℕ) → length places ≡ length p.grants
      → IsPartitionPoint (λ (at : GrantPlace). leb at.binding place ≡ true) (λ (at : GrantPlace). leb at.binding place ≡ false) places last
      → (n i : ℕ) → IsOfBinding p n i → (n < last) ↔ (i ≤ place)
  parted_upto place last len upto n i of =
      let lt : n < length places = omega (arith, slice_get_within p.grants n of.0 of.1, len) in
      let d : GrantPlace = record { binding = 0; role = RoleAt 0; rule = 0 } in
      let k = (get_or places n d).binding in
      let at : i ≡ k = one_binding_place p ok n i k of (granted_binding p.held places p.grants are all n d lt) in (
        λ within. omega (arith, at, leb_below k place (upto.0 n d (omega arith) within)),
        λ low. elim (cases_lt n last) [
          | inl l ↦ l
          | inr l ↦ absurd (omega (arith, at, low, leb_not_below k place (upto.1 n d l lt)))
        ],
      )

  -- what is below a place is up to it
  pub parted_in_order : (place first last : ℕ) → first ≤ length places
      → IsPartitionPoint (λ (at : GrantPlace). ltb at.binding place ≡ true) (λ (at : GrantPlace). ltb at.binding place ≡ false) places first
      → IsPartitionPoint (λ (at : GrantPlace). leb at.binding place ≡ true) (λ (at : GrantPlace). leb at.binding place ≡ false) places last
      → first ≤ last
  parted_in_order place first last within below upto = elim (cases_lt last first) [
    | inl l ↦
        let d : GrantPlace = record { binding = 0; role = RoleAt 0; rule = 0 } in
        let k = (get_or places last d).binding in
        absurd (omega (arith, ltb_below k place (below.0 last d (omega arith) l), leb_not_below k place (upto.1 last d (omega arith) (omega (arith, l, within)))))
    | inr l ↦ l
  ]
