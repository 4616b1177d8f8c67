-- The places of the lists of words that nodes take, the grants there, and the words.
use Rattle.std.proofs.Common.{◌≡◌, ◌∙◌, ◌↔◌, ◌<◌, ◌≤◌, ◌+◌, ◌++◌, ◌∷◌, [], ℕ, All, List, Some, Any, Contains, ap, arith, get_or, inl, inr, length, map, refl, slice_get, subst, suc, sym, zero}
use Rattle.std.proofs.Math.ListN.{get_or-eq_default, get_or-map}
use Rattle.std.proofs.lemmas.Bool.{cases_lt}
use Rattle.std.proofs.lemmas.List.{get_or-append-add, get_or_append_left, length_push}
use Rattle.std.proofs.lemmas.List.Elements.{Contains-append_cases, Contains-append_left, Contains-append_right, Contains-get_or}
use Rattle.std.proofs.lemmas.Option.{same_Some, slice_get_within}
use Rattle.rbac_terms.specs.Principals.{Who}
use Rattle.rbac_terms.specs.Text.{Text}
use Rattle.rbac_terms.specs.declared.granting.Binding.{Binding}
use Rattle.rbac_model.proofs.BindingPlaces.{of_some_binding}
use Rattle.rbac_model.proofs.OwnWords.{any_from}
use Rattle.rbac_model.specs.Policies.{BindingNames, GrantView, IsOfBinding, IsPolicy, PolicyView}
use Rattle.rbac_subjects.specs.Bound.{AreNamedPlaces, IsNamedBy}
use Rattle.rbac_ways.specs.Joining.{IsListedIn}
use Rattle.rbac_paths.specs.Deciding.{AreGrantingPlaces, AreGrantsByBinding, AreNumbersOf, ArePlaces, ArePlacesOf, AreTakingGrants, GiveHoldings, IsTakingAt}
use Rattle.rbac_paths.specs.Having.{HoldingView}
use Rattle.rbac_paths.specs.Joints.{AreFewGrants, AreOwnWords, DecideOn, IsNobody, SomeMayTake, TakesByWords}
use Rattle.rbac_paths.specs.Nodes.{NodeView, Somebody, ClusterRoleIn, OwnRole, EverythingIn}
use Rattle.rbac_paths.specs.SharedLists.{list_of}
use Rattle.rbac_paths.specs.SharedWords.{AreGrantWords, GrantTakesWord}
use Rattle.rbac_paths.specs.Told.{grant_holding}
use Rattle.rbac_steps.specs.declared.steps.Step.{Step}
use Rattle.rbac_paths.proofs.GrantWords.{give, given, takes_by_grants}
use Rattle.rbac_paths.proofs.GraphOf.{pushed}
use Rattle.rbac_paths.proofs.Kept.{AreKept}
use Rattle.rbac_paths.proofs.Mapped.{contains_map, is_element, map_contains, one_element}
use Rattle.rbac_paths.proofs.Others.{few_decide}
use Rattle.rbac_paths.proofs.WhatDecides.{given_decide}
use Rattle.rbac_paths.proofs.WordsTaken.{takes_same}

pub nothing_in : {X : Type 0} (xs : List X) (x : X) → xs ≡ [] → Contains xs x → ⊥
nothing_in {X = X} xs x e c = let low = (subst (λ (ys : List X). Contains ys x) e c).1 in omega (arith, low)

-- what is in a list at a place: the place is there
pub place_within : {X : Type 0} (lists : List (List X)) (at : ℕ) (x : X) → Contains (get_or lists at []) x → at < length lists
place_within lists at x c = elim (cases_lt at (length lists)) [
  | inl low ↦ low
  | inr past ↦ absurd (nothing_in (get_or lists at []) x (get_or-eq_default lists [] past) c)
]

empty : {X : Type 0} (xs : List X) → ((x : X) → Contains xs x → ⊥) → xs ≡ []
empty [] none = refl
empty (x ∷ xs) none = absurd (none x (0, omega arith, refl))

-- the grants of a binding are there
pub within_grants : (p : PolicyView) (grants : List (List ℕ)) → AreGrantsByBinding p grants → (at : ℕ) (numbers : List ℕ) → numbers ≡ get_or grants at [] → All (λ n. n < length p.grants) numbers
within_grants p grants by at numbers same k d low =
    let n = get_or numbers k d in
    let of = by n at (subst (λ (ns : List ℕ). Contains ns n) same (Contains-get_or numbers k d low)) in
    slice_get_within p.grants n of.0 of.1

-- ---- what lists have at some places

pub listed : List (List ℕ) → List ℕ → List ℕ
listed lists [] = []
listed lists (at ∷ ats) = get_or lists at [] ++ listed lists ats

from_listed : (lists : List (List ℕ)) (places : List ℕ) (n : ℕ) → Contains (listed lists places) n → IsListedIn lists places n
unfolding listed
from_listed lists [] n c = absurd (let low = c.1 in omega (arith, low))
from_listed lists (at ∷ ats) n c = elim (Contains-append_cases (get_or lists at []) (listed lists ats) n c) [
  | inl here ↦ (at, (0, omega arith, refl), here)
  | inr later ↦ (let w = from_listed lists ats n later in (w.0, (suc w.1.0, omega (arith, w.1.1), w.1.2), w.2))
]

to_listed : (lists : List (List ℕ)) (places : List ℕ) (n at : ℕ) → Contains places at → Contains (get_or lists at []) n → Contains (listed lists places) n
unfolding listed
to_listed lists [] n at c has = absurd (let low = c.1 in omega (arith, low))
to_listed lists (place ∷ places) n at (zero, low, e) has = Contains-append_left (get_or lists place []) (listed lists places) n (subst (λ (k : ℕ). Contains (get_or lists k []) n) (sym e) has)
to_listed lists (place ∷ places) n at (suc k, low, e) has = Contains-append_right (get_or lists place []) (listed lists places) n (to_listed lists places n at (k, omega arith, e) has)

pub listed_are : (lists : List (List ℕ)) (places : List ℕ) (n : ℕ) → Contains (listed lists places) n ↔ IsListedIn lists places n
listed_are lists places n = (from_listed lists places n, λ w. to_listed lists places n w.0 w.1 w.2)

-- ---- the places of those that have some grants, among the first of these

-- a list is there, and isn't empty
abbrev pub HasSome : List (List ℕ) → ℕ → Type 0
HasSome grants at = (n : ℕ) × Contains (get_or grants at []) n

module _ (grants : List (List ℕ)) where
  pub among_all : (p : PolicyView) (who : Who) (named places : List ℕ) → AreGrantsByBinding p grants → AreNamedPlaces p who named → AreKept (HasSome grants) named places → AreGrantingPlaces p grants who places
  among_all p who named places by names are at = (
    λ c. (let w = (are at).0 c in (w.1.0, w.1.1, (names w.1.0 at (by w.1.0 at w.1.1)).0 w.0)),
    λ w. (are at).1 ((names w.0 at (by w.0 at w.1)).1 w.2, (w.0, w.1)),
  )

-- ---- of all nodes

pub own_place : (p : PolicyView) (grants : List (List ℕ)) (own : ℕ) (y : NodeView) (places : List ℕ) → IsNobody y → places ≡ own ∷ [] → ArePlacesOf p grants own y places
own_place p grants own (Somebody who) places is are = elim is [ ]
own_place p grants own (ClusterRoleIn role scope) places is are = are
own_place p grants own (OwnRole role) places is are = are
own_place p grants own (EverythingIn scope) places is are = are

module _ (p : PolicyView) (grants : List (List ℕ)) (ys : List NodeView) where
  pub places_none : (all : List (List ℕ)) → all ≡ [] → ArePlaces p grants ys 0 all
  places_none all none = record { len = ap length none; each = λ k y low at. absurd (omega (arith, low)) }

  pub places_more : (count : ℕ) (all : List (List ℕ)) (places : List ℕ) → ArePlaces p grants ys count all → ((y : NodeView) → slice_get ys count ≡ Some y → ArePlacesOf p grants (length grants + count) y places) → ArePlaces p grants ys (count + 1) (all ++ places ∷ [])
  places_more count all places are of = record {
    len = length_push all places ∙ ap (λ (n : ℕ). n + 1) are.len;
    each = pushed (λ k y ps. ArePlacesOf p grants (length grants + k) y ps) ys [] all places count are.len are.each of;
  }

-- ---- the grants at the places of somebody

-- the grants of one binding name alike
named_alike : (p : PolicyView) (who : Who) (m n at : ℕ) → IsOfBinding p m at → IsOfBinding p n at → IsNamedBy p who m → IsNamedBy p who n
named_alike p who m n at of_m of_n is =
    let same = same_Some of_m.0.binding of_n.0.binding (sym of_m.2 ∙ of_n.2) in
    let by = subst (λ (g : GrantView). BindingNames g.binding who) (same_Some is.0 of_m.0 (sym is.1 ∙ of_m.1)) is.2 in
    (of_n.0, of_n.1, subst (λ (b : Binding). BindingNames b who) same by)

module _ (p : PolicyView) (ok : IsPolicy p) (steps : List Step) (grants : List (List ℕ)) (taking : AreTakingGrants p steps grants) where
  granted : (who : Who) (places : List ℕ) → AreGrantingPlaces p grants who places → (n : ℕ) → IsListedIn grants places n ↔ (IsNamedBy p who n × IsTakingAt p steps n)
  granted who places granting n = (
    λ w.
        (let is = (taking n w.0).0 w.2 in
        let by = (granting w.0).0 w.1 in
        (named_alike p who by.0 n w.0 ((taking by.0 w.0).0 by.1).0 is.0 by.2, is.1)),
    λ w.
        (let of = of_some_binding p ok n (slice_get_within p.grants n w.0.0 w.0.1) in
        let has = (taking n of.0).1 (of.1, w.1) in
        (of.0, (granting of.0).1 (n, has, w.0), has)),
  )

  none_there : (own : ℕ) (places numbers : List ℕ) → length grants ≤ own → places ≡ own ∷ [] → ((n : ℕ) → Contains numbers n ↔ IsListedIn grants places n) → numbers ≡ []
  none_there own places numbers past are each = empty numbers (λ n c.
      let w = (each n).0 c in
      let here = one_element own w.0 (subst (λ (ps : List ℕ). Contains ps w.0) are w.1) in
      nothing_in (get_or grants w.0 []) n (get_or-eq_default grants [] (let high = past in omega (arith, high, here))) w.2)

  pub numbers_of : (own : ℕ) (y : NodeView) (places numbers : List ℕ) → length grants ≤ own → ArePlacesOf p grants own y places → ((n : ℕ) → Contains numbers n ↔ IsListedIn grants places n) → AreNumbersOf p steps y numbers
  numbers_of own (Somebody who) places numbers past are each = λ n. (λ c. (granted who places are n).0 ((each n).0 c), λ w. (each n).1 ((granted who places are n).1 w))
  numbers_of own (ClusterRoleIn role scope) places numbers past are each = none_there own places numbers past are each
  numbers_of own (OwnRole role) places numbers past are each = none_there own places numbers past are each
  numbers_of own (EverythingIn scope) places numbers past are each = none_there own places numbers past are each

  -- ---- the words that nodes take

  module _ (bound own : List (List Text)) (shared : List ℕ) (are : AreGrantWords p steps grants bound shared) where
    in_bound : (at : ℕ) → at < length grants → get_or (bound ++ own) (list_of shared at) [] ≡ get_or bound (list_of shared at) []
    in_bound at low = get_or_append_left bound own [] (list_of shared at) (let list = are.within at low in let len = are.lists_len in omega (arith, list, len))

    granted_words : (who : Who) (places : List ℕ) → AreGrantingPlaces p grants who places → (w : Text) → IsListedIn (bound ++ own) (map (list_of shared) places) w ↔ Any (GrantTakesWord p steps w) (listed grants places)
    granted_words who places granting w = (
      λ l.
          (let at = contains_map (list_of shared) places l.0 l.1 in
          let by = (granting at.0).0 at.1 in
          let low = place_within grants at.0 by.0 by.1 in
          let has = subst (λ (ws : List Text). Contains ws w) (in_bound at.0 low) (subst (λ (list : ℕ). Contains (get_or (bound ++ own) list []) w) (sym at.2) l.2) in
          let a = (are.each at.0 low w).0 has in
          any_from (GrantTakesWord p steps w) (listed grants places) a.1 ((listed_are grants places a.1).1 (at.0, at.1, (a.0, a.2, a.3))) a.4),
      λ a.
          (let l = (listed_are grants places a.1).0 (a.0, a.2, a.3) in
          let low = place_within grants l.0 a.1 l.2 in
          (list_of shared l.0, map_contains (list_of shared) places l.0 l.1, subst (λ (ws : List Text). Contains ws w) (sym (in_bound l.0 low)) ((are.each l.0 low w).1 (any_from (GrantTakesWord p steps w) (get_or grants l.0 []) a.1 l.2 a.4)))),
    )

    -- the one list of a role, or of everything
    own_words : (k : ℕ) (places : List ℕ) → places ≡ (length grants + k) ∷ [] → (w : Text) → IsListedIn (bound ++ own) (map (list_of shared) places) w ↔ Contains (get_or own k []) w
    own_words k places is w =
        let at = length grants + k in
        let list : list_of shared at ≡ at = get_or-eq_default shared at (let len = are.places_len in omega (arith, len)) in
        let alone : map (list_of shared) places ≡ at ∷ [] = ap (map (list_of shared)) is ∙ ap (λ (n : ℕ). n ∷ []) list in
        let here : get_or (bound ++ own) at [] ≡ get_or own k [] = ap (λ (n : ℕ). get_or (bound ++ own) (n + k) []) (sym are.lists_len) ∙ get_or-append-add bound own k [] in (
          λ l.
              (let same = one_element at l.0 (subst (λ (ps : List ℕ). Contains ps l.0) alone l.1) in
              subst (λ (ws : List Text). Contains ws w) here (subst (λ (n : ℕ). Contains (get_or (bound ++ own) n []) w) (sym same) l.2)),
          λ c. (at, subst (λ (ps : List ℕ). Contains ps at) (sym alone) (is_element at at refl), subst (λ (ws : List Text). Contains ws w) (sym here) c),
        )

    module _ (k : ℕ) (places : List ℕ) where
      abbrev Takes : Text → Type 0
      Takes w = IsListedIn (bound ++ own) (map (list_of shared) places) w

      takes_at : (y : NodeView) → ArePlacesOf p grants (length grants + k) y places → (IsNobody y → TakesByWords p steps y (λ w. Contains (get_or own k []) w)) → TakesByWords p steps y Takes
      takes_at (Somebody who) at takes = takes_by_grants p ok steps who (listed grants places) (numbers_of (length grants + k) (Somebody who) places (listed grants places) (omega arith) at (listed_are grants places)) Takes (granted_words who places at)
      takes_at (ClusterRoleIn role scope) at takes = takes_same p (ClusterRoleIn role scope) steps (λ w. Contains (get_or own k []) w) Takes (own_words k places at) (takes tt)
      takes_at (OwnRole role) at takes = takes_same p (OwnRole role) steps (λ w. Contains (get_or own k []) w) Takes (own_words k places at) (takes tt)
      takes_at (EverythingIn scope) at takes = takes_same p (EverythingIn scope) steps (λ w. Contains (get_or own k []) w) Takes (own_words k places at) (takes tt)

    pub each_takes : (ys : List NodeView) (places takes : List (List ℕ)) → ArePlaces p grants ys (length ys) places → takes ≡ map (map (list_of shared)) places → AreOwnWords p steps ys (length ys) own
        → (i : ℕ) (x : NodeView) → slice_get ys i ≡ Some x → TakesByWords p steps x (λ w. IsListedIn (bound ++ own) (get_or takes i []) w)
    each_takes ys places takes at are_lists words i x there =
        let low = slice_get_within ys i x there in
        let here : get_or takes i [] ≡ map (list_of shared) (get_or places i []) = ap (λ (ls : List (List ℕ)). get_or ls i []) are_lists ∙ get_or-map (map (list_of shared)) places i [] in
        subst (λ (ps : List ℕ). TakesByWords p steps x (λ w. IsListedIn (bound ++ own) ps w)) (sym here) (takes_at i (get_or places i []) x (at.each i x low there) (words.words i x low there))

  -- ---- the few grants over roles and everything

  pub few_are : (who : Who) (own : ℕ) (places : List ℕ) (few : List (List ℕ)) (numbers : List ℕ) (hs : List HoldingView) → length grants ≤ own → ArePlacesOf p grants own (Somebody who) places → AreFewGrants p steps grants few
      → ((n : ℕ) → Contains numbers n ↔ IsListedIn few places n) → GiveHoldings p numbers hs → DecideOn p steps (Somebody who) hs IsNobody
  few_are who own places few numbers hs past at are each gives =
      let ns = listed grants places in
      let of = numbers_of own (Somebody who) places ns past at (listed_are grants places) in
      few_decide p steps (Somebody who) (given p ns) (given_decide p ok who steps ns of (given p ns) (give p ns)) hs (λ h. (
        λ c.
            (let w = (gives h).0 c in
            let l = (each w.0).0 w.1 in
            let v = (are l.0 w.0).0 l.2 in
            let same = ap grant_holding (same_Some v.1.0 w.2.0 (sym v.1.1 ∙ w.2.1)) ∙ w.2.2 in
            ((give p ns h).1 (w.0, (listed_are grants places w.0).1 (l.0, l.1, v.0), w.2), subst (SomeMayTake steps) same v.1.2)),
        λ t.
            (let w = (give p ns h).0 t.0 in
            let l = (listed_are grants places w.0).0 w.1 in
            (gives h).1 (w.0, (each w.0).1 (l.0, l.1, (are l.0 w.0).1 (l.2, (w.2.0, w.2.1, subst (SomeMayTake steps) (sym w.2.2) t.1))), w.2)),
      ))
