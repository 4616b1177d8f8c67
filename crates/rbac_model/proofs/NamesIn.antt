-- the names of the roles at the places of a set, one after the other
use Rattle.std.proofs.Common.{◌≡◌, ℕ, ◌<◌, ◌+◌, List, [], ◌∷◌, ◌++◌, length, get_or, Contains, All, Any, AllPairs, ◌↔◌, inl, inr, sym, ap, ◌∙◌, arith, subst, Less, length-append, Result, Ok, Err, IfOk}
use Rattle.std.specs.Prelude.{Option, Some, None, slice_get, codes}
use Rattle.std.proofs.lemmas.Bool.{cases_eq, cases_lt}
use Rattle.std.proofs.lemmas.List.{get_or_at, get_or_default}
use Rattle.std.proofs.Math.ListN.{get_or-append}
use Rattle.std.proofs.lemmas.List.Elements.{Contains-append_left, Contains-push, Contains-push_cases, Contains-get_or}
use Rattle.std.proofs.lemmas.Option.{same_Some, slice_get_within, get_or_from_slice_get, slice_get-get_or}
use Rattle.rbac_terms.specs.Text.{Text}
use Rattle.rbac_model.specs.Lists.{by_name, IsAscendingBy}
use Rattle.rbac_model.specs.Graphs.{Graph, HasPlace}
use Rattle.rbac_model.specs.Policies.{Held, IsHeld, Gathers, Reaches, AreReachedNames, cluster_role_name}
use Rattle.rbac_model.specs.Places.{AreReachedByEach, IsReachedAt, IsNameIn, AreNamesIn}
use Rattle.rbac_terms.specs.declared.granting.ClusterRole.{ClusterRole}
use Rattle.rbac_terms.specs.declared.selecting.Selector.{Selector}
use Rattle.rbac_model.proofs.Stairs.{read_contains, reached_held, reached_places}
use Rattle.rbac_model.proofs.OneList.{one_of_name}
use Rattle.std.specs.Prelude.{IsOkAnd}

-- one element more, which is above each
pairs_push : {X : Type 0} (R : X → X → Type 0) (xs : List X) (x : X) → AllPairs R xs → All (λ y. R y x) xs → AllPairs R (xs ++ x ∷ [])
pairs_push R xs x pairs above i j d lt l =
    let more : length (xs ++ x ∷ []) ≡ length xs + 1 = length-append xs (x ∷ []) in
    elim (cases_lt j (length xs)) [
      | inl low ↦ rw (get_or-append xs (x ∷ []) d i (omega arith), get_or-append xs (x ∷ []) d j low) (pairs i j d lt low)
      | inr high ↦
          let last : length xs ≡ j = omega arith in
          let read : get_or (xs ++ x ∷ []) j d ≡ x = get_or_at xs x [] d j last in
          rw (get_or-append xs (x ∷ []) d i (omega arith), read) (above i d (omega arith))
    ]

pub record IsNamedUpTo (h : Held) (places : List ℕ) (ws : List Text) (i : ℕ) : Type 0 where
  pub ordered : IsAscendingBy (λ w. w ∷ []) ws
  pub from : (w : Text) → Contains ws w → (m : IsNameIn h places w) × (m.0 < i)
  pub there : (w : Text) (m : IsNameIn h places w) → m.0 < i → Contains ws w

pub none_named_yet : (h : Held) (places : List ℕ) → IsNamedUpTo h places [] 0
none_named_yet h places = record { ordered = λ i j d lt l. absurd (omega arith); from = λ w c. absurd (omega (arith, c.1)); there = λ w m l. absurd (omega arith) }

pub named_more : (h : Held) (places : List ℕ) (ws : List Text) (i : ℕ) (r : ClusterRole) → IsHeld h → slice_get h.cluster_roles i ≡ Some r → HasPlace places i → IsNamedUpTo h places ws i → IsNamedUpTo h places (ws ++ r.name ∷ []) (i + 1)
named_more h places ws i r held read has up = record {
  ordered = pairs_push (λ v w. by_name (λ (t : Text). t ∷ []) v w ≡ Less) ws r.name up.ordered (λ k d l.
      let w = get_or ws k d in
      let m = up.from w (Contains-get_or ws k d l) in
      let below = held.cluster_roles m.0.0 i r m.1 (slice_get_within h.cluster_roles i r read) in
      let less : by_name cluster_role_name m.0.1 r ≡ Less = rw (get_or_from_slice_get h.cluster_roles m.0.0 m.0.1 r m.0.3, get_or_from_slice_get h.cluster_roles i r r read) at below in
      let P : Text → Type 0 = λ t. by_name (λ (v : Text). v ∷ []) t r.name ≡ Less in subst P m.0.4 less);
  from = λ w c. elim (Contains-push_cases ws r.name w c) [
    | inl v ↦ let m = up.from w v in (m.0, omega (arith, m.1))
    | inr e ↦ ((i, r, has, read, e), omega arith)
  ];
  there = λ w m l. elim (cases_eq m.0 i) [
    | inl e ↦
        let same : m.1 ≡ r = same_Some m.1 r (sym m.3 ∙ ap (slice_get h.cluster_roles) e ∙ read) in
        let P : Text → Type 0 = λ t. Contains (ws ++ r.name ∷ []) t in
        subst P (ap (λ (s : ClusterRole). s.name) (sym same) ∙ m.4) (Contains-push ws r.name)
    | inr ne ↦ Contains-append_left ws (r.name ∷ []) w (up.there w m (omega arith))
  ];
}

pub named_same : (h : Held) (places : List ℕ) (ws : List Text) (i : ℕ) → (HasPlace places i → ⊥) → IsNamedUpTo h places ws i → IsNamedUpTo h places ws (i + 1)
named_same h places ws i isnt up = record {
  ordered = up.ordered;
  from = λ w c. let m = up.from w c in (m.0, omega (arith, m.1));
  there = λ w m l. elim (cases_eq m.0 i) [
    | inl e ↦ absurd (isnt (subst (HasPlace places) e m.2))
    | inr ne ↦ up.there w m (omega arith)
  ];
}

pub all_named : (h : Held) (places : List ℕ) (ws : List Text) (n : ℕ) → n ≡ length h.cluster_roles → IsNamedUpTo h places ws n → AreNamesIn h places ws
all_named h places ws n e up = record {
  ordered = up.ordered;
  exact = λ w. (λ c. (up.from w c).0, λ m. up.there w m (omega (arith, e, slice_get_within h.cluster_roles m.0 m.1 m.3)));
}

pub reached_names : (h : Held) (r : ClusterRole) (places : List ℕ) (ws : List Text) → ((k : ℕ) → HasPlace places k ↔ IsReachedAt h r k) → AreNamesIn h places ws → AreReachedNames h r ws
reached_names h r places ws reached named = record {
  ordered = named.ordered;
  exact = λ w. (
    λ c.
        let m = (named.exact w).0 c in
        let to = (reached m.0).0 m.2 in
        let same = same_Some to.0 m.1 (sym to.1 ∙ m.3) in
        (m.1, subst (Reaches h r) same to.2, m.4),
    λ s.
        let at = read_contains h.cluster_roles s.0 (reached_held h r s.0 s.1) in
        (named.exact w).1 (at.0, s.0, (reached at.0).1 (s.0, at.1, s.1), at.1, s.2),
  );
}

-- a role with that name is the one at its place
one_at : (h : Held) (at : ℕ) (name : Text) (r : ClusterRole) → IsHeld h → (at < length h.cluster_roles) × ((d : ClusterRole) → (get_or h.cluster_roles at d).name ≡ name) → Contains h.cluster_roles r → r.name ≡ name → get_or h.cluster_roles at r ≡ r
one_at h at name r held place has e = one_of_name cluster_role_name h.cluster_roles (get_or h.cluster_roles at r) r held.cluster_roles (Contains-get_or h.cluster_roles at r place.0) has (ap (λ (n : Text). codes "ClusterRole" ∷ [] ∷ n ∷ []) (place.1 r ∙ sym e))

-- no path leads from a plain role
plain_reaches_none : (h : Held) (r s : ClusterRole) → r.aggregation ≡ None → Reaches h r s → ⊥
plain_reaches_none h r s plain ([], step) = subst (λ (o : Option (List Selector)). Gathers o s) plain step.2
plain_reaches_none h r s plain (m ∷ ms, path) = subst (λ (o : Option (List Selector)). Gathers o m) plain path.0.2

-- so it reaches no names
pub plain_reached : (h : Held) (at : ℕ) (name : Text) (x : ClusterRole) → IsHeld h → (at < length h.cluster_roles) × ((d : ClusterRole) → (get_or h.cluster_roles at d).name ≡ name) → x ≡ get_or h.cluster_roles at x → x.aggregation ≡ None → (r : ClusterRole) → Contains h.cluster_roles r → r.name ≡ name → AreReachedNames h r []
plain_reached h at name x held place read plain r has e = record {
  ordered = λ i j d lt l. absurd (omega arith);
  exact = λ w. (
    λ c. absurd (omega (arith, c.1)),
    λ s. absurd (plain_reaches_none h r s.0 (ap (λ (y : ClusterRole). y.aggregation) (sym (read ∙ get_or_default h.cluster_roles at x r place.0 ∙ one_at h at name r held place has e)) ∙ plain) s.1),
  );
}

-- the role at that place isn't plain, so a plain role has another name
pub not_plain : {E : Type 0} (h : Held) (at : ℕ) (name : Text) (x : ClusterRole) (o : Result (List Text) E) → IsHeld h → (at < length h.cluster_roles) × ((d : ClusterRole) → (get_or h.cluster_roles at d).name ≡ name) → x ≡ get_or h.cluster_roles at x → (x.aggregation ≡ None → ⊥) → (r : ClusterRole) → Contains h.cluster_roles r → r.name ≡ name → r.aggregation ≡ None → IsOkAnd o (λ ws. ws ≡ [])
not_plain h at name x o held place read isnt r has e plain =
    absurd (isnt (ap (λ (y : ClusterRole). y.aggregation) (read ∙ get_or_default h.cluster_roles at x r place.0 ∙ one_at h at name r held place has e) ∙ plain))

-- the role of that name is the one at its place
pub names_reached : {E : Type 0} (h : Held) (rows : Graph) (at : ℕ) (name : Text) (places : List ℕ) (o : Result (List Text) E) → IsHeld h → AreReachedByEach h rows → (at < length h.cluster_roles) × ((d : ClusterRole) → (get_or h.cluster_roles at d).name ≡ name) → places ≡ get_or rows at places → IfOk o (λ ws. AreNamesIn h places ws) → IfOk o (λ ws. (r : ClusterRole) → Contains h.cluster_roles r → r.name ≡ name → AreReachedNames h r ws)
names_reached h rows at name places (Ok ws) held are place read named = λ r has e.
    let here : get_or h.cluster_roles at r ≡ r = one_at h at name r held place has e in
    let there : slice_get h.cluster_roles at ≡ Some r = slice_get-get_or h.cluster_roles at r place.0 ∙ ap Some here in
    reached_names h r places ws (reached_places h rows at r places are there read) named
names_reached h rows at name places (Err e) held are place read named = tt

pub no_names : {E : Type 0} (h : Held) (at : ℕ) (name : Text) (o : Result (List Text) E) → (at < length h.cluster_roles) × ((d : ClusterRole) → (get_or h.cluster_roles at d).name ≡ name) → (Any (λ r. r.name ≡ name) h.cluster_roles → ⊥) → IsOkAnd o (λ ws. ws ≡ [])
no_names h at name o place = λ none.
    let d : ClusterRole = record { name = name; labels = []; rules = []; aggregation = None } in
    absurd (none (at, get_or h.cluster_roles at d, place.0, get_or_default h.cluster_roles at (get_or h.cluster_roles at d) d place.0, place.1 d))
