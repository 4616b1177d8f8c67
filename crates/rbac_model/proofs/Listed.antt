-- grants by places, and what is added to them
use Rattle.std.proofs.Common.{◌≡◌, ℕ, ◌<◌, ◌≤◌, ◌+◌, List, [], ◌∷◌, ◌++◌, length, get_or, take, All, inl, inr, sym, ap, ◌∙◌, refl, arith, zero, suc, add-one, append_assoc, append-nil, option_map, length-append, IsSome, take_all, length-take-le, take-append-drop, drop}
use Rattle.std.specs.List.{flat_map}
use Rattle.std.proofs.lemmas.Grind.{flat_map-append}
use Rattle.std.specs.Prelude.{Option, Some, None, slice_get, option_and_then}
use Rattle.std.proofs.lemmas.List.{take_more, map-append, length-map}
use Rattle.std.proofs.lemmas.List.Elements.{filter_map-append, All-append, All-push, All-nil, All-head, All-tail}
use Rattle.std.proofs.lemmas.Option.{same_Some, slice_get_within, get_or_from_slice_get, slice_get_cases}
use Rattle.rbac_model.specs.Policies.{Held, Source, InRole, InClusterRole, SourcedRule, GrantView, written_from, grant_at, grants_at, rule_at, sourced_at, AreGrantsOf, AreRulesFor}
use Rattle.rbac_model.specs.Places.{source_at, rules_of, places_of, places_in, role_places, granted_by, IsAdded, roles_at, rule_count}
use Rattle.rbac_terms.specs.declared.granting.Binding.{Binding}
use Rattle.rbac_terms.specs.declared.granting.Role.{Role}
use Rattle.rbac_terms.specs.declared.granting.ClusterRole.{ClusterRole}
use Rattle.rbac_terms.specs.declared.matching.Rule.{Rule}
use Rattle.rbac_model.specs.declared.places.GrantPlace.{GrantPlace}
use Rattle.rbac_model.specs.declared.places.RolePlace.{RolePlace}
use Rattle.rbac_model.specs.declared.places.RolePlace.TheVariants.{RoleAt, ClusterRoleAt}
use Rattle.rbac_model.proofs.Kept.{length-filter_map}

-- the rules that are written in these cluster roles, in order
abbrev pub rules_in : List ClusterRole → List SourcedRule
rules_in ss = flat_map (λ s. written_from (InClusterRole s) 0 s.rules) ss

-- one rule more
written_push : (source : Source) (i n : ℕ) (rules : List Rule) (rule : Rule) → n ≡ i + length rules → written_from source i (rules ++ rule ∷ []) ≡ written_from source i rules ++ record { source = source; rule = rule; place = n } ∷ []
written_push source i n [] rule e = let same : n ≡ i = omega arith in rw same refl
written_push source i n (r ∷ rs) rule e = ap (λ (xs : List SourcedRule). record { source = source; rule = r; place = i } ∷ xs) (written_push source (i + 1) n rs rule (omega arith))

written_take : (source : Source) (rules : List Rule) (n : ℕ) (rule : Rule) → slice_get rules n ≡ Some rule → written_from source 0 (take (suc n) rules) ≡ written_from source 0 (take n rules) ++ record { source = source; rule = rule; place = n } ∷ []
written_take source rules n rule e =
    let l = slice_get_within rules n rule e in
    let more : take (suc n) rules ≡ take n rules ++ rule ∷ [] = rw (add-one, get_or_from_slice_get rules n rule rule e) at (take_more rules n rule l) in
    rw more (written_push source 0 n (take n rules) rule (omega (arith, length-take-le n rules (omega arith))))

in_role : (h : Held) (at : ℕ) (o : Option Role) → slice_get h.roles at ≡ o → (source : Source) (n : ℕ) (rule : Rule) → option_map (λ r. InRole r) o ≡ Some source → slice_get (rules_of source) n ≡ Some rule → option_and_then (λ r. rule_at (InRole r) r.rules n) o ≡ Some (record { source = source; rule = rule; place = n })
in_role h at None e source n rule f g = cc
in_role h at (Some r) e source n rule f g =
    let same : InRole r ≡ source = same_Some (InRole r) source f in
    let read : slice_get r.rules n ≡ Some rule = ap (λ (s : Source). slice_get (rules_of s) n) same ∙ g in
    rw (← same, read) refl

in_cluster_role : (h : Held) (at : ℕ) (o : Option ClusterRole) → slice_get h.cluster_roles at ≡ o → (source : Source) (n : ℕ) (rule : Rule) → option_map (λ r. InClusterRole r) o ≡ Some source → slice_get (rules_of source) n ≡ Some rule → option_and_then (λ r. rule_at (InClusterRole r) r.rules n) o ≡ Some (record { source = source; rule = rule; place = n })
in_cluster_role h at None e source n rule f g = cc
in_cluster_role h at (Some r) e source n rule f g =
    let same : InClusterRole r ≡ source = same_Some (InClusterRole r) source f in
    let read : slice_get r.rules n ≡ Some rule = ap (λ (s : Source). slice_get (rules_of s) n) same ∙ g in
    rw (← same, read) refl

-- a rule of a role read by its place
sourced : (h : Held) (role : RolePlace) (source : Source) (n : ℕ) (rule : Rule) → source_at h role ≡ Some source → slice_get (rules_of source) n ≡ Some rule → sourced_at h role n ≡ Some (record { source = source; rule = rule; place = n })
sourced h (RoleAt at) source n rule e f = in_role h at (slice_get h.roles at) refl source n rule e f
sourced h (ClusterRoleAt at) source n rule e f = in_cluster_role h at (slice_get h.cluster_roles at) refl source n rule e f

module _ (h : Held) (b : Binding) (at : ℕ) (here : slice_get h.bindings at ≡ Some b) where
  grant_read : (role : RolePlace) (source : Source) (n : ℕ) (rule : Rule) → source_at h role ≡ Some source → slice_get (rules_of source) n ≡ Some rule → grant_at h (record { binding = at; role = role; rule = n }) ≡ Some (record { binding = b; rule = record { source = source; rule = rule; place = n } })
  grant_read role source n rule e f = rw (here, sourced h role source n rule e f) refl

  placed : (role : RolePlace) (source : Source) (n : ℕ) → source_at h role ≡ Some source → n ≤ length (rules_of source) → (grants_at h (places_of at role n) ≡ granted_by b (written_from source 0 (take n (rules_of source)))) × All (λ g. IsSome (grant_at h g)) (places_of at role n)
  placed role source zero e l = (refl, All-nil (λ g. IsSome (grant_at h g)))
  placed role source (suc n) e l =
      let before = placed role source n e (omega arith) in
      elim ((slice_get_cases (rules_of source) n).1) [
        | inr w ↦ absurd (omega (arith, w.0))
        | inl w ↦
            let place : GrantPlace = record { binding = at; role = role; rule = n } in
            let sourced_rule : SourcedRule = record { source = source; rule = w.0; place = n } in
            let read = grant_read role source n w.0 e w.2 in
            let one : grants_at h (place ∷ []) ≡ record { binding = b; rule = sourced_rule } ∷ [] = rw read refl in (
              filter_map-append (grant_at h) (places_of at role n) (place ∷ [])
                  ∙ ap (λ (gs : List GrantView). gs ++ grants_at h (place ∷ [])) before.0
                  ∙ ap (λ (gs : List GrantView). granted_by b (written_from source 0 (take n (rules_of source))) ++ gs) one
                  ∙ sym (map-append (λ (rule : SourcedRule). record { binding = b; rule = rule }) (written_from source 0 (take n (rules_of source))) (sourced_rule ∷ []))
                  ∙ ap (granted_by b) (sym (written_take source (rules_of source) n w.0 w.2)),
              All-push (λ g. IsSome (grant_at h g)) (places_of at role n) place before.1 (rw read refl),
            )
      ]

  -- all rules of a role
  pub placed_all : (role : RolePlace) (source : Source) → source_at h role ≡ Some source → (grants_at h (places_of at role (length (rules_of source))) ≡ granted_by b (written_from source 0 (rules_of source))) × All (λ g. IsSome (grant_at h g)) (places_of at role (length (rules_of source)))
  placed_all role source e = rw (take_all (length (rules_of source)) (rules_of source) (omega arith)) at (placed role source (length (rules_of source)) e (omega arith))

  pub role_placed : (k : ℕ) (r : Role) → slice_get h.roles k ≡ Some r → (grants_at h (role_places h at k) ≡ granted_by b (written_from (InRole r) 0 r.rules)) × All (λ g. IsSome (grant_at h g)) (role_places h at k)
  role_placed k r e = rw e (placed_all (RoleAt k) (InRole r) (rw e refl))

  pub sources_placed : (ps : List ℕ) → All (λ p. p < length h.cluster_roles) ps → (grants_at h (places_in h at ps) ≡ granted_by b (rules_in (roles_at h ps))) × All (λ g. IsSome (grant_at h g)) (places_in h at ps)
  sources_placed [] all = (refl, All-nil (λ g. IsSome (grant_at h g)))
  sources_placed (p ∷ ps) all = elim ((slice_get_cases h.cluster_roles p).1) [
    | inr w ↦ absurd (omega (arith, w.0, All-head (λ p. p < length h.cluster_roles) p ps all))
    | inl w ↦
        let rest = sources_placed ps (All-tail (λ p. p < length h.cluster_roles) p ps all) in
        let first = placed_all (ClusterRoleAt p) (InClusterRole w.0) (rw w.2 refl) in
        rw w.2 (
          filter_map-append (grant_at h) (places_of at (ClusterRoleAt p) (length w.0.rules)) (places_in h at ps)
              ∙ ap (λ (gs : List GrantView). gs ++ grants_at h (places_in h at ps)) first.0
              ∙ ap (λ (gs : List GrantView). granted_by b (written_from (InClusterRole w.0) 0 w.0.rules) ++ gs) rest.0
              ∙ sym (map-append (λ (rule : SourcedRule). record { binding = b; rule = rule }) (written_from (InClusterRole w.0) 0 w.0.rules) (rules_in (roles_at h ps))),
          All-append (λ g. IsSome (grant_at h g)) (places_of at (ClusterRoleAt p) (length w.0.rules)) (places_in h at ps) first.1 rest.1,
        )
  ]

  pub placed_len : (places : List GrantPlace) (rules : List SourcedRule) → (grants_at h places ≡ granted_by b rules) × All (λ g. IsSome (grant_at h g)) places → length places ≡ length rules
  placed_len places rules p =
      sym (length-filter_map (grant_at h) places p.1) ∙ ap length p.0 ∙ length-map rules (λ (rule : SourcedRule). record { binding = b; rule = rule })

  pub added : (old new places : List GrantPlace) (rules : List SourcedRule) → new ≡ old ++ places → All (λ g. IsSome (grant_at h g)) old → (grants_at h places ≡ granted_by b rules) × All (λ g. IsSome (grant_at h g)) places → IsAdded h b old new rules
  added old new places rules e held p = record {
    grants = ap (grants_at h) e ∙ filter_map-append (grant_at h) old places ∙ ap (λ (gs : List GrantView). grants_at h old ++ gs) p.0;
    held = rw e (All-append (λ g. IsSome (grant_at h g)) old places held p.1);
  }

-- one binding more
pub binding_more : (h : Held) (bs : List Binding) (b : Binding) (gs : List GrantView) (rules : List SourcedRule) → AreGrantsOf h bs gs → AreRulesFor h b rules → AreGrantsOf h (bs ++ b ∷ []) (gs ++ granted_by b rules)
binding_more h [] b gs rules are r = (rules, [], r, refl, rw are (sym (append-nil (granted_by b rules))))
binding_more h (c ∷ bs) b gs rules are r =
    let rest = binding_more h bs b are.1 rules are.3 r in
    (are.0, are.1 ++ granted_by b rules, are.2, rest, ap (λ (v : List GrantView). v ++ granted_by b rules) are.4 ∙ append_assoc (granted_by c are.0) are.1 (granted_by b rules))

-- how many places
pub length-places : (binding : ℕ) (role : RolePlace) (n : ℕ) → length (places_of binding role n) ≡ n
length-places binding role zero = refl
length-places binding role (suc n) =
    length-append (places_of binding role n) (record { binding = binding; role = role; rule = n } ∷ []) ∙ add-one (length (places_of binding role n)) ∙ ap suc (length-places binding role n)

pub length-role_places : (h : Held) (binding at : ℕ) (r : Role) → slice_get h.roles at ≡ Some r → length (role_places h binding at) ≡ length r.rules
length-role_places h binding at r e = rw e (length-places binding (RoleAt at) (length r.rules))

-- the places of the first sources, and of one more
pub places_more : (h : Held) (binding : ℕ) (ps : List ℕ) (i : ℕ) (r : ClusterRole) → i < length ps → slice_get h.cluster_roles (get_or ps i 0) ≡ Some r → places_in h binding (take (i + 1) ps) ≡ places_in h binding (take i ps) ++ places_of binding (ClusterRoleAt (get_or ps i 0)) (length r.rules)
places_more h binding ps i r l e =
    let f : ℕ → List GrantPlace = λ at. places_of binding (ClusterRoleAt at) (rule_count (option_map (λ (s : ClusterRole). s.rules) (slice_get h.cluster_roles at))) in
    let one : f (get_or ps i 0) ≡ places_of binding (ClusterRoleAt (get_or ps i 0)) (length r.rules) = rw e refl in
    ap (places_in h binding) (take_more ps i 0 l)
    ∙ flat_map-append f (take i ps) (get_or ps i 0 ∷ [])
    ∙ ap (λ (v : List GrantPlace). places_in h binding (take i ps) ++ v) (append-nil (f (get_or ps i 0)) ∙ one)

-- and all of them are no fewer
pub places_some : (h : Held) (binding : ℕ) (ps : List ℕ) (i : ℕ) → length (places_in h binding (take i ps)) ≤ length (places_in h binding ps)
places_some h binding ps i =
    let f : ℕ → List GrantPlace = λ at. places_of binding (ClusterRoleAt at) (rule_count (option_map (λ (s : ClusterRole). s.rules) (slice_get h.cluster_roles at))) in
    let whole = ap (λ (v : List ℕ). length (places_in h binding v)) (sym (take-append-drop i ps)) ∙ ap length (flat_map-append f (take i ps) (drop i ps)) in
    omega (arith, whole, length-append (places_in h binding (take i ps)) (places_in h binding (drop i ps)))

pub appended : {A : Type 0} (old now new part parts all : List A) → now ≡ old ++ parts → new ≡ now ++ part → all ≡ parts ++ part → new ≡ old ++ all
appended {A} old now new part parts all e f g = f ∙ ap (λ (v : List A). v ++ part) e ∙ append_assoc old parts part ∙ ap (λ (v : List A). old ++ v) (sym g)
