-- a list in order of names is one list, by its elements; so are the rules and the grants of bindings
use Rattle.std.proofs.Common.{◌≡◌, ℕ, ◌≤◌, ◌+◌, List, [], ◌∷◌, ◌++◌, length, get_or, take, Contains, ◌⊎◌, inl, inr, sym, ap, ap₂, ◌∙◌, refl, arith, subst, zero, suc, length-append, Less}
use Rattle.std.specs.Prelude.{Option, Some, None, slice_get}
use Rattle.std.specs.List.{flat_map}
use Rattle.std.proofs.lemmas.Bool.{cases_eq, cases_lt}
use Rattle.std.proofs.lemmas.Cmp.{tied_itself}
use Rattle.std.proofs.lemmas.List.{get_or_default}
use Rattle.std.proofs.lemmas.Option.{same_Some}
use Rattle.rbac_terms.specs.Text.{Text}
use Rattle.rbac_model.specs.Lists.{by_name, IsAscendingBy}
use Rattle.rbac_model.specs.Policies.{Held, IsHeld, Source, InRole, InClusterRole, SourcedRule, GrantView, AreGathered, AreRulesOf, AreRulesFor, AreGrantsOf, IsRefTo, written_from, role_name, cluster_role_name}
use Rattle.rbac_model.specs.Places.{granted_by}
use Rattle.rbac_terms.specs.declared.granting.Binding.{Binding}
use Rattle.rbac_terms.specs.declared.granting.Role.{Role}
use Rattle.rbac_terms.specs.declared.granting.ClusterRole.{ClusterRole}
use Rattle.rbac_terms.specs.declared.granting.RoleRef.{RoleRef}
use Rattle.rbac_terms.specs.declared.granting.RoleRef.TheVariants.{Role as ToRole, ClusterRole as ToClusterRole}
use Rattle.rbac_model.proofs.NamePlaces.{total, equal_from_name}

module _ {X : Type 0} (name : X → List Text) where
  not_below_itself : (x : X) → by_name name x x ≡ Less → ⊥
  not_below_itself x e = let f = tied_itself (total name) x in cc

  tail_ascends : (x : X) (xs : List X) → IsAscendingBy name (x ∷ xs) → IsAscendingBy name xs
  tail_ascends x xs up i j d lt l = up (suc i) (suc j) d (omega arith) (omega arith)

  head_below : (x : X) (xs : List X) (y : X) → IsAscendingBy name (x ∷ xs) → Contains xs y → by_name name x y ≡ Less
  head_below x xs y up w = rw w.2 at (up 0 (suc w.0) y (omega arith) (omega (arith, w.1)))

  in_cons : (x : X) (xs : List X) (y : X) → Contains (x ∷ xs) y → (x ≡ y) ⊎ Contains xs y
  in_cons x xs y (zero, l, e) = inl e
  in_cons x xs y (suc k, l, e) = inr (k, omega arith, e)

  -- an element is determined by its name
  pub one_of_name : (xs : List X) (x y : X) → IsAscendingBy name xs → Contains xs x → Contains xs y → name x ≡ name y → x ≡ y
  one_of_name xs x y up a b e = elim (cases_lt a.0 b.0) [
    | inl lt ↦
        let below = up a.0 b.0 x lt b.1 in
        let same : get_or xs b.0 x ≡ y = get_or_default xs b.0 x y b.1 ∙ b.2 in
        let less : by_name name x y ≡ Less = rw (a.2, same) at below in
        let tied = equal_from_name name x y e in cc
    | inr le ↦ elim (cases_eq a.0 b.0) [
      | inl q ↦ sym a.2 ∙ get_or_default xs a.0 x y a.1 ∙ ap (λ k. get_or xs k y) q ∙ b.2
      | inr ne ↦
          let below = up b.0 a.0 y (omega arith) a.1 in
          let same : get_or xs a.0 y ≡ x = get_or_default xs a.0 y x a.1 ∙ a.2 in
          let less : by_name name y x ≡ Less = rw (b.2, same) at below in
          let tied = equal_from_name name y x (sym e) in cc
    ]
  ]

  pub one_list : (xs ys : List X) → IsAscendingBy name xs → IsAscendingBy name ys → ((x : X) → Contains xs x → Contains ys x) → ((x : X) → Contains ys x → Contains xs x) → xs ≡ ys
  one_list [] [] up vp f g = refl
  one_list [] (y ∷ ys) up vp f g = absurd (omega (arith, (g y (0, omega arith, refl)).1))
  one_list (x ∷ xs) [] up vp f g = absurd (omega (arith, (f x (0, omega arith, refl)).1))
  one_list (x ∷ xs) (y ∷ ys) up vp f g =
      let heads : x ≡ y = elim (in_cons y ys x (f x (0, omega arith, refl))) [
        | inl e ↦ sym e
        | inr w ↦ elim (in_cons x xs y (g y (0, omega arith, refl))) [
          | inl e ↦ e
          | inr v ↦ absurd (not_below_itself x ((total name).trans x y x (head_below x xs y up v) (head_below y ys x vp w)))
        ]
      ] in
      let rest = one_list xs ys (tail_ascends x xs up) (tail_ascends y ys vp)
      (λ z w. elim (in_cons y ys z (f z (suc w.0, omega (arith, w.1), w.2))) [
        | inl e ↦ absurd (not_below_itself x (rw (← (heads ∙ e)) at (head_below x xs z up w)))
        | inr v ↦ v
      ])
      (λ z w. elim (in_cons x xs z (g z (suc w.0, omega (arith, w.1), w.2))) [
        | inl e ↦ absurd (not_below_itself y (rw (← (sym heads ∙ e)) at (head_below y ys z vp w)))
        | inr v ↦ v
      ]) in
      ap₂ (λ (h : X) (t : List X). h ∷ t) heads rest

-- what r gathers from is one list
pub one_gathered : (h : Held) (r : ClusterRole) (a b : List ClusterRole) → AreGathered h r a → AreGathered h r b → a ≡ b
one_gathered h r a b p q = one_list cluster_role_name a b p.ordered q.ordered (λ s w. (q.exact s).1 ((p.exact s).0 w)) (λ s w. (p.exact s).1 ((q.exact s).0 w))

pub one_rules : (h : Held) (source : Source) (a b : List SourcedRule) → AreRulesOf h source a → AreRulesOf h source b → a ≡ b
one_rules h (InRole r) a b p q = p ∙ sym q
one_rules h (InClusterRole r) a b p q = elim p [
  | inl u ↦ elim q [ inl v ↦ u.1 ∙ sym v.1 | inr v ↦ absurd (v.0 u.0) ]
  | inr u ↦ elim q [
    | inl v ↦ absurd (u.0 v.0)
    | inr v ↦ u.1.2 ∙ ap (λ (ss : List ClusterRole). flat_map (λ s. written_from (InClusterRole s) 0 s.rules) ss) (one_gathered h r u.1.0 v.1.0 u.1.1 v.1.1) ∙ sym v.1.2
  ]
]

same_names : (r s : Role) (namespace name : Text) → r.namespace ≡ namespace → r.name ≡ name → s.namespace ≡ namespace → s.name ≡ name → role_name r ≡ role_name s
same_names r s namespace name a b c d = cc

same_cluster_names : (r s : ClusterRole) (name : Text) → r.name ≡ name → s.name ≡ name → cluster_role_name r ≡ cluster_role_name s
same_cluster_names r s name a b = cc

one_role : (h : Held) (namespace : Option Text) (role : RoleRef) (a b : Source) → IsHeld h → IsRefTo h namespace role a → IsRefTo h namespace role b → a ≡ b
one_role h (Some namespace) (ToRole name) (InRole r) (InRole s) held p q =
    ap (λ (v : Role). InRole v) (one_of_name role_name h.roles r s held.roles p.0 q.0 (same_names r s namespace name p.1 p.2 q.1 q.2))
one_role h (Some namespace) (ToRole name) (InRole r) (InClusterRole s) held p q = absurd q
one_role h (Some namespace) (ToRole name) (InClusterRole r) b held p q = absurd p
one_role h None (ToRole name) a b held p q = absurd p
one_role h None (ToClusterRole name) (InClusterRole r) (InClusterRole s) held p q =
    ap (λ (v : ClusterRole). InClusterRole v) (one_of_name cluster_role_name h.cluster_roles r s held.cluster_roles p.0 q.0 (same_cluster_names r s name p.1 q.1))
one_role h None (ToClusterRole name) (InClusterRole r) (InRole s) held p q = absurd q
one_role h None (ToClusterRole name) (InRole r) b held p q = absurd p
one_role h (Some namespace) (ToClusterRole name) (InClusterRole r) (InClusterRole s) held p q =
    ap (λ (v : ClusterRole). InClusterRole v) (one_of_name cluster_role_name h.cluster_roles r s held.cluster_roles p.0 q.0 (same_cluster_names r s name p.1 q.1))
one_role h (Some namespace) (ToClusterRole name) (InClusterRole r) (InRole s) held p q = absurd q
one_role h (Some namespace) (ToClusterRole name) (InRole r) b held p q = absurd p

pub one_rules_for : (h : Held) (b : Binding) (xs ys : List SourcedRule) → IsHeld h → AreRulesFor h b xs → AreRulesFor h b ys → xs ≡ ys
one_rules_for h b xs ys held p q = elim p [
  | inl u ↦ elim q [
    | inl v ↦
        let P : Source → Type 0 = λ s. AreRulesOf h s xs in
        one_rules h v.0 xs ys (subst P (one_role h b.namespace b.role u.0 v.0 held u.1 v.1) u.2) v.2
    | inr v ↦ absurd (v.0 u.0 u.1)
  ]
  | inr u ↦ elim q [ inl v ↦ absurd (u.0 v.0 v.1) | inr v ↦ u.1 ∙ sym v.1 ]
]

length-granted : (b : Binding) (rules : List SourcedRule) → length (granted_by b rules) ≡ length rules
length-granted b [] = refl
length-granted b (r ∷ rs) = ap suc (length-granted b rs)

-- all grants are at least those of the first bindings and of the next one
pub grants_from : (h : Held) (bs : List Binding) (i : ℕ) (b : Binding) (first : List GrantView) (rules : List SourcedRule) (gs : List GrantView) → IsHeld h → slice_get bs i ≡ Some b → AreGrantsOf h (take i bs) first → AreRulesFor h b rules → AreGrantsOf h bs gs → length first + length rules ≤ length gs
grants_from h [] i b first rules gs held e are r all = cc
grants_from h (c ∷ bs) zero b first rules gs held e are r all =
    let same : c ≡ b = same_Some c b e in
    let one : all.0 ≡ rules = one_rules_for h b all.0 rules held (let P : Binding → Type 0 = λ v. AreRulesFor h v all.0 in subst P same all.2) r in
    let sum = ap length all.4 ∙ length-append (granted_by c all.0) all.1 in
    omega (arith, ap length are, sum, length-granted c all.0, ap length one)
grants_from h (c ∷ bs) (suc i) b first rules gs held e are r all =
    let rest = grants_from h bs i b are.1 rules all.1 held e are.3 r all.3 in
    let one : all.0 ≡ are.0 = one_rules_for h c all.0 are.0 held all.2 are.2 in
    let sum = ap length all.4 ∙ length-append (granted_by c all.0) all.1 in
    let first_sum = ap length are.4 ∙ length-append (granted_by c are.0) are.1 in
    omega (arith, rest, sum, first_sum, ap (λ (v : List SourcedRule). length (granted_by c v)) one)

pub one_grants : (h : Held) (bs : List Binding) (gs others : List GrantView) → IsHeld h → AreGrantsOf h bs gs → AreGrantsOf h bs others → gs ≡ others
one_grants h [] gs others held are all = are ∙ sym all
one_grants h (b ∷ bs) gs others held are all =
    let first = one_rules_for h b are.0 all.0 held are.2 all.2 in
    let rest = one_grants h bs are.1 all.1 held are.3 all.3 in
    are.4 ∙ ap₂ (λ (rules : List SourcedRule) (v : List GrantView). granted_by b rules ++ v) first rest ∙ sym all.4
