-- which roles bindings name, by flags
use Rattle.std.proofs.Common.{◌≡◌, ℕ, ◌<◌, ◌+◌, ◌⊎◌, ◌↔◌, inl, inr, List, [], ◌∷◌, ◌++◌, get_or, length, set, map, sym, ap, ◌∙◌, refl, subst, arith}
use Rattle.std.specs.Prelude.{Option, Some, None, slice_get, Bool, true, false, Any, IsTrue, IsSome, Contains}
use Rattle.std.specs.declared.cmp.Ordering.TheVariants.{Less}
use Rattle.std.proofs.lemmas.Bool.{cases_eq, cases_lt}
use Rattle.std.proofs.lemmas.List.{get_or-set_same, get_or-set_other, length-set, length-map}
use Rattle.std.proofs.lemmas.List.Elements.{Contains-append_left, Contains-push, Contains-push_cases}
use Rattle.std.proofs.lemmas.Option.{slice_get_within, slice_get-get_or, get_or_from_slice_get, same_Some, slice_get-map}
use Rattle.rbac_terms.specs.Text.{Text}
use Rattle.rbac_terms.specs.declared.selecting.Selector.{Selector}
use Rattle.rbac_terms.specs.declared.granting.ClusterRole.{ClusterRole}
use Rattle.rbac_terms.specs.declared.granting.Binding.{Binding}
use Rattle.rbac_terms.specs.declared.granting.RoleRef.{RoleRef}
use Rattle.rbac_terms.specs.declared.granting.RoleRef.TheVariants.{Role as ToRole, ClusterRole as ToClusterRole}
use Rattle.rbac_model.specs.Lists.{by_name, IsAscendingBy}
use Rattle.rbac_model.specs.Places.{IsReachedAt, source_at}
use Rattle.rbac_model.specs.declared.places.RolePlace.{RolePlace}
use Rattle.rbac_model.specs.declared.places.RolePlace.TheVariants.{RoleAt, ClusterRoleAt}
use Rattle.rbac_model.specs.Policies.{Held, IsHeld, Source, InRole, InClusterRole, IsPlain, IsRefTo, Reaches, Step, IsSelectionPath, Gathers}
use Rattle.rbac_model.proofs.NamePlaces.{equal_from_name}
use Rattle.rbac_lint.specs.Roles.{roles_in}
use Rattle.rbac_lint.specs.NamedRoles.{AreRoleFlags, AreNamed, AreGatherers, AreFlagsWith, IsReachedByNamedAt}
use Rattle.rbac_lint.specs.Findings.{IsNamedByBinding, IsUsed}
use Rattle.rbac_lint.proofs.Order.{ascends}
use Rattle.rbac_lint.proofs.RoleLines.{source_texts, roles_ascend, cluster_role_there, cluster_role_at, there, slice_get-left, slice_get-right}

-- one name stands at one place
never_below : {X : Type 0} (name : X → List Text) (x y : X) → name x ≡ name y → by_name name x y ≡ Less → ⊥
never_below name x y e l = let tied = equal_from_name name x y e in cc

same_place : {X : Type 0} (name : X → List Text) (xs : List X) (k j : ℕ) (x y : X) → IsAscendingBy name xs → slice_get xs k ≡ Some x → slice_get xs j ≡ Some y → name x ≡ name y → k ≡ j
same_place name xs k j x y up a b e = elim (cases_lt k j) [
  | inl lt ↦ absurd (never_below name x y e (ascends name xs k j x y up lt a b))
  | inr le ↦ elim (cases_lt j k) [
    | inl lt ↦ absurd (never_below name y x (sym e) (ascends name xs j k y x up lt b a))
    | inr ge ↦ omega (arith, le, ge)
  ]
]

-- what one reference is to has one name
ref_texts : (h : Held) (namespace : Option Text) (role : RoleRef) (a b : Source) → IsRefTo h namespace role a → IsRefTo h namespace role b → source_texts a ≡ source_texts b
ref_texts h (Some namespace) (ToRole name) (InRole r) (InRole s) p q = cc (p.1, p.2, q.1, q.2)
ref_texts h (Some namespace) (ToRole name) (InRole r) (InClusterRole s) p q = absurd q
ref_texts h (Some namespace) (ToRole name) (InClusterRole r) b p q = absurd p
ref_texts h None (ToRole name) a b p q = absurd p
ref_texts h None (ToClusterRole name) (InClusterRole r) (InClusterRole s) p q = cc (p.1, q.1)
ref_texts h None (ToClusterRole name) (InClusterRole r) (InRole s) p q = absurd q
ref_texts h None (ToClusterRole name) (InRole r) b p q = absurd p
ref_texts h (Some namespace) (ToClusterRole name) (InClusterRole r) (InClusterRole s) p q = cc (p.1, q.1)
ref_texts h (Some namespace) (ToClusterRole name) (InClusterRole r) (InRole s) p q = absurd q
ref_texts h (Some namespace) (ToClusterRole name) (InRole r) b p q = absurd p

-- one more binding
pub flagged_ref : (h : Held) (b : Binding) (p : ℕ) (t : Source) (old new : List Bool) → IsHeld h → slice_get (roles_in h) p ≡ Some t → IsRefTo h b.namespace b.role t → length old ≡ length (roles_in h) → new ≡ set old p true → AreFlagsWith h b old new
flagged_ref h b p t old new held here ref len e = record {
  len = ap length e ∙ length-set old p true;
  exact = λ k s there. elim (cases_eq k p) [
    | inl same ↦
        let one : s ≡ t = same_Some s t (sym there ∙ ap (slice_get (roles_in h)) same ∙ here) in
        let within : p < length old = omega (arith, len, slice_get_within (roles_in h) p t here) in
        let now : get_or new k false ≡ true = ap (λ (v : List Bool). get_or v k false) e ∙ ap (λ n. get_or (set old p true) n false) same ∙ get_or-set_same old p true false within in
        let P : Source → Type 0 = λ v. IsRefTo h b.namespace b.role v in
        (λ _. inr (subst P (sym one) ref), λ _. now)
    | inr other ↦
        let still : get_or new k false ≡ get_or old k false = ap (λ (v : List Bool). get_or v k false) e ∙ get_or-set_other old p k true false other in (
          λ v. inl (sym still ∙ v),
          λ w. elim w [
            | inl v ↦ still ∙ v
            | inr r ↦ absurd (other (same_place source_texts (roles_in h) k p s t (roles_ascend h held) there here (ref_texts h b.namespace b.role s t r ref)))
          ],
        )
  ];
}

-- the roles that the first n bindings name
abbrev pub IsNamedBy : Held → List Binding → ℕ → Source → Type 0
IsNamedBy h bs n s = (j : ℕ) × (b : Binding) × (j < n) × (slice_get bs j ≡ Some b) × IsRefTo h b.namespace b.role s

pub flags_more : (h : Held) (bs : List Binding) (i : ℕ) (b : Binding) (old new : List Bool) → slice_get bs i ≡ Some b → AreRoleFlags h (IsNamedBy h bs i) old → AreFlagsWith h b old new → AreRoleFlags h (IsNamedBy h bs (i + 1)) new
flags_more h bs i b old new here was is = record {
  len = is.len ∙ was.len;
  exact = λ k s there. (
    λ v. elim ((is.exact k s there).0 v) [
      | inl o ↦ let w = (was.exact k s there).0 o in (w.0, w.1, omega (arith, w.2), w.3, w.4)
      | inr r ↦ (i, b, omega arith, here, r)
    ],
    λ w. (is.exact k s there).1 (elim (cases_lt w.0 i) [
      | inl lt ↦ inl ((was.exact k s there).1 (w.0, w.1, lt, w.3, w.4))
      | inr le ↦
          let same : w.0 ≡ i = omega (arith, le, w.2) in
          let one : w.1 ≡ b = same_Some w.1 b (sym w.3 ∙ ap (slice_get bs) same ∙ here) in
          let P : Binding → Type 0 = λ c. IsRefTo h c.namespace c.role s in
          inr (subst P one w.4)
    ]),
  );
}

pub flags_named : (h : Held) (bs : List Binding) (n : ℕ) (flags : List Bool) → bs ≡ h.bindings → n ≡ length bs → AreRoleFlags h (IsNamedBy h bs n) flags → AreNamed h flags
flags_named h bs n flags same all was =
    let P : List Binding → Type 0 = λ cs. (k : ℕ) (s : Source) → slice_get (roles_in h) k ≡ Some s → (get_or flags k false ≡ true) ↔ Any (λ b. IsRefTo h b.namespace b.role s) cs in
    record {
      len = was.len;
      exact = subst P same (λ k s there. (
        λ v. (let w = (was.exact k s there).0 v in (w.0, w.1, slice_get_within bs w.0 w.1 w.3, get_or_from_slice_get bs w.0 w.1 w.1 w.3, w.4)),
        λ a. (was.exact k s there).1 (a.0, a.1, omega (arith, all, a.2), slice_get-get_or bs a.0 a.1 a.2 ∙ ap (λ (v : Binding). Some v) a.3, a.4),
      ));
    }

-- ---- used roles

reached_role : (h : Held) (k : ℕ) (s : Source) → slice_get (roles_in h) k ≡ Some s → IsReachedByNamedAt h k → IsUsed h s
unfolding IsReachedByNamedAt IsUsed
reached_role h k (InRole r) there w =
    absurd (let other : Some (InClusterRole w.2.0) ≡ Some (InRole r) = sym (cluster_role_there h k w.2.0 w.2.1) ∙ there in cc)
reached_role h k (InClusterRole r) there w =
    let both : InClusterRole w.2.0 ≡ InClusterRole r = same_Some (InClusterRole w.2.0) (InClusterRole r) (sym (cluster_role_there h k w.2.0 w.2.1) ∙ there) in
    let same : w.2.0 ≡ r = cc in
    let P : ClusterRole → Type 0 = λ v. Reaches h w.0 v in
    inr (w.0, w.1, subst P same w.2.2)

named_used : (h : Held) (s : Source) → IsNamedByBinding h s → IsUsed h s
unfolding IsUsed
named_used h (InRole r) n = n
named_used h (InClusterRole r) n = inl n

used_from : (h : Held) (k : ℕ) (s : Source) → slice_get (roles_in h) k ≡ Some s → IsUsed h s → IsNamedByBinding h s ⊎ IsReachedByNamedAt h k
unfolding IsReachedByNamedAt IsUsed
used_from h k (InRole r) there u = inl u
used_from h k (InClusterRole r) there (inl u) = inl u
used_from h k (InClusterRole r) there (inr u) = inr (u.0, u.1, (r, cluster_role_at h k r there, u.2))

pub used_iff : (h : Held) (flags : List Bool) (k : ℕ) (s : Source) → AreNamed h flags → slice_get (roles_in h) k ≡ Some s → ((get_or flags k false ≡ true) ⊎ IsReachedByNamedAt h k) ↔ IsUsed h s
used_iff h flags k s named there = (
  λ w. elim w [ inl v ↦ named_used h s ((named.exact k s there).0 v) | inr r ↦ reached_role h k s there r ],
  λ u. elim (used_from h k s there u) [ inl n ↦ inl ((named.exact k s there).1 n) | inr r ↦ inr r ],
)

-- a cluster role that a binding names is there
to_held : (h : Held) (namespace : Option Text) (role : RoleRef) (c : ClusterRole) → IsRefTo h namespace role (InClusterRole c) → Contains h.cluster_roles c
to_held h None (ToClusterRole name) c p = p.0
to_held h (Some namespace) (ToClusterRole name) c p = p.0
to_held h None (ToRole name) c p = absurd p
to_held h (Some namespace) (ToRole name) c p = absurd p

named_there : (h : Held) (c : ClusterRole) → IsNamedByBinding h (InClusterRole c) → (j : ℕ) × (slice_get h.cluster_roles j ≡ Some c)
named_there h c n =
    let w = to_held h n.1.namespace n.1.role c n.4 in
    (w.0, slice_get-get_or h.cluster_roles w.0 c w.1 ∙ ap (λ (v : ClusterRole). Some v) w.2)

-- what reaches another is aggregated
step_gathers : (h : Held) (c s : ClusterRole) → Step h c s → IsPlain c → ⊥
step_gathers h c s p plain = let P : Option (List Selector) → Type 0 = λ o. Gathers o s in subst P plain p.2

reaching_gathers : (h : Held) (c : ClusterRole) (between : List ClusterRole) (s : ClusterRole) → IsSelectionPath h c between s → IsPlain c → ⊥
reaching_gathers h c [] s p plain = step_gathers h c s p plain
reaching_gathers h c (m ∷ ms) s p plain = step_gathers h c m p.0 plain

-- the places of those that are named, and aggregated
abbrev pub AreGatherersBelow : Held → ℕ → List ℕ → Type 0
AreGatherersBelow h n places =
    ((k : ℕ) → Contains places k → (c : ClusterRole) × (slice_get h.cluster_roles k ≡ Some c) × IsNamedByBinding h (InClusterRole c))
    × ((k : ℕ) (c : ClusterRole) → k < n → slice_get h.cluster_roles k ≡ Some c → IsNamedByBinding h (InClusterRole c) → (IsPlain c → ⊥) → Contains places k)

pub gatherers_more : (h : Held) (i : ℕ) (r : ClusterRole) (old new : List ℕ) → slice_get h.cluster_roles i ≡ Some r → IsNamedByBinding h (InClusterRole r) → new ≡ old ++ i ∷ [] → AreGatherersBelow h i old → AreGatherersBelow h (i + 1) new
gatherers_more h i r old new here named e was = (
  λ k w. elim (Contains-push_cases old i k (subst (λ (ks : List ℕ). Contains ks k) e w)) [
    | inl o ↦ was.0 k o
    | inr same ↦ (r, subst (λ (j : ℕ). slice_get h.cluster_roles j ≡ Some r) same here, named)
  ],
  λ k c lt at is gathers. subst (λ (ks : List ℕ). Contains ks k) (sym e) (elim (cases_lt k i) [
    | inl below ↦ Contains-append_left old (i ∷ []) k (was.1 k c below at is gathers)
    | inr le ↦ let same : i ≡ k = omega (arith, le, lt) in subst (λ (j : ℕ). Contains (old ++ i ∷ []) j) same (Contains-push old i)
  ]),
)

pub gatherers_same : (h : Held) (i : ℕ) (r : ClusterRole) (places : List ℕ) → slice_get h.cluster_roles i ≡ Some r → (IsNamedByBinding h (InClusterRole r) → (IsPlain r → ⊥) → ⊥) → AreGatherersBelow h i places → AreGatherersBelow h (i + 1) places
gatherers_same h i r places here never was = (
  was.0,
  λ k c lt at is gathers. elim (cases_lt k i) [
    | inl below ↦ was.1 k c below at is gathers
    | inr le ↦
        let same : k ≡ i = omega (arith, le, lt) in
        let one : c ≡ r = same_Some c r (sym at ∙ ap (slice_get h.cluster_roles) same ∙ here) in
        absurd (never (subst (λ (v : ClusterRole). IsNamedByBinding h (InClusterRole v)) one is) (λ plain. gathers (subst IsPlain (sym one) plain)))
  ],
)

pub gatherers_all : (h : Held) (n : ℕ) (places : List ℕ) → n ≡ length h.cluster_roles → AreGatherersBelow h n places → AreGatherers h places
gatherers_all h n places all was = record {
  sound = was.0;
  complete = λ k c at is gathers. was.1 k c (omega (arith, all, slice_get_within h.cluster_roles k c at)) at is gathers;
}

-- what the test says of the cluster role at a place
abbrev pub DecidesReach : Held → ℕ → ℕ → Bool → Type 0
DecidesReach h j k told = (r : ClusterRole) → slice_get h.cluster_roles j ≡ Some r → (IsTrue told ↔ IsReachedAt h r k)

pub reached_here : (h : Held) (places : List ℕ) (j k : ℕ) (told : Bool) → AreGatherers h places → Contains places j → DecidesReach h j k told → IsTrue told → IsReachedByNamedAt h k
unfolding IsReachedByNamedAt
reached_here h places j k told are c tells so = let g = are.sound j c in (g.0, g.2, (tells g.0 g.1).0 so)

-- none of the first places reaches it
abbrev pub NoneReaches : Held → ℕ → List ℕ → ℕ → Type 0
NoneReaches h k places n = (i j : ℕ) (c : ClusterRole) → i < n → slice_get places i ≡ Some j → slice_get h.cluster_roles j ≡ Some c → IsReachedAt h c k → ⊥

pub none_reaches_more : (h : Held) (places : List ℕ) (i j k : ℕ) → slice_get places i ≡ Some j → NoneReaches h k places i → ((c : ClusterRole) → slice_get h.cluster_roles j ≡ Some c → IsReachedAt h c k → ⊥) → NoneReaches h k places (i + 1)
none_reaches_more h places i j k here below never a b c lt there at r = elim (cases_lt a i) [
  | inl less ↦ below a b c less there at r
  | inr le ↦
      let same : a ≡ i = omega (arith, le, lt) in
      let one : b ≡ j = same_Some b j (sym there ∙ ap (slice_get places) same ∙ here) in
      never c (subst (λ (n : ℕ). slice_get h.cluster_roles n ≡ Some c) one at) r
]

pub none_reaches : (h : Held) (places : List ℕ) (k n : ℕ) → n ≡ length places → AreGatherers h places → NoneReaches h k places n → IsReachedByNamedAt h k → ⊥
unfolding IsReachedByNamedAt
none_reaches h places k n all are below w =
    let c = named_there h w.0 w.1 in
    let there = are.complete c.0 w.0 c.1 w.1 (λ plain. reaching_gathers h w.0 w.2.2.0 w.2.0 w.2.2.1 plain) in
    below there.0 c.0 w.0 (omega (arith, all, there.1)) (slice_get-get_or places there.0 c.0 there.1 ∙ ap (λ (j : ℕ). Some j) there.2) c.1 w.2

-- ---- the place of a role among all

some_source : (o : Option Source) → IsSome o → (s : Source) × (o ≡ Some s)
some_source None h = absurd (let never : false ≡ true = h in cc)
some_source (Some s) h = (s, refl)

pub among_cluster_roles : (h : Held) (p : RolePlace) (at : ℕ) (s : Source) → p ≡ ClusterRoleAt at → source_at h p ≡ Some s → slice_get (roles_in h) at ≡ Some s
among_cluster_roles h p at s e f =
    let P : RolePlace → Type 0 = λ v. source_at h v ≡ Some s in
    slice_get-left (map (λ r. InClusterRole r) h.cluster_roles) (map (λ r. InRole r) h.roles) at s
    (slice_get-map (λ r. InClusterRole r) h.cluster_roles at ∙ subst P e f)

pub among_roles : (h : Held) (p : RolePlace) (at n : ℕ) (s : Source) → p ≡ RoleAt at → source_at h p ≡ Some s → n ≡ length h.cluster_roles + at → slice_get (roles_in h) n ≡ Some s
among_roles h p at n s e f g =
    let P : RolePlace → Type 0 = λ v. source_at h v ≡ Some s in
    let same : n ≡ length (map (λ r. InClusterRole r) h.cluster_roles) + at = omega (arith, g, length-map h.cluster_roles (λ r. InClusterRole r)) in
    ap (slice_get (roles_in h)) same
    ∙ slice_get-right (map (λ r. InClusterRole r) h.cluster_roles) (map (λ r. InRole r) h.roles) at s (slice_get-map (λ r. InRole r) h.roles at ∙ subst P e f)

pub within_cluster_roles : (h : Held) (p : RolePlace) (at : ℕ) → p ≡ ClusterRoleAt at → IsSome (source_at h p) → at < length (roles_in h)
within_cluster_roles h p at e f =
    let s = some_source (source_at h p) f in
    slice_get_within (roles_in h) at s.0 (among_cluster_roles h p at s.0 e s.1)

pub within_roles : (h : Held) (p : RolePlace) (at : ℕ) → p ≡ RoleAt at → IsSome (source_at h p) → length h.cluster_roles + at < length (roles_in h)
within_roles h p at e f =
    let s = some_source (source_at h p) f in
    slice_get_within (roles_in h) (length h.cluster_roles + at) s.0 (among_roles h p at (length h.cluster_roles + at) s.0 e s.1 refl)
