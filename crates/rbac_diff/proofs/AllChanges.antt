-- what was found are all changes, each once
use Rattle.std.proofs.Common.{◌≡◌, ◌<◌, ℕ, List, [], inl, inr, refl, sym, ◌∙◌, ap, subst, arith, Some, None, IsSome, Option, Any, true, false, AllPairs, Contains, ◌∷◌, map, length, option_map, slice_get}
use Rattle.std.specs.BTreeMap.{get, IsOrdered}
use Rattle.std.specs.List.{AllByRecursion}
use Rattle.std.specs.List.Sorted.{IsStrictlySortedBy}
use Rattle.std.specs.Map.{keys_of}
use Rattle.std.specs.Ordering.{is_eq}
use Rattle.std.specs.declared.cmp.Ordering.TheVariants.{Less}
use Rattle.std.proofs.lemmas.Bool.{cases_order}
use Rattle.std.proofs.lemmas.Cmp.{nat_list_cmp_total}
use Rattle.std.proofs.lemmas.List.Kept.{AllPairs-cons}
use Rattle.std.proofs.lemmas.List.Elements.{All-from_recursion}
use Rattle.std.proofs.lemmas.Map.Entries.{place_from_lookup, btree_map_get_place}
use Rattle.std.proofs.lemmas.Map.Lookups.{exact_bytes}
use Rattle.std.proofs.lemmas.Option.{same_Some, slice_get_read, slice_get-map, slice_get_within, get_or_from_slice_get}
use Rattle.rbac_terms.specs.Text.{Text, text_cmp}
use Rattle.rbac_terms.specs.Principals.{given_of}
use Rattle.rbac_terms.specs.declared.granting.Binding.{Binding}
use Rattle.rbac_terms.proofs.Orderings.{equal_from_test}
use Rattle.rbac_model.specs.Policies.{PolicyView, GrantView, IsPolicy}
use Rattle.rbac_diff.specs.Permissions.{PermissionView, HasPermission, HasBy, IsFirstWith}
use Rattle.rbac_diff.specs.Requests.{IsGained}
use Rattle.rbac_diff.specs.Covering.{IsAskedFor, IsCovered}
use Rattle.rbac_diff.specs.Changes.{ChangeView, IsChangeBetween, IsChangeOf, AreChanges}
use Rattle.rbac_diff.specs.Texts.{permission_text}
use Rattle.rbac_diff.specs.Listed.{OriginView, entry_change}
use Rattle.rbac_diff.specs.Finding.{IsGainedAt, FoundChanges, FindsGained}
use Rattle.rbac_diff.specs.declared.change.ChangeKind.{ChangeKind}
use Rattle.rbac_diff.specs.declared.change.ChangeKind.TheVariants.{Gained, Lost}
use Rattle.rbac_diff.proofs.Bindings.{none_given}
use Rattle.rbac_diff.proofs.Covered.{no_more_covers}
use Rattle.rbac_diff.proofs.CoveredWords.{covers_itself}
use Rattle.rbac_diff.proofs.Gained.{gained_exactly}
use Rattle.rbac_diff.proofs.Texts.{permission_text-one}

module _ {X : Type 0} where
  any_at : (P : X → Type 0) (xs : List X) (i : ℕ) (x : X) → slice_get xs i ≡ Some x → P x → Any P xs
  any_at P xs i x e p = (i, x, slice_get_within xs i x e, get_or_from_slice_get xs i x x e, p)

  at_any : (P : X → Type 0) (xs : List X) → (a : Any P xs) → slice_get xs a.0 ≡ Some a.1
  at_any P xs a = slice_get_read xs (length xs) a.0 a.1 refl a.2 (sym a.3)

  some_is : (o : Option X) → IsSome o → (x : X) × (o ≡ Some x)
  some_is None is = absurd (let both : false ≡ true = is in cc)
  some_is (Some x) is = (x, refl)

-- a binding's permission that before doesn't allow, and the first binding that has it
module _ (before after : PolicyView) (ok : IsPolicy before) (also : IsPolicy after) where
  gained_at_is : (at : ℕ) (p : PermissionView) → IsGainedAt before after at p → IsGained before after p
  gained_at_is at p h =
      let g = h.grant in
      (gained_exactly before after ok also p g.1 (g.0, slice_get_within after.grants g.0 g.1 g.2, get_or_from_slice_get after.grants g.0 g.1 g.1 g.2) g.4).1 (h.asked, h.missing)

  -- a binding that has a gained permission gains it
  gains_at : (at : ℕ) (b : Binding) (p : PermissionView) → IsGained before after p → slice_get after.held.bindings at ≡ Some b → HasBy after p b → IsGainedAt before after at p
  gains_at at b p gained there a =
      let is = at_any (λ g. (g.binding ≡ b) × HasPermission p g) after.grants a in
      let why = (gained_exactly before after ok also p a.1 (a.0, a.2, a.3) a.4.1).0 gained in
      record {
        grant = (a.0, a.1, is, (a.1, is, there ∙ ap (λ (c : Binding). Some c) (sym a.4.0)), a.4.1);
        asked = why.0;
        missing = why.1;
      }

  has_at : (at : ℕ) (b : Binding) (p : PermissionView) → IsGainedAt before after at p → slice_get after.held.bindings at ≡ Some b → HasBy after p b
  has_at at b p h there =
      let g = h.grant in
      let same : g.3.0 ≡ g.1 = same_Some g.3.0 g.1 (sym g.3.1 ∙ g.2) in
      let own : g.1.binding ≡ b = ap (λ (x : GrantView). x.binding) (sym same) ∙ same_Some g.3.0.binding b (sym g.3.2 ∙ there) in
      any_at (λ x. (x.binding ≡ b) × HasPermission p x) after.grants g.0 g.1 g.2 (own, g.4)

  first_found : (t : Text) (b : Binding) (at : ℕ) (p : PermissionView) → IsGainedAt before after at p → slice_get after.held.bindings at ≡ Some b → t ≡ permission_text p
      → ((k : ℕ) (q : PermissionView) → k < at → IsGainedAt before after k q → t ≡ permission_text q → ⊥) → IsFirstWith after p b
  first_found t b at p h there same first = (
    at,
    record {
      here = there;
      holds = has_at at b p h there;
      none_before = λ k y low is a. first k p low (gains_at k y p (gained_at_is at p h) is a) same;
    },
  )

  -- who a permission is for is given no groups
  alone : (at : ℕ) (p : PermissionView) → IsGainedAt before after at p → given_of p.principal ≡ []
  alone at p h = let a = h.grant.4.principal in none_given h.grant.1.binding.namespace a.1 p.principal a.4

  -- what was found under the text of a gained permission has its first binding
  found_is_first : (t : Text) (b c : Binding) (at : ℕ) (p q : PermissionView) → IsGained before after p → IsFirstWith after p b → t ≡ permission_text p
      → IsGainedAt before after at q → slice_get after.held.bindings at ≡ Some c → t ≡ permission_text q
      → ((k : ℕ) (r : PermissionView) → k < at → IsGainedAt before after k r → t ≡ permission_text r → ⊥) → b ≡ c
  found_is_first t b c at p q gained w same h there same_q first =
      let mine : IsGainedAt before after w.0 p = gains_at w.0 b p gained w.1.here w.1.holds in
      let one : q ≡ p = permission_text-one q p (alone at q h) (alone w.0 p mine) h.asked mine.asked (sym same_q ∙ same) in
      let theirs : IsGainedAt before after at p = subst (λ (r : PermissionView). IsGainedAt before after at r) one h in
      elim (cases_order w.0 at) [
        | inl e ↦ same_Some b c (sym w.1.here ∙ ap (λ (i : ℕ). slice_get after.held.bindings i) e ∙ there)
        | inr less ↦ elim less [
          | inl low ↦ absurd (first w.0 p low mine same)
          | inr low ↦ absurd (w.1.none_before at c low there (has_at at c p theirs there))
        ]
      ]

-- ---- entries in order

below : (k : Text) (es : List (Text × OriginView)) → AllByRecursion (λ q. text_cmp k q ≡ Less) (keys_of es) → AllByRecursion (λ x. text_cmp k x.permission ≡ Less) (map entry_change es)
below k [] h = h
below k (e ∷ es) h = (h.0, below k es h.1)

strict : (es : List (Text × OriginView)) → IsStrictlySortedBy text_cmp (keys_of es) → AllPairs (λ x y. text_cmp x.permission y.permission ≡ Less) (map entry_change es)
unfolding IsStrictlySortedBy
strict [] h = λ i j d l k. absurd (omega (arith, k))
strict (e ∷ es) h = AllPairs-cons (λ x y. text_cmp x.permission y.permission ≡ Less) (entry_change e) (map entry_change es)
    (All-from_recursion (λ x. text_cmp e.0 x.permission ≡ Less) (map entry_change es) (below e.0 es h.0)) (strict es h.1)

mapped : (o : Option (Text × OriginView)) (x : ChangeView) → option_map entry_change o ≡ Some x → (e : Text × OriginView) × (o ≡ Some e) × (entry_change e ≡ x)
mapped None x e = absurd (let both : None ≡ Some x = e in cc)
mapped (Some y) x e = (y, refl, same_Some (entry_change y) x e)

-- ---- both sides

module _ (before after : PolicyView) (ok : IsPolicy before) (also : IsPolicy after) (none m n : FoundChanges) (empty : (t : Text) (y : OriginView) → get text_cmp none t ≡ Some y → ⊥)
    (gained : FindsGained Gained before after (length after.held.bindings) none m) (lost : FindsGained Lost after before (length before.held.bindings) m n) where
  is_change : (t : Text) (y : OriginView) → get text_cmp n t ≡ Some y → IsChangeBetween before after (entry_change (t, y))
  is_change t y e = elim (lost.only t y e) [
    | inl mid ↦ elim (gained.only t y mid) [
      | inl first ↦ absurd (empty t y first)
      | inr new ↦ (let w = new.2 in
          subst (λ (kind : ChangeKind). IsChangeBetween before after (record { kind = kind; permission = t; binding = y.binding })) (sym new.1)
          (w.1, w.5, (gained_at_is before after ok also w.0 w.1 w.3, first_found before after ok also t y.binding w.0 w.1 w.3 w.4 w.5 w.6)))
    ]
    | inr new ↦ (let w = new.2 in
        subst (λ (kind : ChangeKind). IsChangeBetween before after (record { kind = kind; permission = t; binding = y.binding })) (sym new.1)
        (w.1, w.5, (gained_at_is after before also ok w.0 w.1 w.3, first_found after before also ok t y.binding w.0 w.1 w.3 w.4 w.5 w.6)))
  ]

  -- what is gained is found
  gained_found : (t : Text) (b : Binding) (p : PermissionView) → t ≡ permission_text p → IsGained before after p → IsFirstWith after p b → (y : OriginView) × (get text_cmp n t ≡ Some y) × (y.kind ≡ Gained) × (b ≡ y.binding)
  gained_found t b p same is w =
      let mine : IsGainedAt before after w.0 p = gains_at before after ok also w.0 b p is w.1.here w.1.holds in
      let some = some_is (get text_cmp m t) (subst (λ (s : Text). IsSome (get text_cmp m s)) (sym same) (gained.has w.0 p (slice_get_within after.held.bindings w.0 b w.1.here) mine)) in
      elim (gained.only t some.0 some.1) [
        | inl first ↦ absurd (empty t some.0 first)
        | inr new ↦ (let v = new.2 in (some.0, lost.kept t some.0 some.1, new.1, found_is_first before after ok also t b some.0.binding v.0 p v.1 is w same v.3 v.4 v.5 v.6))
      ]

  -- what before has isn't gained
  not_gained : (p : PermissionView) (b : Binding) → IsAskedFor p.target → HasBy before p b → IsCovered before p
  not_gained p b asked a = (a.0, a.1, a.2, a.3, no_more_covers p a.1 a.1 a.4.1 asked refl (λ s is. is) (covers_itself a.1.rule.rule))

  lost_found : (t : Text) (b : Binding) (p : PermissionView) → t ≡ permission_text p → IsGained after before p → IsFirstWith before p b → (y : OriginView) × (get text_cmp n t ≡ Some y) × (y.kind ≡ Lost) × (b ≡ y.binding)
  lost_found t b p same is w =
      let mine : IsGainedAt after before w.0 p = gains_at after before also ok w.0 b p is w.1.here w.1.holds in
      let some = some_is (get text_cmp n t) (subst (λ (s : Text). IsSome (get text_cmp n s)) (sym same) (lost.has w.0 p (slice_get_within before.held.bindings w.0 b w.1.here) mine)) in
      elim (lost.only t some.0 some.1) [
        | inl mid ↦ elim (gained.only t some.0 mid) [
          | inl first ↦ absurd (empty t some.0 first)
          | inr new ↦ (let v = new.2 in
              let one : v.1 ≡ p = permission_text-one v.1 p (alone before after ok also v.0 v.1 v.3) (alone after before also ok w.0 p mine) v.3.asked mine.asked (sym v.5 ∙ same) in
              let theirs : IsGainedAt before after v.0 p = subst (λ (r : PermissionView). IsGainedAt before after v.0 r) one v.3 in
              absurd (theirs.missing (not_gained p b mine.asked w.1.holds)))
        ]
        | inr new ↦ (let v = new.2 in (some.0, some.1, new.1, found_is_first after before also ok t b some.0.binding v.0 p v.1 is w same v.3 v.4 v.5 v.6))
      ]

  -- ---- the list

  in_list : (t : Text) (y : OriginView) → get text_cmp n t ≡ Some y → Contains (map entry_change n.entries) (entry_change (t, y))
  in_list t y e =
      let at = place_from_lookup (λ k. is_eq (text_cmp t k)) n.entries y e in
      let same : t ≡ at.1 = exact_bytes t at.1 (equal_from_test (text_cmp t at.1) at.3) in
      let there : slice_get (map entry_change n.entries) at.0 ≡ Some (entry_change (t, y)) =
      slice_get-map entry_change n.entries at.0 ∙ ap (option_map entry_change) at.2 ∙ ap (λ (k : Text). Some (entry_change (k, y))) (sym same) in
      (at.0, slice_get_within (map entry_change n.entries) at.0 (entry_change (t, y)) there, get_or_from_slice_get (map entry_change n.entries) at.0 (entry_change (t, y)) (entry_change (t, y)) there)

  in_list_as : (x : ChangeView) (kind : ChangeKind) (y : OriginView) → x.kind ≡ kind → get text_cmp n x.permission ≡ Some y → y.kind ≡ kind → x.binding ≡ y.binding → Contains (map entry_change n.entries) x
  in_list_as x kind y is e also_is same =
      let of : ChangeKind → Binding → ChangeView = λ k b. record { kind = k; permission = x.permission; binding = b } in
      let made : entry_change (x.permission, y) ≡ x = ap (λ (k : ChangeKind). of k y.binding) (also_is ∙ sym is) ∙ ap (λ (b : Binding). of x.kind b) (sym same) in
      subst (λ (z : ChangeView). Contains (map entry_change n.entries) z) made (in_list x.permission y e)

  listed_as : (x : ChangeView) (kind : ChangeKind) (p : PermissionView) → x.kind ≡ kind → x.permission ≡ permission_text p → IsChangeOf kind before after p x.binding → Contains (map entry_change n.entries) x
  listed_as x Gained p is same h = let w = gained_found x.permission x.binding p same h.0 h.1 in in_list_as x Gained w.0 is w.1 w.2 w.3
  listed_as x Lost p is same h = let w = lost_found x.permission x.binding p same h.0 h.1 in in_list_as x Lost w.0 is w.1 w.2 w.3

  is_listed : IsOrdered text_cmp n → (x : ChangeView) → Contains (map entry_change n.entries) x → IsChangeBetween before after x
  is_listed up x c =
      let e = mapped (slice_get n.entries c.0) x (sym (slice_get-map entry_change n.entries c.0) ∙ slice_get_read (map entry_change n.entries) (length (map entry_change n.entries)) c.0 x refl c.1 (sym c.2)) in
      subst (λ (z : ChangeView). IsChangeBetween before after z) e.2 (is_change e.0.0 e.0.1 (btree_map_get_place nat_list_cmp_total n c.0 e.0.0 e.0.1 up e.1))

  pub all_changes : IsOrdered text_cmp n → AreChanges before after (map entry_change n.entries)
  all_changes up = record { ordered = strict n.entries up; exact = λ x. (is_listed up x, λ h. listed_as x x.kind h.0 refl h.1 h.2) }
