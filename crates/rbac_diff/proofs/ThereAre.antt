-- there is a list of changes
use Rattle.std.proofs.Common.{◌≡◌, List, [], ◌∷◌, ◌⊎◌, Contains, AllPairs, inl, inr, zero, suc, refl, sym, ap, ◌∙◌, subst, arith, slice_get}
use Rattle.std.specs.Bool.{⊤}
use Rattle.std.specs.List.{flat_map, AllByRecursion}
use Rattle.std.specs.Ordering.{match_ordering, ordering_reverse}
use Rattle.std.specs.declared.cmp.Ordering.{Ordering}
use Rattle.std.specs.declared.cmp.Ordering.TheVariants.{Less, Equal, Greater}
use Rattle.std.proofs.lemmas.Bool.{cases_order}
use Rattle.std.proofs.lemmas.Cmp.{nat_list_cmp_total}
use Rattle.std.proofs.lemmas.List.Kept.{AllPairs-cons}
use Rattle.std.proofs.lemmas.List.Elements.{All-from_recursion}
use Rattle.std.proofs.lemmas.Map.Lookups.{exact_bytes}
use Rattle.std.proofs.lemmas.Option.{same_Some}
use Rattle.rbac_terms.specs.Text.{Text, text_cmp}
use Rattle.rbac_terms.specs.Principals.{given_of}
use Rattle.rbac_terms.specs.declared.granting.Binding.{Binding}
use Rattle.rbac_model.specs.Policies.{PolicyView, IsPolicy, GrantView}
use Rattle.rbac_model.proofs.Decided.{Decided}
use Rattle.rbac_diff.specs.Permissions.{PermissionView, HasPermission, IsFirstWith}
use Rattle.rbac_diff.specs.Requests.{IsGained}
use Rattle.rbac_diff.specs.Covering.{IsCovered}
use Rattle.rbac_diff.specs.Changes.{ChangeView, IsChangeBetween, IsChangeOf, AreChanges}
use Rattle.rbac_diff.specs.Texts.{permission_text}
use Rattle.rbac_diff.specs.declared.change.ChangeKind.{ChangeKind}
use Rattle.rbac_diff.specs.declared.change.ChangeKind.TheVariants.{Gained, Lost}
use Rattle.rbac_diff.proofs.Bindings.{none_given}
use Rattle.rbac_diff.proofs.Candidates.{candidates, is_candidate}
use Rattle.rbac_diff.proofs.Covered.{gained_is_asked, no_more_covers}
use Rattle.rbac_diff.proofs.CoveredWords.{covers_itself}
use Rattle.rbac_diff.proofs.Deciding.{gained}
use Rattle.rbac_diff.proofs.Gained.{gained_exactly}
use Rattle.rbac_diff.proofs.Texts.{permission_text-one}

-- ---- a change is told by its text

record HasOne (policy : PolicyView) (p : PermissionView) : Type 0 where
  grant : GrantView
  among : Contains policy.grants grant
  has : HasPermission p grant

has_one : (policy : PolicyView) (p : PermissionView) (b : Binding) → IsFirstWith policy p b → HasOne policy p
has_one policy p b w = let h = w.1.holds in record { grant = h.1; among = (h.0, h.2, h.3); has = h.4.1 }

alone : (policy : PolicyView) (p : PermissionView) → HasOne policy p → given_of p.principal ≡ []
alone policy p h = let a = h.has.principal in none_given h.grant.binding.namespace a.1 p.principal a.4

one_first : (policy : PolicyView) (p : PermissionView) (b c : Binding) → IsFirstWith policy p b → IsFirstWith policy p c → b ≡ c
one_first policy p b c v w = elim (cases_order v.0 w.0) [
  | inl e ↦ same_Some b c (sym v.1.here ∙ ap (slice_get policy.held.bindings) e ∙ w.1.here)
  | inr (inl low) ↦ absurd (w.1.none_before v.0 b low v.1.here v.1.holds)
  | inr (inr low) ↦ absurd (v.1.none_before w.0 c low w.1.here w.1.holds)
]

module _ (before after : PolicyView) (ok : IsPolicy before) (also : IsPolicy after) where
  same_permission : (p q : PermissionView) (b c : Binding) → IsGained before after p → IsFirstWith after p b → IsGained before after q → IsFirstWith after q c → permission_text p ≡ permission_text q → p ≡ q
  same_permission p q b c gains first also_gains second e =
      let h = has_one after p b first in
      let i = has_one after q c second in
      permission_text-one p q (alone after p h) (alone after q i) (gained_is_asked before after p h.grant h.has gains) (gained_is_asked before after q i.grant i.has also_gains) e

  one_gained : (p q : PermissionView) (b c : Binding) → IsGained before after p → IsFirstWith after p b → IsGained before after q → IsFirstWith after q c → permission_text p ≡ permission_text q → b ≡ c
  one_gained p q b c gains first also_gains second e =
      let same = same_permission p q b c gains first also_gains second e in
      one_first after p b c first (subst (λ r. IsFirstWith after r c) (sym same) second)

  -- nothing is gained and lost
  not_both : (p q : PermissionView) (b c : Binding) → IsGained before after p → IsFirstWith after p b → IsGained after before q → IsFirstWith before q c → permission_text p ≡ permission_text q → ⊥
  not_both p q b c gains first loses second e =
      let h = has_one after p b first in
      let i = has_one before q c second in
      let asked = gained_is_asked before after p h.grant h.has gains in
      let lost_asked = gained_is_asked after before q i.grant i.has loses in
      let same : p ≡ q = permission_text-one p q (alone after p h) (alone before q i) asked lost_asked e in
      let covered : IsCovered before q = (i.among.0, i.grant, i.among.1, i.among.2, no_more_covers q i.grant i.grant i.has lost_asked refl (λ s is. is) (covers_itself i.grant.rule.rule)) in
      ((gained_exactly before after ok also p h.grant h.among h.has).0 gains).1 (subst (IsCovered before) (sym same) covered)

abbrev change_as : ChangeKind → Text → Binding → ChangeView
change_as k t b = record { kind = k; permission = t; binding = b }

module _ (before after : PolicyView) (ok : IsPolicy before) (also : IsPolicy after) where
  of_parts : (k l : ChangeKind) (p q : PermissionView) (b c : Binding) → IsChangeOf k before after p b → IsChangeOf l before after q c → permission_text p ≡ permission_text q → change_as k (permission_text p) b ≡ change_as l (permission_text q) c
  of_parts Gained Gained p q b c x y e = λ i. change_as Gained (e i) (one_gained before after ok also p q b c x.0 x.1 y.0 y.1 e i)
  of_parts Gained Lost p q b c x y e = absurd (not_both before after ok also p q b c x.0 x.1 y.0 y.1 e)
  of_parts Lost Gained p q b c x y e = absurd (not_both before after ok also q p c b y.0 y.1 x.0 x.1 (sym e))
  of_parts Lost Lost p q b c x y e = λ i. change_as Lost (e i) (one_gained after before also ok p q b c x.0 x.1 y.0 y.1 e i)

  one_change : (x y : ChangeView) → IsChangeBetween before after x → IsChangeBetween before after y → x.permission ≡ y.permission → x ≡ y
  one_change x y is are e =
      ap (λ t. change_as x.kind t x.binding) is.1
      ∙ of_parts x.kind y.kind is.0 are.0 x.binding y.binding is.2 are.2 (sym is.1 ∙ e ∙ are.1)
      ∙ ap (λ t. change_as y.kind t y.binding) (sym are.1)

-- ---- lists of changes in order

abbrev IsBelow : ChangeView → ChangeView → Type 0
IsBelow x y = text_cmp x.permission y.permission ≡ Less

abbrev Ascend : List ChangeView → Type 0
Ascend [] = ⊤
Ascend (x ∷ xs) = AllByRecursion (IsBelow x) xs × Ascend xs

abbrev IsIn : ChangeView → List ChangeView → Type 0
IsIn z [] = ⊥
IsIn z (x ∷ xs) = (x ≡ z) ⊎ IsIn z xs

as_contained : (z : ChangeView) (xs : List ChangeView) → IsIn z xs → Contains xs z
as_contained z [] is = absurd is
as_contained z (x ∷ xs) (inl e) = (zero, omega arith, e)
as_contained z (x ∷ xs) (inr is) = let c = as_contained z xs is in (suc c.0, omega (arith, c.1), c.2)

as_in : (z : ChangeView) (xs : List ChangeView) → Contains xs z → IsIn z xs
as_in z [] c = absurd (omega (arith, c.1))
as_in z (x ∷ xs) (zero, l, e) = inl e
as_in z (x ∷ xs) (suc k, l, e) = inr (as_in z xs (k, omega arith, e))

below_all : (x y : ChangeView) (ys : List ChangeView) → IsBelow x y → AllByRecursion (IsBelow y) ys → AllByRecursion (IsBelow x) ys
below_all x y [] less all = tt
below_all x y (z ∷ ys) less all = (nat_list_cmp_total.trans x.permission y.permission z.permission less all.0, below_all x y ys less all.1)

-- where a change goes among changes in order, unless one with its text is there
abbrev put_by : Ordering → ChangeView → ChangeView → List ChangeView → List ChangeView → List ChangeView
put_by o x y ys more = match_ordering o (x ∷ y ∷ ys) (y ∷ ys) (y ∷ more)

abbrev put : ChangeView → List ChangeView → List ChangeView
put x [] = x ∷ []
put x (y ∷ ys) = put_by (text_cmp x.permission y.permission) x y ys (put x ys)

all_put_by : (P : ChangeView → Type 0) (o : Ordering) (x y : ChangeView) (ys more : List ChangeView) → P x → AllByRecursion P (y ∷ ys) → AllByRecursion P more → AllByRecursion P (put_by o x y ys more)
all_put_by P Less x y ys more p all later = (p, all)
all_put_by P Equal x y ys more p all later = all
all_put_by P Greater x y ys more p all later = (all.0, later)

all_put : (P : ChangeView → Type 0) (x : ChangeView) (ys : List ChangeView) → P x → AllByRecursion P ys → AllByRecursion P (put x ys)
all_put P x [] p all = (p, tt)
all_put P x (y ∷ ys) p all = all_put_by P (text_cmp x.permission y.permission) x y ys (put x ys) p all (all_put P x ys p all.1)

ascend_put_by : (o : Ordering) (x y : ChangeView) (ys : List ChangeView) → text_cmp x.permission y.permission ≡ o → Ascend (y ∷ ys) → Ascend (put x ys) → Ascend (put_by o x y ys (put x ys))
ascend_put_by Less x y ys e up later = ((e, below_all x y ys e up.0), up)
ascend_put_by Equal x y ys e up later = up
ascend_put_by Greater x y ys e up later =
    (all_put (IsBelow y) x ys (nat_list_cmp_total.antisymm y.permission x.permission ∙ ap ordering_reverse e) up.0, later)

ascend_put : (x : ChangeView) (ys : List ChangeView) → Ascend ys → Ascend (put x ys)
ascend_put x [] up = (tt, tt)
ascend_put x (y ∷ ys) up = ascend_put_by (text_cmp x.permission y.permission) x y ys refl up (ascend_put x ys up.1)

keeps_by : (o : Ordering) (x y z : ChangeView) (ys more : List ChangeView) → (IsIn z ys → IsIn z more) → IsIn z (y ∷ ys) → IsIn z (put_by o x y ys more)
keeps_by Less x y z ys more later is = inr is
keeps_by Equal x y z ys more later is = is
keeps_by Greater x y z ys more later (inl e) = inl e
keeps_by Greater x y z ys more later (inr is) = inr (later is)

put_keeps : (x z : ChangeView) (ys : List ChangeView) → IsIn z ys → IsIn z (put x ys)
put_keeps x z [] is = absurd is
put_keeps x z (y ∷ ys) is = keeps_by (text_cmp x.permission y.permission) x y z ys (put x ys) (put_keeps x z ys) is

has_by : (o : Ordering) (x y : ChangeView) (ys more : List ChangeView) → text_cmp x.permission y.permission ≡ o → (x.permission ≡ y.permission → x ≡ y) → IsIn x more → IsIn x (put_by o x y ys more)
has_by Less x y ys more e one later = inl refl
has_by Equal x y ys more e one later = inl (sym (one (exact_bytes x.permission y.permission e)))
has_by Greater x y ys more e one later = inr later

put_has : (x : ChangeView) (ys : List ChangeView) → ((y : ChangeView) → IsIn y ys → x.permission ≡ y.permission → x ≡ y) → IsIn x (put x ys)
put_has x [] one = inl refl
put_has x (y ∷ ys) one = has_by (text_cmp x.permission y.permission) x y ys (put x ys) refl (one y (inl refl)) (put_has x ys (λ z is same. one z (inr is) same))

only_by : (o : Ordering) (x y z : ChangeView) (ys more : List ChangeView) → (IsIn z more → (x ≡ z) ⊎ IsIn z ys) → IsIn z (put_by o x y ys more) → (x ≡ z) ⊎ IsIn z (y ∷ ys)
only_by Less x y z ys more later is = is
only_by Equal x y z ys more later is = inr is
only_by Greater x y z ys more later (inl e) = inr (inl e)
only_by Greater x y z ys more later (inr is) = elim (later is) [ inl e ↦ inl e | inr w ↦ inr (inr w) ]

put_only : (x z : ChangeView) (ys : List ChangeView) → IsIn z (put x ys) → (x ≡ z) ⊎ IsIn z ys
put_only x z [] is = is
put_only x z (y ∷ ys) is = only_by (text_cmp x.permission y.permission) x y z ys (put x ys) (put_only x z ys) is

in_order : (xs : List ChangeView) → Ascend xs → AllPairs (λ x y. text_cmp x.permission y.permission ≡ Less) xs
in_order [] up = λ i j d l k. absurd (omega (arith, k))
in_order (x ∷ xs) up = AllPairs-cons (λ a b. text_cmp a.permission b.permission ≡ Less) x xs (All-from_recursion (IsBelow x) xs up.0) (in_order xs up.1)

first_or_later : (p : PermissionView) (ps : List PermissionView) (q : PermissionView) → Contains (p ∷ ps) q → (p ≡ q) ⊎ Contains ps q
first_or_later p ps q (zero, l, e) = inl e
first_or_later p ps q (suc k, l, e) = inr (k, omega arith, e)

-- ---- all changes

module _ (before after : PolicyView) (ok : IsPolicy before) (also : IsPolicy after) where
  record Built (xs : List ChangeView) : Type 0 where
    up : Ascend xs
    only : (x : ChangeView) → IsIn x xs → IsChangeBetween before after x

  decide : (k : ChangeKind) (p : PermissionView) → Decided ((b : Binding) × IsChangeOf k before after p b)
  decide Gained p = gained before after ok also p
  decide Lost p = gained after before also ok p

  built_more : (x : ChangeView) (xs : List ChangeView) → IsChangeBetween before after x → Built xs → Built (put x xs)
  built_more x xs is b = record {
    up = ascend_put x xs b.up;
    only = λ z w. elim (put_only x z xs w) [ inl e ↦ subst (IsChangeBetween before after) e is | inr v ↦ b.only z v ];
  }

  -- what the permissions of a list give, besides what was there
  record More (k : ChangeKind) (ps : List PermissionView) (old : List ChangeView) : Type 0 where
    changes : List ChangeView
    built : Built changes
    kept : (z : ChangeView) → IsIn z old → IsIn z changes
    all : (p : PermissionView) (b : Binding) → Contains ps p → IsChangeOf k before after p b → IsIn (change_as k (permission_text p) b) changes

  gather : (k : ChangeKind) (ps : List PermissionView) (old : List ChangeView) → Built old → More k ps old
  gather k [] old b = record { changes = old; built = b; kept = λ z is. is; all = λ p c w is. absurd (omega (arith, w.1)) }
  gather k (p ∷ ps) old b = elim (decide k p) [
    | inl w ↦
        let x = change_as k (permission_text p) w.0 in
        let is : IsChangeBetween before after x = (p, refl, w.1) in
        let rest = gather k ps (put x old) (built_more x old is b) in
        let here : IsIn x rest.changes = rest.kept x (put_has x old (λ y own same. one_change before after ok also x y is (b.only y own) same)) in
        record {
          changes = rest.changes;
          built = rest.built;
          kept = λ z own. rest.kept z (put_keeps x z old own);
          all = λ q c among change. elim (first_or_later p ps q among) [
            | inl e ↦ (let same : permission_text p ≡ permission_text q = ap permission_text e in
                subst (λ y. IsIn y rest.changes) (one_change before after ok also x (change_as k (permission_text q) c) is (q, refl, change) same) here)
            | inr later ↦ rest.all q c later change
          ];
        }
    | inr none ↦
        let rest = gather k ps old b in
        record {
          changes = rest.changes;
          built = rest.built;
          kept = rest.kept;
          all = λ q c among change. elim (first_or_later p ps q among) [
            | inl e ↦ absurd (none (c, subst (λ r. IsChangeOf k before after r c) (sym e) change))
            | inr later ↦ rest.all q c later change
          ];
        }
  ]

  pub there_are : (xs : List ChangeView) × AreChanges before after xs
  there_are =
      let new = gather Gained (flat_map candidates after.grants) [] (record { up = tt; only = λ x is. absurd is }) in
      let both = gather Lost (flat_map candidates before.grants) new.changes new.built in (
        both.changes,
        record {
          ordered = in_order both.changes both.built.up;
          exact = λ x. (λ c. both.built.only x (as_in x both.changes c), λ is. as_contained x both.changes (listed new both x is));
        },
      )
    where
      listed_as : (new : More Gained (flat_map candidates after.grants) []) (both : More Lost (flat_map candidates before.grants) new.changes) (k : ChangeKind) (p : PermissionView) (b : Binding) → IsChangeOf k before after p b → IsIn (change_as k (permission_text p) b) both.changes
      listed_as new both Gained p b is =
          let h = has_one after p b is.1 in both.kept _ (new.all p b (is_candidate after.grants h.grant p h.among h.has) is)
      listed_as new both Lost p b is =
          let h = has_one before p b is.1 in both.all p b (is_candidate before.grants h.grant p h.among h.has) is

      listed : (new : More Gained (flat_map candidates after.grants) []) (both : More Lost (flat_map candidates before.grants) new.changes) (x : ChangeView) → IsChangeBetween before after x → IsIn x both.changes
      listed new both x is =
          subst (λ y. IsIn y both.changes) (ap (λ t. change_as x.kind t x.binding) (sym is.1)) (listed_as new both x.kind is.0 x.binding is.2)
