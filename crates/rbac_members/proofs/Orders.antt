-- What the order of members, and of listings, says.
use Rattle.std.proofs.Common.{◌≡◌, ◌∙◌, ℕ, ◌<◌, List, [], ◌∷◌, Contains, get_or, Bool, false, ap, sym, refl, inl, inr, arith, Less, Equal, Greater, Ordering}
use Rattle.std.specs.Prelude.{AllPairs}
use Rattle.std.specs.Ordering.{MatchOrdering, is_lt, nat_cmp, ordering_reverse, ordering_then}
use Rattle.std.proofs.lemmas.Bool.{cases_order}
use Rattle.std.proofs.lemmas.Cmp.{nat_cmp_total, nat_list_cmp_total, ranked, tied_itself}
use Rattle.std.proofs.lemmas.List.{get_or_default}
use Rattle.rbac_terms.specs.Text.{Text, text_cmp}
use Rattle.rbac_terms.proofs.Cases.{by_ordering}
use Rattle.rbac_terms.proofs.Orderings.{less_alone}
use Rattle.rbac_groups.specs.declared.membership.Membership.{Membership}
use Rattle.rbac_index.specs.Holding.{IsAlike, IsEarlier}
use Rattle.rbac_index.specs.HolderViews.{once_in}
use Rattle.rbac_model.specs.Holders.{HolderView, IsBefore}
use Rattle.rbac_model.specs.Lists.{by_name}
use Rattle.rbac_model.proofs.NamePlaces.{same_name, total}
use Rattle.rbac_members.specs.Candidates.{IsNotBefore}
use Rattle.rbac_members.specs.Listings.{ListingView, listing_name}
use Rattle.rbac_members.specs.Members.{ComesBefore, IsMemberAmong, member_by, member_name}

-- ---- numbers and texts

is_less : (i m : ℕ) (o : Ordering) → MatchOrdering o (i < m) (i ≡ m) (m < i) → i < m → o ≡ Less
is_less i m Less is lt = refl
is_less i m Equal is lt = absurd (omega (arith, is, lt))
is_less i m Greater is lt = absurd (omega (arith, is, lt))

less : (i m : ℕ) → i < m → nat_cmp i m ≡ Less
less i m lt = is_less i m (nat_cmp i m) (ranked i m (nat_cmp i m) refl) lt

after_equal : (o p q : Ordering) → o ≡ Equal → ordering_then o p ≡ q → p ≡ q
after_equal Less p q e f = cc
after_equal Equal p q e f = f
after_equal Greater p q e f = cc

after_less : (o p : Ordering) → o ≡ Less → ordering_then o p ≡ Less
after_less Less p e = refl
after_less Equal p e = cc
after_less Greater p e = cc

equal_then : (o p : Ordering) → o ≡ Equal → ordering_then o p ≡ p
equal_then Less p e = cc
equal_then Equal p e = refl
equal_then Greater p e = cc

-- ---- members of an earlier group come first

places_less : (i j m n : ℕ) → IsBefore i j m n → text_cmp (i ∷ j ∷ []) (m ∷ n ∷ []) ≡ Less
places_less i j m n (inl lt) = after_less (nat_cmp i m) _ (less i m lt)
places_less i j m n (inr (e, lt)) =
    equal_then (nat_cmp i m) (ordering_then (nat_cmp j n) Equal) (ap (λ (k : ℕ). nat_cmp k m) e ∙ tied_itself nat_cmp_total m)
    ∙ after_less (nat_cmp j n) Equal (less j n lt)

pub earlier_before : (a b : HolderView) → IsEarlier a b → ComesBefore a b
earlier_before a b earlier = after_less (text_cmp (a.binding_place ∷ a.subject_place ∷ []) (b.binding_place ∷ b.subject_place ∷ [])) _ (places_less a.binding_place a.subject_place b.binding_place b.subject_place earlier)

pub not_back : (a b : HolderView) → ComesBefore a b → IsNotBefore a b
not_back a b before back = let turned = (total member_name).antisymm b a in cc

pub not_before_itself : (a : HolderView) → ¬ ComesBefore a a
not_before_itself a before = let tied = tied_itself (total member_name) a in cc

-- ---- of one group, members are in order of their names

user_before : (x : HolderView) (u v : Text) → ComesBefore (member_by x u) (member_by x v) → text_cmp u v ≡ Less
user_before x u v before =
    less_alone (text_cmp u v) (after_equal (text_cmp (x.binding_place ∷ x.subject_place ∷ []) (x.binding_place ∷ x.subject_place ∷ [])) _ Less (tied_itself nat_list_cmp_total (x.binding_place ∷ x.subject_place ∷ [])) before)

user_less : (k l : ListingView) → k.group ≡ l.group → is_lt (by_name listing_name l k) ≡ false → text_cmp l.user k.user ≡ Less → ⊥
user_less k l same low lower =
    let tied : text_cmp l.group k.group ≡ Equal = ap (λ (g : Text). text_cmp l.group g) same ∙ tied_itself nat_list_cmp_total l.group in
    let before : by_name listing_name l k ≡ Less = equal_then (text_cmp l.group k.group) (ordering_then (text_cmp l.user k.user) Equal) tied ∙ after_less (text_cmp l.user k.user) Equal lower in
    let is = ap is_lt before in cc

pub users_in_order : (x : HolderView) (k l : ListingView) → k.group ≡ l.group → is_lt (by_name listing_name l k) ≡ false → IsNotBefore (member_by x k.user) (member_by x l.user)
users_in_order x k l same low before = user_less k l same low (user_before x l.user k.user before)

-- ---- two that are in order, and not by one name, come one before the other

pub strictly : (a b : HolderView) → IsNotBefore a b → (member_name a ≡ member_name b → ⊥) → ComesBefore a b
strictly a b in_order differ = by_ordering (by_name member_name a b)
    (λ o. o)
    (λ o. absurd (differ (same_name member_name a b o)))
    (λ o. absurd (in_order ((total member_name).antisymm b a ∙ ap ordering_reverse o)))

pub one_name : (a b : HolderView) → IsNotBefore a b → IsNotBefore b a → member_name a ≡ member_name b
one_name a b in_order back = by_ordering (by_name member_name a b)
    (λ o. absurd (back o))
    (λ o. same_name member_name a b o)
    (λ o. absurd (in_order ((total member_name).antisymm b a ∙ ap ordering_reverse o)))

-- ---- what has one name

name_places : (a b : HolderView) → member_name a ≡ member_name b → (a.binding_place ≡ b.binding_place) × (a.subject_place ≡ b.subject_place) × (a.key ≡ b.key)
name_places a b e = (
  ap (λ (n : List Text). get_or (get_or n 0 []) 0 0) e,
  ap (λ (n : List Text). get_or (get_or n 0 []) 1 0) e,
  ap (λ (n : List Text). get_or n 1 []) e,
)

pub alike_by_name : (every : Bool) (a b : HolderView) → member_name a ≡ member_name b → IsAlike every a b
alike_by_name every a b e = let parts = name_places a b e in (parts.2, ap (once_in every) parts.0)

-- holders with one pair of places are one
one_place : (xs : List HolderView) (x y : HolderView) → AllPairs IsEarlier xs → Contains xs x → Contains xs y → x.binding_place ≡ y.binding_place → x.subject_place ≡ y.subject_place → x ≡ y
one_place xs x y up (i, l, at) (j, k, there) binding subject = elim (cases_order i j) [
  | inl e ↦ sym at ∙ get_or_default xs i x y l ∙ ap (λ (n : ℕ). get_or xs n y) e ∙ there
  | inr d ↦ elim d [
    | inl lt ↦ absurd (none (up i j x lt k) at (get_or_default xs j x y k ∙ there))
    | inr lt ↦ absurd (none_back (up j i x lt l) (get_or_default xs j x y k ∙ there) at)
  ]
] where
  not_earlier : IsEarlier x y → ⊥
  not_earlier (inl lt) = omega (arith, binding, lt)
  not_earlier (inr e) = omega (arith, subject, e.1)

  not_later : IsEarlier y x → ⊥
  not_later (inl lt) = omega (arith, binding, lt)
  not_later (inr e) = omega (arith, subject, e.1)

  none : IsEarlier (get_or xs i x) (get_or xs j x) → get_or xs i x ≡ x → get_or xs j x ≡ y → ⊥
  none earlier a b = not_earlier (rw (a, b) at earlier)

  none_back : IsEarlier (get_or xs j x) (get_or xs i x) → get_or xs j x ≡ y → get_or xs i x ≡ x → ⊥
  none_back earlier b a = not_later (rw (b, a) at earlier)

-- so members with one name are one
pub one_member : (ms : List Membership) (xs : List HolderView) (a b : HolderView) → AllPairs IsEarlier xs → IsMemberAmong ms xs a → IsMemberAmong ms xs b → member_name a ≡ member_name b → a ≡ b
one_member ms xs a b up (i, x, l, at, (g, u, of, given, is)) (j, y, k, there, (h, v, by, listed, are)) e =
    let parts = name_places a b e in
    let binding : x.binding_place ≡ y.binding_place = sym (ap (λ (z : HolderView). z.binding_place) is) ∙ parts.0 ∙ ap (λ (z : HolderView). z.binding_place) are in
    let subject : x.subject_place ≡ y.subject_place = sym (ap (λ (z : HolderView). z.subject_place) is) ∙ parts.1 ∙ ap (λ (z : HolderView). z.subject_place) are in
    let one : x ≡ y = one_place xs x y up (i, l, at) (j, k, there) binding subject in
    let keys : (member_by x u).key ≡ (member_by y v).key = sym (ap (λ (z : HolderView). z.key) is) ∙ parts.2 ∙ ap (λ (z : HolderView). z.key) are in
    is ∙ ap (λ (t : Text). record x { key = t }) keys ∙ ap (λ (z : HolderView). record z { key = (member_by y v).key }) one ∙ sym are
