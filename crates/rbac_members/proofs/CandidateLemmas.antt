-- The members of one holder, and those of all holders so far.
use Rattle.std.proofs.Common.{◌≡◌, ◌≢◌, ◌∙◌, ℕ, ◌+◌, ◌<◌, ◌⊎◌, List, [], ◌∷◌, ◌++◌, map, Contains, length, get_or, take, ap, sym, subst, inl, inr, arith, codes}
use Rattle.std.specs.Prelude.{AllPairs, Any}
use Rattle.std.proofs.lemmas.List.{append_cancel_left, get_or_default, get_or-take, length-take}
use Rattle.std.proofs.lemmas.List.Elements.{Contains-append_left, Contains-append_right, Contains-append_cases, Contains-get_or}
use Rattle.std.proofs.lemmas.List.Quantifiers.{Any-push}
use Rattle.rbac_terms.specs.Text.{Text}
use Rattle.rbac_groups.specs.declared.membership.Membership.{Membership}
use Rattle.rbac_index.specs.Holding.{IsEarlier}
use Rattle.rbac_model.specs.Holders.{HolderView}
use Rattle.rbac_model.proofs.Stairs.{take_read}
use Rattle.rbac_universe.proofs.Flattened.{contains_map, in_cons, map_contains, pairs_append, pairs_map}
use Rattle.rbac_members.specs.Candidates.{AreCandidates, AreListedIn, IsListed, IsNotBefore}
use Rattle.rbac_members.specs.Listings.{AreListings, AreOfGroup, ListingView}
use Rattle.rbac_members.specs.Members.{IsMemberAmong, IsMemberOf, member_by}
use Rattle.rbac_members.proofs.Orders.{earlier_before, not_back, users_in_order}

pub no_pairs : {X : Type 0} (R : X → X → Type 0) → AllPairs R []
no_pairs R i j d lt l = absurd (omega arith)

-- ---- the members of one holder

pub nobody_listed : (ls : List ListingView) (x : HolderView) → ((group : Text) → x.key ≢ codes "g:" ++ group) → AreListedIn ls x []
nobody_listed ls x other = record {
  ordered = no_pairs IsNotBefore;
  exact = λ y. (λ w. absurd (omega (arith, w.1)), λ a. absurd (other a.1.group a.4.0));
}

module _ (ls found : List ListingView) (x : HolderView) (group : Text) (is : x.key ≡ codes "g:" ++ group) (of : AreOfGroup ls group found) where
  abbrev user_of : ListingView → HolderView
  user_of l = member_by x l.user

  of_one : (l : ListingView) → Contains found l → l.group ≡ group
  of_one l w = ((of.exact l).0 w).1

  in_order : AllPairs (λ (k l : ListingView). IsNotBefore (user_of k) (user_of l)) found
  in_order i j d lt l =
      users_in_order x (get_or found i d) (get_or found j d)
      (of_one (get_or found i d) (Contains-get_or found i d (omega arith)) ∙ sym (of_one (get_or found j d) (Contains-get_or found j d l)))
      (of.ordered i j d lt l)

  listed_from : (y : HolderView) → Contains (map user_of found) y → Any (IsListed x y) ls
  listed_from y w =
      let (l, inside, e) = contains_map user_of found y w in
      let there = (of.exact l).0 inside in
      (there.0.0, l, there.0.1, there.0.2, (is ∙ ap (λ (g : Text). codes "g:" ++ g) (sym there.1), sym e))

  from_listed : (y : HolderView) → Any (IsListed x y) ls → Contains (map user_of found) y
  from_listed y (k, l, lt, at, (key, e)) =
      let same : group ≡ l.group = append_cancel_left (codes "g:") group l.group (sym is ∙ key) in
      subst (Contains (map user_of found)) (sym e) (map_contains user_of found l ((of.exact l).1 ((k, lt, at), sym same)))

  pub users_listed : AreListedIn ls x (map (λ l. member_by x l.user) found)
  users_listed = record {
    ordered = pairs_map IsNotBefore user_of found in_order;
    exact = λ y. (listed_from y, from_listed y);
  }

-- ---- one more of a list

module _ {X : Type 0} (P : X → Type 0) (xs : List X) (x : X) where
  pub any_split : Any P (xs ++ x ∷ []) → Any P xs ⊎ P x
  any_split (k, y, lt, at, p) = elim (Contains-append_cases xs (x ∷ []) y (k, lt, at)) [
    | inl w ↦ inl (w.0, y, w.1, w.2, p)
    | inr w ↦ elim (in_cons x [] y w) [
      | inl e ↦ inr (subst P (sym e) p)
      | inr v ↦ absurd (omega (arith, v.1))
    ]
  ]

  pub any_still : Any P xs → Any P (xs ++ x ∷ [])
  any_still (k, y, lt, at, p) = let w = Contains-append_left xs (x ∷ []) y (k, lt, at) in (w.0, y, w.1, w.2, p)

-- ---- the members of all holders

pub no_candidates : (ms : List Membership) → AreCandidates ms [] []
no_candidates ms = record {
  ordered = no_pairs IsNotBefore;
  exact = λ y. (λ w. absurd (omega (arith, w.1)), λ a. absurd (omega (arith, a.2)));
}

module _ (ms : List Membership) (ls : List ListingView) (listed : AreListings ms ls) where
  member_listed : (x y : HolderView) → Any (IsListed x y) ls → IsMemberOf ms x y
  member_listed x y (k, l, lt, at, (key, e)) = (l.group, l.user, key, (listed.exact l).0 (k, lt, at), e)

  listed_member : (x y : HolderView) → IsMemberOf ms x y → Any (IsListed x y) ls
  listed_member x y (group, user, key, given, e) =
      let l : ListingView = record { group = group; user = user } in
      let w = (listed.exact l).1 given in
      (w.0, l, w.1, w.2, (key, e))

  module _ (xs : List HolderView) (up : AllPairs IsEarlier xs) (i : ℕ) (x : HolderView) (low : i < length xs) (read : x ≡ get_or xs i x) (ys more : List HolderView) (are : AreCandidates ms (take i xs) ys) (adds : AreListedIn ls x more) where
    grown : take (i + 1) xs ≡ take i xs ++ x ∷ []
    grown = take_read xs i x low read

    -- the members so far are of earlier holders
    across : (a b : HolderView) → Contains ys a → Contains more b → IsNotBefore a b
    across a b w v =
        let (k, z, lt, at, (g, u, key, given, is)) = (are.exact a).0 w in
        let (n, l, high, there, (of, e)) = (adds.exact b).0 v in
        let before : k < i = omega (arith, lt, length-take i xs) in
        let earlier : IsEarlier z x =
        rw (sym (sym (get_or-take i xs k z before) ∙ at), read) (subst (λ (q : HolderView). IsEarlier q (get_or xs i x)) (get_or_default xs k x z (omega arith)) (up k i x before low)) in
        subst (λ (q : HolderView). IsNotBefore q b) (sym is) (subst (λ (q : HolderView). IsNotBefore (member_by z u) q) (sym e) (not_back (member_by z u) (member_by x l.user) (earlier_before (member_by z u) (member_by x l.user) earlier)))

    candidate : (y : HolderView) → Contains (ys ++ more) y → IsMemberAmong ms (take i xs ++ x ∷ []) y
    candidate y w = elim (Contains-append_cases ys more y w) [
      | inl v ↦ any_still (λ (z : HolderView). IsMemberOf ms z y) (take i xs) x ((are.exact y).0 v)
      | inr v ↦ Any-push (λ (z : HolderView). IsMemberOf ms z y) (take i xs) x (member_listed x y ((adds.exact y).0 v))
    ]

    is_candidate : (y : HolderView) → IsMemberAmong ms (take i xs ++ x ∷ []) y → Contains (ys ++ more) y
    is_candidate y a = elim (any_split (λ (z : HolderView). IsMemberOf ms z y) (take i xs) x a) [
      | inl v ↦ Contains-append_left ys more y ((are.exact y).1 v)
      | inr m ↦ Contains-append_right ys more y ((adds.exact y).1 (listed_member x y m))
    ]

    pub more_candidates : AreCandidates ms (take (i + 1) xs) (ys ++ more)
    more_candidates = rw grown (record {
      ordered = pairs_append IsNotBefore ys more are.ordered adds.ordered across;
      exact = λ y. (candidate y, is_candidate y);
    })
