-- Groups listed under users.
use Rattle.std.proofs.Common.{◌≡◌, ◌≢◌, ◌∙◌, ◌↔◌, ◌⊎◌, ◌+◌, ◌<◌, ◌++◌, ℕ, List, [], ◌∷◌, Bool, true, false, Contains, ap, arith, cond, get_or, inl, inr, length, refl, subst, suc, sym, take, zero}
use Rattle.std.specs.Prelude.{Option, Some, None, unwrap_or}
use Rattle.std.specs.BTreeMap.{get}
use Rattle.std.specs.List.{cons_option}
use Rattle.std.specs.List.Retain.{DiffersFromLast, IsFiltered}
use Rattle.std.specs.List.Sorted.{IsPermutation, IsSorted, IsStrictlySortedBy}
use Rattle.std.specs.Ordering.{is_eq}
use Rattle.std.specs.Set.{is_member}
use Rattle.std.specs.Str.{bytes_eq}
use Rattle.std.specs.declared.cmp.Ordering.TheVariants.{Less}
use Rattle.std.proofs.lemmas.Cmp.{nat_list_cmp_total, nat_list_eq_equiv, tied_itself}
use Rattle.std.specs.Cmp.Lexicographic.{texts_ties}
use Rattle.std.proofs.lemmas.List.{append-nil, get_or-take, length-take, take_more}
use Rattle.std.proofs.lemmas.List.Elements.{Contains-append_left, Contains-append_right, Contains-push_cases, filter_map-append}
use Rattle.std.proofs.lemmas.List.Filters.{dedup_is}
use Rattle.std.proofs.lemmas.List.Kept.{Contains-dedup, Contains-from_dedup, IsStrictlySortedBy-dedup}
use Rattle.std.proofs.lemmas.List.Sorted.{Contains-permutation, IsPermutation-sym}
use Rattle.std.proofs.lemmas.Map.Keys.{Less-from_sorted}
use Rattle.std.proofs.lemmas.Map.Lookups.{exact_bytes}
use Rattle.std.proofs.lemmas.Map.Made.{is_member-Decides}
use Rattle.std.proofs.lemmas.Slice.Eq.{bytes_eq-Decides}
use Rattle.rbac_terms.proofs.Cases.{by_bool}
use Rattle.rbac_terms.proofs.Orderings.{equal_from_test}
use Rattle.rbac_terms.specs.Text.{Text, text_cmp}
use Rattle.rbac_groups.specs.ByUser.{AreGroupsOf, GivesEach, GroupLists, groups_under}
use Rattle.rbac_groups.specs.Memberships.{group_listing, groups_listing}
use Rattle.rbac_groups.specs.declared.membership.Membership.{Membership}
use Rattle.rbac_groups.proofs.Listing.{group_passed, group_taken}

-- ---- one user

tied : (w : Text) → is_eq (text_cmp w w) ≡ true
tied w = ap is_eq (tied_itself nat_list_cmp_total w)

not_tied : (user w : Text) → w ≢ user → is_eq (text_cmp user w) ≡ false
not_tied user w ne = by_bool (is_eq (text_cmp user w)) (λ h. absurd (ne (sym (exact_bytes user w (equal_from_test (text_cmp user w) h))))) (λ h. h)

one_of : (y x : Text) → Contains (y ∷ []) x → y ≡ x
one_of y x (zero, l, e) = e
one_of y x (suc n, l, e) = absurd (omega (arith, l))

-- one user's list gets the group, and no other list changes
pub gives_one : (old new : GroupLists) (user group : Text) (before xs : List Text) → before ≡ groups_under old user → xs ≡ before ++ group ∷ []
    → ((q : Text) → get text_cmp new q ≡ cond (is_eq (text_cmp user q)) (Some xs) (get text_cmp old q)) → GivesEach old new (user ∷ []) group
gives_one old new user group before xs was is reads =
    let here : groups_under new user ≡ xs = ap (λ (o : Option (List Text)). unwrap_or o []) (reads user ∙ ap (λ (b : Bool). cond b (Some xs) (get text_cmp old user)) (tied user)) in
    let gets : groups_under new user ≡ groups_under old user ++ group ∷ [] = here ∙ is ∙ ap (λ (l : List Text). l ++ group ∷ []) was in
    record {
      given = λ w c. subst (λ (u : Text). groups_under new u ≡ groups_under old u ++ group ∷ []) (one_of user w c) gets;
      others = λ w none.
          (let ne : w ≢ user = λ e. none (0, omega arith, sym e) in
          ap (λ (o : Option (List Text)). unwrap_or o []) (reads w ∙ ap (λ (b : Bool). cond b (Some xs) (get text_cmp old w)) (not_tied user w ne)));
    }

-- ---- the users of one document

pub gives_none : (lists : GroupLists) (group : Text) → GivesEach lists lists [] group
gives_none lists group = record {
  given = λ w c. absurd (omega (arith, c.1));
  others = λ w none. refl;
}

-- a user stands at one place alone
not_before : (users : List Text) (i : ℕ) (user : Text) → IsStrictlySortedBy text_cmp users → i < length users → user ≡ get_or users i user → ¬ Contains (take i users) user
not_before users i user up low at (k, l, e) =
    let before : k < i = omega (arith, l, low, length-take i users) in
    let less : text_cmp (get_or users k user) (get_or users i user) ≡ Less = Less-from_sorted text_cmp users k i user up before low in
    let early : get_or users k user ≡ user = sym (get_or-take i users k user before) ∙ e in
    let own : text_cmp user user ≡ Less = rw (early, sym at) at less in
    let tie = tied_itself nat_list_cmp_total user in
    cc

pub gives_more : (old mid new : GroupLists) (users : List Text) (i : ℕ) (user group : Text) → IsStrictlySortedBy text_cmp users → i < length users → user ≡ get_or users i user
    → GivesEach old mid (take i users) group → GivesEach mid new (user ∷ []) group → GivesEach old new (take (i + 1) users) group
gives_more old mid new users i user group up low at before step =
    let more : take (i + 1) users ≡ take i users ++ user ∷ [] = take_more users i user low ∙ ap (λ (x : Text). take i users ++ x ∷ []) (sym at) in
    let fresh = not_before users i user up low at in
    record {
      given = λ w c. elim (Contains-push_cases (take i users) user w (subst (λ (l : List Text). Contains l w) more c)) [
        | inl a ↦ step.others w (λ own. fresh (subst (λ (u : Text). Contains (take i users) u) (sym (one_of user w own)) a)) ∙ before.given w a
        | inr e ↦ step.given w (0, omega arith, e)
            ∙ ap (λ (l : List Text). l ++ group ∷ []) (before.others w (λ a. fresh (subst (λ (u : Text). Contains (take i users) u) (sym e) a)))
      ];
      others = λ w none.
          step.others w (λ own. none (subst (λ (l : List Text). Contains l w) (sym more) (Contains-append_right (take i users) (user ∷ []) w own)))
          ∙ before.others w (λ a. none (subst (λ (l : List Text). Contains l w) (sym more) (Contains-append_left (take i users) (user ∷ []) w a)));
    }

-- a document's users are those that a sort and then a dedup leave
pub strictly_sorted : (sorted once : List Text) → IsSorted text_cmp sorted → IsFiltered (DiffersFromLast bytes_eq) [] sorted once → IsStrictlySortedBy text_cmp once
strictly_sorted sorted once up kept = rw (dedup_is bytes_eq sorted once kept) (IsStrictlySortedBy-dedup nat_list_cmp_total texts_ties sorted up)

same_users : (users sorted once : List Text) → IsPermutation users sorted → IsFiltered (DiffersFromLast bytes_eq) [] sorted once → (w : Text) → Contains once w ↔ Contains users w
same_users users sorted once moved kept w =
    let e = dedup_is bytes_eq sorted once kept in (
      λ h. Contains-permutation sorted users w (IsPermutation-sym users sorted moved) (Contains-from_dedup bytes_eq sorted w (rw e at h)),
      λ h. rw e (Contains-dedup nat_list_eq_equiv (λ x y. (bytes_eq-Decides x y).0) sorted w (Contains-permutation users sorted w moved h)),
    )

pub gives_all : (old new : GroupLists) (users sorted once : List Text) (group : Text) → IsPermutation users sorted → IsFiltered (DiffersFromLast bytes_eq) [] sorted once
    → GivesEach old new once group → GivesEach old new users group
gives_all old new users sorted once group moved kept gives =
    let same = same_users users sorted once moved kept in
    record {
      given = λ w c. gives.given w ((same w).1 c);
      others = λ w none. gives.others w (λ c. none ((same w).0 c));
    }

-- ---- all documents

-- the groups of one document more
listing_more : (ms : List Membership) (m : Membership) (user : Text) (gives : Option Text) (given : List Text) → group_listing user m ≡ gives → cons_option gives [] ≡ given
    → groups_listing (ms ++ m ∷ []) user ≡ groups_listing ms user ++ given
listing_more ms m user gives given is e =
    filter_map-append (group_listing user) ms (m ∷ []) ∙ ap (λ (o : Option Text). groups_listing ms user ++ cons_option o []) is ∙ ap (λ (l : List Text). groups_listing ms user ++ l) e

pub groups_more : (old new : GroupLists) (ms : List Membership) (i : ℕ) (m : Membership) → i < length ms → m ≡ get_or ms i m → AreGroupsOf (take i ms) old
    → GivesEach old new m.users m.group → AreGroupsOf (take (i + 1) ms) new
groups_more old new ms i m low at are gives user =
    let more : take (i + 1) ms ≡ take i ms ++ m ∷ [] = take_more ms i m low ∙ ap (λ (x : Membership). take i ms ++ x ∷ []) (sym at) in
    let decides = is_member-Decides bytes_eq-Decides m.users user in
    rw more
    (by_bool (is_member bytes_eq m.users user)
    (λ is. (let c = decides.0 is in
    gives.given user c ∙ ap (λ (l : List Text). l ++ m.group ∷ []) (are user) ∙ sym (listing_more (take i ms) m user (Some m.group) (m.group ∷ []) (group_taken user m c) refl)))
    (λ isn. (let none : ¬ Contains m.users user = λ c. (let is = decides.1 c in cc) in
    gives.others user none ∙ are user ∙ sym (append-nil (groups_listing (take i ms) user)) ∙ sym (listing_more (take i ms) m user None [] (group_passed user m none) refl))))
