-- The listings of documents are the users whom the documents list, group by group.
use Rattle.std.proofs.Common.{◌≡◌, List, [], ◌∷◌, Contains, ◌↔◌, inl, inr, zero, suc, ap, subst, refl, arith}
use Rattle.std.specs.List.{flat_map}
use Rattle.std.specs.List.Sorted.{IsSorted, IsPermutation}
use Rattle.std.proofs.lemmas.List.Elements.{Contains-append_left, Contains-append_right, Contains-append_cases}
use Rattle.std.proofs.lemmas.List.Sorted.{IsPermutation-sym, Contains-permutation}
use Rattle.rbac_terms.specs.Text.{Text}
use Rattle.rbac_groups.specs.Memberships.{IsGivenBy}
use Rattle.rbac_groups.specs.declared.membership.Membership.{Membership}
use Rattle.rbac_model.specs.Lists.{by_name}
use Rattle.rbac_universe.proofs.Flattened.{contains_map, map_contains}
use Rattle.rbac_members.specs.Listings.{AreListings, ListingView, listing_in, listing_name, listings_in}

in_document : (m : Membership) (l : ListingView) → Contains (listings_in m) l ↔ ((m.group ≡ l.group) × Contains m.users l.user)
in_document m l = (
  λ w. let (user, listed, e) = contains_map (listing_in m) m.users l w in
      (ap (λ (k : ListingView). k.group) e, subst (Contains m.users) (ap (λ (k : ListingView). k.user) e) listed),
  λ (group, listed). subst (λ (g : Text). Contains (listings_in m) (record { group = g; user = l.user })) group (map_contains (listing_in m) m.users l.user listed),
)

-- the listings of all documents, as they come
given : (ms : List Membership) (l : ListingView) → Contains (flat_map listings_in ms) l → IsGivenBy ms l.user l.group
given [] l w = absurd (omega (arith, w.1))
given (m ∷ ms) l w = elim (Contains-append_cases (listings_in m) (flat_map listings_in ms) l w) [
  | inl c ↦ (0, m, omega arith, refl, (in_document m l).0 c)
  | inr c ↦ let a = given ms l c in (suc a.0, a.1, omega (arith, a.2), a.3, a.4)
]

listed : (ms : List Membership) (l : ListingView) → IsGivenBy ms l.user l.group → Contains (flat_map listings_in ms) l
listed [] l a = absurd (omega (arith, a.2))
listed (m ∷ ms) l (zero, n, lt, e, gives) = Contains-append_left (listings_in m) (flat_map listings_in ms) l ((in_document m l).1 (rw e gives))
listed (m ∷ ms) l (suc k, n, lt, e, gives) = Contains-append_right (listings_in m) (flat_map listings_in ms) l (listed ms l (k, n, omega (arith, lt), e, gives))

-- and once they are sorted
pub sorted_listings : (ms : List Membership) (unsorted sorted : List ListingView) → unsorted ≡ flat_map listings_in ms → IsPermutation unsorted sorted → IsSorted (by_name listing_name) sorted → AreListings ms sorted
sorted_listings ms unsorted sorted all same up = record {
  sorted = up;
  exact = λ l. (
    λ w. given ms l (subst (λ (ls : List ListingView). Contains ls l) all (Contains-permutation sorted unsorted l (IsPermutation-sym unsorted sorted same) w)),
    λ a. Contains-permutation unsorted sorted l same (rw all (listed ms l a)),
  );
}
