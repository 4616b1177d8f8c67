-- Where the listings of a group are among sorted listings.
use Rattle.std.proofs.Common.{◌≡◌, ◌∙◌, ℕ, ◌+◌, ◌-◌, ◌<◌, ◌≤◌, ◌↔◌, List, [], Bool, true, false, Contains, length, get_or, take, drop, ap, sym, refl, inl, inr, arith, Less, Equal, Greater, Ordering}
use Rattle.std.specs.Prelude.{AllPairs, Some, slice_get}
use Rattle.std.specs.Ordering.{is_lt, is_le, ordering_then}
use Rattle.std.specs.List.Sorted.{IsSorted, IsPartitionedBy, IsPartitionPoint}
use Rattle.std.proofs.lemmas.Bool.{cases_lt}
use Rattle.std.proofs.lemmas.Cmp.{nat_list_cmp_total, tied_itself}
use Rattle.std.proofs.lemmas.List.{get_or-drop, get_or-take, length-drop, length-take}
use Rattle.std.proofs.lemmas.List.Sorted.{searchable_from_sorted, sorted_far}
use Rattle.std.proofs.lemmas.Map.Lookups.{exact_bytes}
use Rattle.std.proofs.lemmas.Option.{slice_get_within, slice_get-get_or, get_or_from_slice_get}
use Rattle.rbac_terms.specs.Text.{Text, text_cmp}
use Rattle.rbac_terms.proofs.Orderings.{lt_back, le_back, between_is}
use Rattle.rbac_model.specs.Lists.{by_name}
use Rattle.rbac_model.proofs.LastNamed.{ranks}
use Rattle.rbac_members.specs.Listings.{AreOfGroup, ListingView, listing_name}

first_not_less : (o p : Ordering) → is_lt (ordering_then o p) ≡ false → is_lt o ≡ false
first_not_less Less p e = e
first_not_less Equal p e = refl
first_not_less Greater p e = refl

not_both : (o : Ordering) → is_lt o ≡ true → is_le o ≡ false → ⊥
not_both Less e f = cc
not_both Equal e f = cc
not_both Greater e f = cc

module _ (ls : List ListingView) (up : IsSorted (by_name listing_name) ls) (group : Text) where
  groups_up : IsSorted (λ (k l : ListingView). text_cmp k.group l.group) ls
  groups_up k d low high = first_not_less (text_cmp (get_or ls (k + 1) d).group (get_or ls k d).group) _ (up k d low high)

  pub parted_before : IsPartitionedBy (λ (l : ListingView). is_lt (text_cmp l.group group)) ls
  parted_before i j d le lt e = lt_back (text_cmp (get_or ls i d).group group) (text_cmp (get_or ls j d).group group) (searchable_from_sorted nat_list_cmp_total (λ (l : ListingView). l.group) ls group groups_up i j d le lt) e

  pub parted_upto : IsPartitionedBy (λ (l : ListingView). is_le (text_cmp l.group group)) ls
  parted_upto i j d le lt e = le_back (text_cmp (get_or ls i d).group group) (text_cmp (get_or ls j d).group group) (searchable_from_sorted nat_list_cmp_total (λ (l : ListingView). l.group) ls group groups_up i j d le lt) e

-- on which side of a point a listing is
module _ (ls : List ListingView) (p : ListingView → Bool) (point : ℕ) (parted : IsPartitionPoint (λ l. p l ≡ true) (λ l. p l ≡ false) ls point) (at : ℕ) (l : ListingView) (there : slice_get ls at ≡ Some l) where
  before_point : at < point → p l ≡ true
  before_point lt = rw (get_or_from_slice_get ls at l l there) at (parted.0 at l (omega arith) lt)

  past_point : point ≤ at → p l ≡ false
  past_point le = rw (get_or_from_slice_get ls at l l there) at (parted.1 at l le (slice_get_within ls at l there))

  point_past : p l ≡ true → at < point
  point_past e = elim (cases_lt at point) [ inl lt ↦ lt | inr le ↦ let f = past_point le in cc ]

  point_before : p l ≡ false → point ≤ at
  point_before e = elim (cases_lt at point) [ inl lt ↦ (let f = before_point lt in cc) | inr le ↦ le ]

module _ (ls : List ListingView) (group : Text) (first last : ℕ)
    (before : IsPartitionPoint (λ (l : ListingView). is_lt (text_cmp l.group group) ≡ true) (λ (l : ListingView). is_lt (text_cmp l.group group) ≡ false) ls first)
    (upto : IsPartitionPoint (λ (l : ListingView). is_le (text_cmp l.group group) ≡ true) (λ (l : ListingView). is_le (text_cmp l.group group) ≡ false) ls last) where
  pub between_points : (at : ℕ) (l : ListingView) → slice_get ls at ≡ Some l → ((first ≤ at) × (at < last)) ↔ (l.group ≡ group)
  between_points at l there =
      let lt : ListingView → Bool = λ k. is_lt (text_cmp k.group group) in
      let le : ListingView → Bool = λ k. is_le (text_cmp k.group group) in (
        λ within. exact_bytes l.group group (between_is (text_cmp l.group group) (past_point ls lt first before at l there within.0) (before_point ls le last upto at l there within.1)),
        λ e.
            let tied : text_cmp l.group group ≡ Equal = ap (λ (g : Text). text_cmp g group) e ∙ tied_itself nat_list_cmp_total group in
            (point_before ls lt first before at l there (ap is_lt tied), point_past ls le last upto at l there (ap is_le tied)),
      )

  pub in_turn : first ≤ length ls → first ≤ last
  in_turn within = elim (cases_lt last first) [
    | inl lt ↦
        let d : ListingView = record { group = []; user = [] } in
        absurd (not_both (text_cmp (get_or ls last d).group group) (before.0 last d (omega arith) lt) (upto.1 last d (omega arith) (omega arith)))
    | inr le ↦ le
  ]

-- the listings between the points are those of the group
module _ (ls : List ListingView) (up : IsSorted (by_name listing_name) ls) (group : Text) (first last : ℕ) (le : first ≤ last) (within : last ≤ length ls)
    (between : (at : ℕ) (l : ListingView) → slice_get ls at ≡ Some l → ((first ≤ at) × (at < last)) ↔ (l.group ≡ group)) where
  abbrev part : List ListingView
  part = take (last - first) (drop first ls)

  part_length : length part ≡ last - first
  part_length = omega (arith, length-take (last - first) (drop first ls), length-drop first ls)

  part_at : (i : ℕ) (d : ListingView) → i < last - first → get_or part i d ≡ get_or ls (first + i) d
  part_at i d lt = get_or-take (last - first) (drop first ls) i d lt ∙ get_or-drop first ls i d

  part_ordered : AllPairs (λ k l. is_lt (by_name listing_name l k) ≡ false) part
  part_ordered i j d lt l =
      let high : j < last - first = omega (arith, part_length) in
      rw (part_at i d (omega arith), part_at j d high) (sorted_far (λ k l. is_lt (by_name listing_name k l)) (ranks listing_name) ls up (first + i) (first + j) d (omega arith) (omega arith))

  in_part : (l : ListingView) → Contains part l → Contains ls l × (l.group ≡ group)
  in_part l (i, lt, e) =
      let low : i < last - first = omega (arith, part_length) in
      let at : get_or ls (first + i) l ≡ l = sym (part_at i l low) ∙ e in
      let there = slice_get-get_or ls (first + i) l (omega arith) ∙ ap Some at in
      ((first + i, omega arith, at), (between (first + i) l there).0 (omega arith, omega arith))

  part_has : (l : ListingView) → Contains ls l → l.group ≡ group → Contains part l
  part_has l (at, lt, e) same =
      let there = slice_get-get_or ls at l lt ∙ ap Some e in
      let inside = (between at l there).1 same in
      let low : at - first < last - first = omega (arith, inside.0, inside.1) in
      let back : first + (at - first) ≡ at = omega (arith, inside.0) in
      (at - first, omega (arith, part_length, low), part_at (at - first) l low ∙ ap (λ (n : ℕ). get_or ls n l) back ∙ e)

  pub of_group : AreOfGroup ls group part
  of_group = record { ordered = part_ordered; exact = λ l. (in_part l, λ w. part_has l w.0 w.1) }
