-- where the entries of a label stand among entries in order
use Rattle.std.proofs.Common.{◌≡◌, ℕ, ◌<◌, ◌≤◌, List, get_or, ap, ◌∙◌, inl, inr, arith, ◌↔◌, Bool, true, false}
use Rattle.std.specs.Prelude.{Some, slice_get}
use Rattle.std.specs.Cmp.Lexicographic.{slice_cmp}
use Rattle.std.specs.Ordering.{is_lt, is_le}
use Rattle.std.specs.List.Sorted.{IsSorted, IsPartitionedBy, IsPartitionPoint}
use Rattle.std.specs.declared.cmp.Ordering.TheVariants.{Equal}
use Rattle.std.proofs.lemmas.Bool.{cases_lt}
use Rattle.std.proofs.lemmas.Cmp.{nat_list_cmp_total, lists_total, tied_itself}
use Rattle.std.proofs.lemmas.List.Sorted.{searchable_from_sorted}
use Rattle.std.proofs.lemmas.Option.{slice_get_within, get_or_from_slice_get}
use Rattle.rbac_terms.specs.Text.{Text, text_cmp}
use Rattle.rbac_terms.proofs.Orderings.{lt_back, le_back, between_is}
use Rattle.rbac_model.specs.Lists.{by_name}
use Rattle.rbac_model.specs.Labelled.{LabelEntry}
use Rattle.rbac_model.proofs.NamePlaces.{exact_names}

module _ (xs : List LabelEntry) (up : IsSorted (by_name (λ e. e.label)) xs) (asked : List Text) where
  pub parted_before : IsPartitionedBy (λ (e : LabelEntry). is_lt (slice_cmp text_cmp e.label asked)) xs
  parted_before i j d le lt e = lt_back (slice_cmp text_cmp (get_or xs i d).label asked) (slice_cmp text_cmp (get_or xs j d).label asked) (searchable_from_sorted (lists_total nat_list_cmp_total) (λ (x : LabelEntry). x.label) xs asked up i j d le lt) e

  pub parted_upto : IsPartitionedBy (λ (e : LabelEntry). is_le (slice_cmp text_cmp e.label asked)) xs
  parted_upto i j d le lt e = le_back (slice_cmp text_cmp (get_or xs i d).label asked) (slice_cmp text_cmp (get_or xs j d).label asked) (searchable_from_sorted (lists_total nat_list_cmp_total) (λ (x : LabelEntry). x.label) xs asked up i j d le lt) e

-- on which side of a point an entry stands
module _ (xs : List LabelEntry) (p : LabelEntry → Bool) (point : ℕ) (parted : IsPartitionPoint (λ b. p b ≡ true) (λ b. p b ≡ false) xs point) (at : ℕ) (b : LabelEntry) (there : slice_get xs at ≡ Some b) where
  before_point : at < point → p b ≡ true
  before_point lt = rw (get_or_from_slice_get xs at b b there) at (parted.0 at b (omega arith) lt)

  past_point : point ≤ at → p b ≡ false
  past_point le = rw (get_or_from_slice_get xs at b b there) at (parted.1 at b le (slice_get_within xs at b there))

  point_past : p b ≡ true → at < point
  point_past e = elim (cases_lt at point) [ inl l ↦ l | inr l ↦ let f = past_point l in cc ]

  point_before : p b ≡ false → point ≤ at
  point_before e = elim (cases_lt at point) [ inl l ↦ (let f = before_point l in cc) | inr l ↦ l ]

pub between_points : (xs : List LabelEntry) (asked : List Text) (first last : ℕ)
    → IsPartitionPoint (λ (b : LabelEntry). is_lt (slice_cmp text_cmp b.label asked) ≡ true) (λ (b : LabelEntry). is_lt (slice_cmp text_cmp b.label asked) ≡ false) xs first
    → IsPartitionPoint (λ (b : LabelEntry). is_le (slice_cmp text_cmp b.label asked) ≡ true) (λ (b : LabelEntry). is_le (slice_cmp text_cmp b.label asked) ≡ false) xs last
    → (at : ℕ) (b : LabelEntry) → slice_get xs at ≡ Some b → ((first ≤ at) × (at < last)) ↔ (b.label ≡ asked)
between_points xs asked first last before upto at b there =
    let lt : LabelEntry → Bool = λ c. is_lt (slice_cmp text_cmp c.label asked) in
    let le : LabelEntry → Bool = λ c. is_le (slice_cmp text_cmp c.label asked) in (
      λ within. exact_names b.label asked (between_is (slice_cmp text_cmp b.label asked) (past_point xs lt first before at b there within.0) (before_point xs le last upto at b there within.1)),
      λ e.
          let tied : slice_cmp text_cmp b.label asked ≡ Equal = ap (λ (m : List Text). slice_cmp text_cmp m asked) e ∙ tied_itself (lists_total nat_list_cmp_total) asked in
          (point_before xs lt first before at b there (ap is_lt tied), point_past xs le last upto at b there (ap is_le tied)),
    )
