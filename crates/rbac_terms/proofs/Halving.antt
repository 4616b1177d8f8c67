-- a text is looked for in a sorted list by halving it
use Rattle.std.proofs.Common.{◌≡◌, ℕ, List, length, get_or, Contains, ◌↔◌, IsTrue, Result, Ok, Err, refl, ap, arith, inl, inr}
use Rattle.std.specs.Prelude.{is_ok}
use Rattle.std.specs.List.Sorted.{IsSorted, IsSearchInRange, IsBinarySearchResult}
use Rattle.std.specs.Ordering.{ordering_index}
use Rattle.std.proofs.lemmas.Bool.{cases_lt}
use Rattle.std.proofs.lemmas.Cmp.{nat_list_cmp_total, tied_itself}
use Rattle.std.proofs.lemmas.List.Sorted.{searchable_from_sorted, Contains-permutation, IsPermutation-sym}
use Rattle.std.proofs.lemmas.Map.Lookups.{exact_bytes}
use Rattle.rbac_terms.specs.Text.{Text, text_cmp}
use Rattle.rbac_terms.specs.Sorted.{IsSortedCopy}

-- what is looked for is there where an equal text is found, and isn't where none is
pub found_iff : (xs : List Text) (t : Text) (r : Result ℕ ℕ) → IsSorted text_cmp xs → IsSearchInRange r (length xs) → IsBinarySearchResult (λ y. text_cmp y t) xs r → IsTrue (is_ok r) ↔ Contains xs t
found_iff xs t (Ok i) sorted within at = (λ h. (i, within, exact_bytes (get_or xs i t) t (at t)), λ w. refl)
found_iff xs t (Err i) sorted within at =
    let parted = at (searchable_from_sorted nat_list_cmp_total (λ (x : Text). x) xs t sorted) in
    let tied : ordering_index (text_cmp t t) ≡ 1 = ap ordering_index (tied_itself nat_list_cmp_total t) in (
      λ h. cc,
      λ w. elim (cases_lt w.0 i) [
        | inl below ↦
            let less : ordering_index (text_cmp t t) ≡ 0 = rw w.2 at (ap ordering_index (parted.0 w.0 t (omega arith) below)) in
            absurd (omega arith)
        | inr above ↦
            let more : ordering_index (text_cmp t t) ≡ 2 = rw w.2 at (ap ordering_index (parted.1 w.0 t above w.1)) in
            absurd (omega arith)
      ],
    )

-- the sorted groups are the groups
pub among_iff : (given sorted : List Text) (g : Text) (P : Type 0) → IsSortedCopy given sorted → (P ↔ Contains sorted g) → P ↔ Contains given g
among_iff given sorted g P o i = (
  λ p. Contains-permutation sorted given g (IsPermutation-sym given sorted o.1) (i.0 p),
  λ w. i.1 (Contains-permutation given sorted g o.1 w),
)
