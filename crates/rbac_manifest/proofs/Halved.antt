-- a name is looked for in a sorted list by halving it
use Rattle.std.proofs.Common.{◌≡◌, ◌≢◌, ℕ, List, length, get_or, Result, Ok, Err, false, sym, ap, arith, inl, inr}
use Rattle.std.specs.Prelude.{is_ok}
use Rattle.std.specs.List.Sorted.{IsSorted, IsSearchInRange, IsBinarySearchResult}
use Rattle.std.specs.Ordering.{is_eq, ordering_index}
use Rattle.std.proofs.lemmas.Bool.{cases_lt}
use Rattle.std.specs.declared.cmp.Ordering.{Ordering}
use Rattle.std.proofs.lemmas.List.Folds.{list_any_at, list_any_none}
use Rattle.std.proofs.lemmas.List.Sorted.{searchable_from_sorted}
use Rattle.rbac_terms.specs.Text.{Text}
use Rattle.rbac_terms.proofs.Cases.{by_ordering}
use Rattle.rbac_model.proofs.NamePlaces.{total}
use Rattle.rbac_manifest.specs.Names.{name_cmp, has_name}

-- what is looked for is there where an equal name is found, and isn't where none is
pub found_is : (names : List (List Text)) (name : List Text) (r : Result ℕ ℕ) → IsSorted name_cmp names → IsSearchInRange r (length names)
    → IsBinarySearchResult (λ n. name_cmp n name) names r → is_ok r ≡ has_name names name
found_is names name (Ok i) sorted within at = sym (list_any_at (λ n. is_eq (name_cmp n name)) names i name within (ap is_eq (at name)))
found_is names name (Err i) sorted within at =
    let parted = at (searchable_from_sorted (total (λ (t : List Text). t)) (λ (t : List Text). t) names name sorted) in
    let unlike : (o : Ordering) → ordering_index o ≢ 1 → is_eq o ≡ false = λ o ne. by_ordering o (λ e. ap is_eq e) (λ e. absurd (ne (ap ordering_index e))) (λ e. ap is_eq e) in
    sym (list_any_none (λ n. is_eq (name_cmp n name)) names (λ k d l. elim (cases_lt k i) [
      | inl below ↦ let less = ap ordering_index (parted.0 k d (omega arith) below) in unlike (name_cmp (get_or names k d) name) (λ e. omega (arith, less, e))
      | inr above ↦ let more = ap ordering_index (parted.1 k d above l) in unlike (name_cmp (get_or names k d) name) (λ e. omega (arith, more, e))
    ]))
