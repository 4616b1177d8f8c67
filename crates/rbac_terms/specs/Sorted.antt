-- texts in byte order
use Rattle.std.specs.Prelude.{List}
use Rattle.std.specs.List.Sorted.{IsSorted, IsPermutation}
use Rattle.rbac_terms.specs.Text.{Text, text_cmp}

-- the second list is the first, sorted (own)
abbrev pub IsSortedCopy : List Text → List Text → Type 0
IsSortedCopy given sorted = IsSorted text_cmp sorted × IsPermutation given sorted
