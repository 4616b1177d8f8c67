-- The entries of a map whose keys are texts, in order of the keys.
use Rattle.std.proofs.Common.{◌≡◌, ◌∷◌, [], AllPairs, List, arith}
use Rattle.std.specs.List.{AllByRecursion}
use Rattle.std.specs.List.Sorted.{IsStrictlySortedBy}
use Rattle.std.specs.Map.{keys_of}
use Rattle.std.specs.declared.cmp.Ordering.TheVariants.{Less}
use Rattle.std.proofs.lemmas.List.Elements.{All-from_recursion}
use Rattle.std.proofs.lemmas.List.Kept.{AllPairs-cons}
use Rattle.rbac_terms.specs.Text.{Text, text_cmp}

below : {X : Type 0} (k : Text) (es : List (Text × X)) → AllByRecursion (λ q. text_cmp k q ≡ Less) (keys_of es) → AllByRecursion (λ e. text_cmp k e.0 ≡ Less) es
below k [] h = h
below k (e ∷ es) h = (h.0, below k es h.1)

pub strict : {X : Type 0} (es : List (Text × X)) → IsStrictlySortedBy text_cmp (keys_of es) → AllPairs (λ x y. text_cmp x.0 y.0 ≡ Less) es
unfolding IsStrictlySortedBy
strict [] h = λ i j d l k. absurd (omega (arith, k))
strict (e ∷ es) h = AllPairs-cons (λ x y. text_cmp x.0 y.0 ≡ Less) e es
    (All-from_recursion (λ x. text_cmp e.0 x.0 ≡ Less) es (below e.0 es h.0)) (strict es h.1)
