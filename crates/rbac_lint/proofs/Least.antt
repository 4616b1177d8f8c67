-- the least rule that makes another redundant
use Rattle.std.proofs.Common.{◌≡◌, ℕ, ◌+◌, ◌<◌, List, [], ◌∷◌, ◌++◌, arith, ap, ◌∙◌, refl}
use Rattle.std.specs.Prelude.{Some, slice_get, decimal}
use Rattle.rbac_terms.specs.declared.matching.Rule.{Rule}
use Rattle.rbac_lint.specs.Findings.{MakesRedundantAt, MakesRedundant, IsLeastCover, IsRedundantAt, role_line}
use Rattle.rbac_model.specs.Policies.{Source}
use Rattle.rbac_lint.specs.declared.finding.Finding.{Finding}
use Rattle.rbac_lint.specs.Lines.{shown, AddsLines}
use Rattle.rbac_lint.proofs.Exact.{AddsLines-none, AddsLines-one}

-- none of the first n rules makes it redundant
abbrev pub NoneBelow : List Rule → ℕ → Rule → ℕ → Type 0
NoneBelow rules i b n = (k : ℕ) (z : Rule) → k < n → slice_get rules k ≡ Some z → MakesRedundantAt i b k z → ⊥

-- what one rule adds
least_one : (rules : List Rule) (i j k : ℕ) → IsLeastCover rules i j → IsLeastCover rules i k → j ≡ k
least_one rules i j k p q = omega (arith, p.1 k q.0, q.1 j p.0)

pub AddsLines-redundant : (s : Source) (rules : List Rule) (i j : ℕ) (old new : List Finding) (f : Finding) → IsLeastCover rules i j → f ≡ shown (role_line 3 s (Some i) (decimal (j + 1))) → new ≡ old ++ f ∷ [] → AddsLines (IsRedundantAt s rules i) old new
unfolding IsRedundantAt
AddsLines-redundant s rules i j old new f m same e =
    AddsLines-one (IsRedundantAt s rules i) old new f (role_line 3 s (Some i) (decimal (j + 1))) e same (j, m, refl)
    (λ y h. h.2 ∙ ap (λ n. role_line 3 s (Some i) (decimal (n + 1))) (least_one rules i h.0 j h.1 m))

pub AddsLines-not_redundant : (s : Source) (rules : List Rule) (i : ℕ) (old : List Finding) → ((j : ℕ) → MakesRedundant rules i j → ⊥) → AddsLines (IsRedundantAt s rules i) old old
unfolding IsRedundantAt
AddsLines-not_redundant s rules i old never = AddsLines-none (IsRedundantAt s rules i) old (λ x h. never h.0 h.1.0)
