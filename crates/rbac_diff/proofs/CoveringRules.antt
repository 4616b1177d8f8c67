-- rules that a rule of the other policy covers
use Rattle.std.proofs.Common.{◌≡◌, ◌<◌, ◌+◌, ◌⊎◌, inl, inr, ℕ, List, Bor, length, get_or, slice_get, arith, sym, ap, ◌∙◌, subst}
use Rattle.std.specs.Prelude.{Some}
use Rattle.std.specs.Option.{option_copied}
use Rattle.std.proofs.lemmas.Bool.{cases_lt}
use Rattle.std.proofs.lemmas.Option.{same_Some, slice_get-get_or}
use Rattle.rbac_model.proofs.OwnWords.{any_weaker}
use Rattle.rbac_covering.specs.Covering.{CoversAll}
use Rattle.rbac_terms.specs.declared.matching.Rule.{Rule}
use Rattle.rbac_diff.specs.Covering.{CoversWords}
use Rattle.rbac_diff.specs.Finding.{FoundChanges, IsOfRule, IsMissing, SearchFinds}
use Rattle.rbac_diff.specs.Permissions.{PermissionView}
use Rattle.rbac_diff.specs.StandIns.{HasCoveringRule, HasRule}
use Rattle.rbac_diff.specs.declared.finding.Search.{Search}
use Rattle.rbac_diff.proofs.CoveredWords.{covers_itself, words_covered}
use Rattle.rbac_diff.proofs.Searching.{finds_none}

-- a rule that stands among some is covered by one of them
pub stands_covers : (rules : List (Bor Rule)) (r : Rule) → HasRule rules r → HasCoveringRule rules r
stands_covers rules r stands = any_weaker (λ (held : Bor Rule). held.now ≡ r) (λ held. CoversAll held.now r) rules (λ held e. subst (CoversAll held.now) e (covers_itself held.now)) stands

-- so none of its permissions is missing
covered_misses_nothing : (s : Search) (r : Rule) → HasCoveringRule s.others.now r → (p : PermissionView) → IsOfRule s r p → IsMissing s.others.now p → ⊥
covered_misses_nothing s r covered p by missing =
    missing.missing (any_weaker (λ (held : Bor Rule). CoversAll held.now r) (λ held. CoversWords p.verb p.target held.now) s.others.now (λ held covers. words_covered (option_copied s.namespace) held.now r p covers by.0 by.1 missing.asked) covered)

pub search_covered : (s : Search) (r : Rule) (m : FoundChanges) → HasCoveringRule s.others.now r → SearchFinds s (IsOfRule s r) m m
search_covered s r m covered = finds_none (λ p. (p.principal ≡ s.principal.now) × IsOfRule s r p × IsMissing s.others.now p) s.origin.now m (λ p h. covered_misses_nothing s r covered p h.1 h.2)

-- rules that cover others one by one, up to some place
abbrev pub CoverUpTo : List Rule → List Rule → ℕ → Type 0
CoverUpTo rules others count = (at : ℕ) (a b : Rule) → at < count → slice_get rules at ≡ Some a → slice_get others at ≡ Some b → CoversAll a b

read_is : (rules : List Rule) (at k : ℕ) (rule a : Rule) → at < length rules → rule ≡ get_or rules at rule → k ≡ at → slice_get rules k ≡ Some a → rule ≡ a
read_is rules at k rule a lt is here x = same_Some rule a (ap (λ (r : Rule). Some r) is ∙ sym (slice_get-get_or rules at rule lt) ∙ ap (slice_get rules) (sym here) ∙ x)

pub cover_more : (rules others : List Rule) (at : ℕ) (rule other : Rule) → at < length rules → at < length others → rule ≡ get_or rules at rule → other ≡ get_or others at other → CoverUpTo rules others at → CoversAll rule other → CoverUpTo rules others (at + 1)
cover_more rules others at rule other lt within is there before covers k a b less x y = elim (cases_lt k at) [
  | inl earlier ↦ before k a b earlier x y
  | inr le ↦
      let here : k ≡ at = omega arith in
      subst (λ (r : Rule). CoversAll a r) (read_is others at k other b within there here y) (subst (λ (r : Rule). CoversAll r other) (read_is rules at k rule a lt is here x) covers)
]
