use Rattle.std.proofs.Common.{◌≡◌, List, subst}
use Rattle.rbac_terms.specs.Text.{Text}
use Rattle.rbac_lint.specs.declared.prefixes.Prefix.{Prefix}
use Rattle.rbac_lint.specs.RulesByWord.{PlaceLists, IsUrlStem}
use Rattle.rbac_lint.specs.Candidates.{AddsUnder, AddsPrefixes}
use Rattle.rbac_lint.proofs.Looked.{prefixes_found}
use Rattle.rbac_lint.proofs.candidates.starting.Goals as goal

pub returns : goal.returns
returns c =
    let l = c.args.by_word.now in
    let w = c.args.word.now in
    let none = c.new-candidates.result in
    let own = c.add_under.new.self in
    let stem = c.stem_of-stem.result.now in
    λ rules is. prefixes_found rules l w stem none own c.add_prefixes.new.candidates is c.new-candidates.ensures
    (subst (λ (t : Text). IsUrlStem t stem) c.as_bytes.ensures c.stem_of-stem.ensures)
    (subst (λ (m : PlaceLists). AddsUnder m (λ u. u ≡ w) none own) c.lists.ensures c.in_ok-add_under.ensures)
    (subst (λ (fs : List Prefix). AddsPrefixes fs stem own c.add_prefixes.new.candidates) c.as_slice.ensures.value c.in_ok-add_prefixes.ensures)
