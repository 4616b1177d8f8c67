use Rattle.std.proofs.Common.{◌≡◌, subst}
use Rattle.rbac_terms.specs.Text.{Text}
use Rattle.rbac_lint.specs.Candidates.{AddsUnder}
use Rattle.rbac_lint.proofs.Looked.{all_matching}
use Rattle.rbac_lint.proofs.candidates.matching.Goals as goal

pub returns : goal.returns
returns c =
    let m = c.args.lists.now in
    let own = c.add_under.new.self in
    let every = c.add_under-2.new.self in
    all_matching m c.args.word.now c.new-candidates.result own every c.add_of_each.new.candidates c.new-candidates.ensures c.in_ok-add_under.ensures
    (subst (λ (x : Text). AddsUnder m (λ u. u ≡ x) own every) c.in_ok-every.ensures c.in_ok-add_under-2.ensures)
    c.in_ok-add_of_each.ensures
