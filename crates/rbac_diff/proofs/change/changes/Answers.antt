use Rattle.std.proofs.Common.{◌≡◌, ◌∙◌, List, Some, None, sym, ap, subst}
use Rattle.std.specs.Map.{lookup}
use Rattle.std.specs.Ordering.{is_eq}
use Rattle.rbac_terms.specs.Text.{Text, text_cmp}
use Rattle.rbac_diff.specs.Changes.{ChangeView, AreChanges}
use Rattle.rbac_diff.specs.Listed.{OriginView}
use Rattle.rbac_diff.proofs.AllChanges.{all_changes}
use Rattle.rbac_diff.proofs.change.changes.Goals as goal

pub returns-clause-changes : goal.returns-clause-changes
returns-clause-changes c =
    let policies = c.between.ensures.policies in
    let all = all_changes c.args.before.now c.args.after.now policies.0 policies.1 c.new-findings.result c.add_gained.new.findings c.add_gained-2.new.findings
    (λ t y e. (let none = ap (λ (es : List (Text × OriginView)). lookup (λ k. is_eq (text_cmp t k)) es) c.new-findings.ensures.empty in let both : None ≡ Some y = sym none ∙ e in cc))
    c.in_ok-add_gained.ensures c.in_ok-add_gained-2.ensures c.of.ensures.ordered in
    subst (λ (xs : List ChangeView). AreChanges c.args.before.now c.args.after.now xs) (sym c.of.ensures.changes) all
