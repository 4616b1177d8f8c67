use Rattle.std.proofs.Common.{List, Bor, refl, subst, sym}
use Rattle.rbac_terms.specs.declared.matching.Rule.{Rule}
use Rattle.rbac_terms.proofs.Cases.{on_ok}
use Rattle.rbac_diff.specs.Sharing.{AreSharing}
use Rattle.rbac_diff.specs.declared.finding.Search.{Search}
use Rattle.rbac_diff.proofs.SharingRules.{narrowed}
use Rattle.rbac_diff.proofs.finding.add_of_rule.Goals as goal

pub returns : goal.returns
returns c =
    let s = c.args.search.now in
    let r = c.args.rule.now in
    let n : Search = record { origin = s.origin; namespace = s.namespace; principal = s.principal; others = c.as_slice-2.result; ordered = c.as_slice-3.result } in
    let are = subst (λ (rs : List (Bor Rule)). AreSharing s.others.now r rs) (sym c.as_slice-2.ensures.value) c.in_ok-near.ensures in
    on_ok c.add_of_verbs.result (narrowed s n r c.args.findings.now c.add_of_verbs.new.findings refl refl refl are) c.add_of_verbs.ensures
