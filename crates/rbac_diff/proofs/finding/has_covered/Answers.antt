use Rattle.std.proofs.Common.{◌↔◌, IsTrue, List, Any, subst}
use Rattle.rbac_terms.specs.declared.matching.Rule.{Rule}
use Rattle.rbac_diff.specs.Covering.{CoversWords}
use Rattle.rbac_diff.specs.Shown.{permitted_of}
use Rattle.rbac_diff.proofs.SharingRules.{any_lent}
use Rattle.rbac_diff.proofs.finding.has_covered.Goals as goal

pub returns : goal.returns
returns c =
    let P : Rule → Type 0 = CoversWords c.args.verb.now (permitted_of c.args.target) in
    let told = subst (λ (rs : List Rule). IsTrue c.is_covered.result ↔ Any P rs) c.requires c.is_covered.ensures in
    let lent = any_lent P c.args.search.now.others.now in
    (λ t. lent.0 (told.0 t), λ a. told.1 (lent.1 a))
