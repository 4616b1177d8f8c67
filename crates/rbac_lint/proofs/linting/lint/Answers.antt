use Rattle.std.proofs.Common.{Result, Ok, Err, IfOk, subst}
use Rattle.rbac_manifest.specs.Load.{LoadedView}
use Rattle.rbac_lint.specs.Findings.{AreFindings}
use Rattle.rbac_lint.proofs.Kept.{all_wanted}
use Rattle.rbac_lint.proofs.linting.lint.Goals as goal

if_ok : {T E : Type 0} {P Q : T → Type 0} (r : Result T E) → ((x : T) → P x → Q x) → IfOk r P → IfOk r Q
if_ok (Ok x) f p = f x p
if_ok (Err e) f p = tt

pub returns : goal.returns
returns c =
    let v = c.export.result.now in
    if_ok c.lint_export.result
    (λ found p. subst (λ (l : LoadedView). AreFindings l.policy.held l.replaced found) c.export.ensures ((all_wanted v.policy.held v.replaced found).0 p))
    c.lint_export.ensures
