use Rattle.std.proofs.Common.{List, subst, sym, ap, ◌∙◌}
use Rattle.rbac_model.specs.Policies.{Held, PolicyView}
use Rattle.rbac_model.specs.Lists.{IsAscendingBy}
use Rattle.rbac_manifest.specs.Replaced.{replaced_name}
use Rattle.rbac_manifest.specs.declared.replacement.Replaced.{Replaced}
use Rattle.rbac_lint.specs.Lines.{AddsLines}
use Rattle.rbac_lint.specs.Wanted.{OfWanted}
use Rattle.rbac_lint.specs.Findings.{IsDangling, IsUnused, IsRedundant, IsEscalation, IsAccountWithout, IsStale}
use Rattle.rbac_lint.specs.Replaced.{IsReplaced}
use Rattle.rbac_lint.proofs.AllFound.{all_found}
use Rattle.rbac_lint.proofs.linting.find_all.Goals as goal

pub returns : goal.returns
returns c none =
    let w = c.args.wanted.now in
    let h = c.args.export.now.policy.held in
    let p = ap (λ (v : PolicyView). v.held) c.policy-policy.ensures in
    let e = c.objects-objects.ensures.held ∙ p in
    let b = c.find_dangling.new.found in
    let u = c.find_unused.new.found in
    let r = c.find_redundant.new.found in
    let s = c.find_escalations.new.found in
    let t = c.find_accounts.new.found in
    let z = c.find_stale.new.found in
    let k = c.find_replaced.new.found in
    let P1 : Held → Type 0 = λ v. AddsLines (OfWanted w (IsDangling v)) c.args.found.now b in
    let P2 : Held → Type 0 = λ v. AddsLines (OfWanted w (IsUnused v)) b u in
    let P3 : Held → Type 0 = λ v. AddsLines (OfWanted w (IsRedundant v)) u r in
    let P4 : Held → Type 0 = λ v. AddsLines (OfWanted w (IsEscalation v)) r s in
    let P5 : Held → Type 0 = λ v. AddsLines (OfWanted w (IsAccountWithout v)) s t in
    let P6 : Held → Type 0 = λ v. AddsLines (OfWanted w (IsStale v)) t z in
    let P7 : List Replaced → Type 0 = λ rs. AddsLines (OfWanted w (IsReplaced rs)) z k in
    all_found w h c.args.export.now.replaced c.args.found.now b u r s t z k none
    (subst P1 e c.in_ok-find_dangling.ensures) (subst P2 p c.in_ok-find_unused.ensures) (subst P3 e c.in_ok-find_redundant.ensures)
    (subst P4 e c.in_ok-find_escalations.ensures) (subst P5 e c.in_ok-find_accounts.ensures) (subst P6 p c.in_ok-find_stale.ensures)
    (subst P7 c.replaced.ensures.replaced c.in_ok-find_replaced.ensures)

pub find_replaced-requires : goal.find_replaced-requires
find_replaced-requires c =
    let P : List Replaced → Type 0 = λ rs. IsAscendingBy replaced_name rs in
    subst P (sym c.replaced.ensures.replaced) c.replaced.ensures.ordered
