use Rattle.std.proofs.Common.{◌≡◌, ◌∙◌, IfOk, List, ap, subst, sym}
use Rattle.rbac_diff.specs.Requests.{RequestView}
use Rattle.rbac_use.specs.ByBinding.{AreAskedByBinding}
use Rattle.rbac_use.specs.Requests.{log_of}
use Rattle.rbac_use.specs.Unused.{AreUnused}
use Rattle.rbac_use.specs.declared.request.Request.{Request}
use Rattle.rbac_use.proofs.unused.unused_lines.Goals as goal

pub returns-clause-unused : goal.returns-clause-unused
returns-clause-unused c =
    let p = c.args.policy.now in
    let requests = c.as_slice.result.now in
    let shown : log_of requests ≡ c.args.log.now = ap (λ (rs : List Request). log_of rs) c.as_slice.ensures.value ∙ c.in_ok-requests.ensures in
    let asked = subst (λ (lists : List (List Request)). AreAskedByBinding p requests lists) (sym c.as_slice-2.ensures.value) c.in_ok-asked.ensures in
    subst (λ (log : List RequestView). IfOk c.lines_of.result (λ found. AreUnused p log c.args.skip_system found.items)) shown (c.lines_of.ensures.unused requests asked)
