use Rattle.std.proofs.Common.{Bool, subst}
use Rattle.rbac_index.specs.HolderViews.{holder_shown}
use Rattle.rbac_cli.specs.HolderLines.{IsHolderLine}
use Rattle.rbac_cli.specs.Meant.{requested_meant}
use Rattle.rbac_cli.proofs.HolderLineLemmas.{told_text}
use Rattle.rbac_cli.proofs.who_can.reason_told.Goals as goal

pub returns : goal.returns
returns c = λ text is.
    let asked = c.args.asked in
    let x = holder_shown c.args.holder in
    let requested = requested_meant asked.any_name asked.target.now in
    let line = subst (λ (why : Bool). IsHolderLine asked.policy.now why asked.verb.now requested x text) c.if-not-asked.false is in
    told_text asked.policy.now asked.verb.now requested x c.why_held.result text (rw c.requested_by-requested.ensures at c.why_held.ensures.first) line
