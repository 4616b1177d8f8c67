use Rattle.std.proofs.Common.{◌≡◌, ◌∙◌, sym}
use Rattle.rbac_paths.specs.Rows.{MatchesRow}
use Rattle.rbac_paths.specs.Takeovers.{takeover_of}
use Rattle.rbac_paths.proofs.WordsAdded.{adds_word}
use Rattle.rbac_paths.proofs.takeover.add_of_row.Goals as goal

pub returns-in_ok-push : goal.returns-in_ok-push
returns-in_ok-push c =
    let row = c.args.row.now in
    let rule = c.args.rule.now in
    let matches : MatchesRow row rule = c.matches.ensures.0 c.if-matches.true in
    let is = c.takeover-takeover.ensures in
    rw c.in_ok-push.ensures.items
    (adds_word (λ t. (takeover_of row ≡ t) × MatchesRow row rule) c.takeover-takeover.result
    (λ t. (λ a. sym a.0 ∙ sym is, λ e. (sym is ∙ sym e, matches))) c.args.all.now.items)
