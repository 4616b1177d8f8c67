use Rattle.std.proofs.Common.{◌≡◌, Any, arith}
use Rattle.rbac_paths.specs.Rows.{MatchesRow}
use Rattle.rbac_paths.specs.Takeovers.{HasTakeover, takeover_of}
use Rattle.rbac_paths.proofs.Takeovers.{by_rows}
use Rattle.rbac_paths.proofs.WordsAdded.{adds_each, adds_more, adds_same}
use Rattle.rbac_paths.proofs.takeover.add_of_step.Goals as goal

pub loop-row-preserved : goal.loop-row-preserved
loop-row-preserved c =
    adds_more (λ row t. (takeover_of row ≡ t) × MatchesRow row c.args.rule.now) c.rows-row-items.result.now c.loop-row.row-index c.row-item.result
    c.args.all.now.items c.loop-row.all.items c.add_of_row.new.all.items c.loop-row-test.true c.row-item.is c.loop-row.invariant c.in_ok-add_of_row.ensures

pub returns : goal.returns
returns c =
    let rule = c.args.rule.now in
    let rows = c.rows-row-items.result.now in
    adds_same (λ t. Any (λ row. (takeover_of row ≡ t) × MatchesRow row rule) rows) (λ t. HasTakeover rule t c.args.step.now) (by_rows c.args.step.now rows c.rows-row-items.ensures rule)
    c.args.all.now.items c.loop-row.all.items
    (adds_each (λ row t. (takeover_of row ≡ t) × MatchesRow row rule) rows c.loop-row.row-index c.args.all.now.items c.loop-row.all.items (let end = c.loop-row-test.false in omega (arith, end)) c.loop-row.invariant)
