use Rattle.std.proofs.Common.{◌≡◌, ◌∙◌, ◌++◌, ap, arith, refl}
use Rattle.std.specs.Slice.Iter.{iter_rest}
use Rattle.rbac_terms.specs.Text.{Text}
use Rattle.rbac_index.specs.HolderViews.{holder_shown}
use Rattle.rbac_cli.specs.HolderLines.{joined_lines}
use Rattle.rbac_cli.specs.Meant.{requested_meant}
use Rattle.rbac_cli.proofs.HolderLineLemmas.{line_at}
use Rattle.rbac_cli.proofs.who_can.HolderLinesLines.put_next.Goals as goal

pub returns-then-place-len : goal.returns-then-place-len
returns-then-place-len c =
    let it = c.args.self.now in
    let asked = it.asked in
    let x = holder_shown c.get.result in (
      tt,
      omega (arith, c.if-place-len.true, c.len.ensures),
      λ text (lines, are, e).
          let next = line_at asked.policy.now asked.why asked.verb.now (requested_meant asked.any_name asked.target.now) it.holders.now (iter_rest it.members) it.place x lines c.get.ensures are in
          let line : c.put_line.new.line.items ≡ next.0 = c.in_ok-put_line.ensures next.0 next.2 ∙ ap (λ (t : Text). t ++ next.0) c.requires.empty in
          rw line (joined_lines next.1, e ∙ ap joined_lines next.4, (next.1, next.3, refl)),
    )
