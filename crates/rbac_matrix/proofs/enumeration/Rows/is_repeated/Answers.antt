use Rattle.std.proofs.Common.{◌∙◌, subst, sym}
use Rattle.std.proofs.lemmas.Bool.{both_ways}
use Rattle.rbac_matrix.specs.RepeatedLines.{IsRepeated}
use Rattle.rbac_matrix.specs.Shown.{line_of}
use Rattle.rbac_matrix.proofs.RepeatedLemmas.{repeated_line}
use Rattle.rbac_matrix.proofs.PassLemmas.{same_head}
use Rattle.rbac_matrix.proofs.WalkLemmas.{not_both}
use Rattle.rbac_matrix.proofs.enumeration.Rows.is_repeated.Goals as goal

pub returns-then-not-is_empty : goal.returns-then-not-is_empty
returns-then-not-is_empty c = λ l ls bare e.
    let p = c.args.self.now.index.now in
    let here = line_of c.in-Some.line in
    subst (IsRepeated p) (same_head here l _ ls (sym c.in-Some.ensures.line ∙ e))
    (repeated_line p c.args.self.now.cluster_wide c.requires.1.cluster_wide here (λ none. both_ways _ c.if-not-is_empty.true (c.is_empty.ensures.1 none)) (c.has_cursor_from.ensures (not_both c.has_cursor_from.result bare)))

pub has_cursor_from-requires : goal.has_cursor_from-requires
has_cursor_from-requires c = (c.requires.1.runs (line_of c.in-Some.line) _ c.in-Some.ensures.line).0.0
