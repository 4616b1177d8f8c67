use Rattle.std.proofs.Common.{sym, subst, List}
use Rattle.std.specs.Prelude.{Option, IfSome, Contains}
use Rattle.rbac_terms.specs.Text.{Text}
use Rattle.rbac_lint.specs.declared.candidates.Candidates.{Candidates}
use Rattle.rbac_lint.specs.RulesByWord.{words_in}
use Rattle.rbac_lint.specs.Candidates.{IncludeCovers}
use Rattle.rbac_lint.proofs.Looked.{are_candidates, fewer_of}
use Rattle.rbac_lint.proofs.candidates.fewest_in.Goals as goal
use Rattle.rbac_lint.proofs.candidates.fewest_in.Goals.{then-is_asked+in_ok-candidates, else-is_asked}

pub loop-word-preserved : goal.loop-word-preserved
loop-word-preserved c = λ rules is has old.
    let b = c.args.rule.now in
    let l = c.args.by_word.now in
    let before = c.loop-word.invariant rules is has old in
    let word : Text = c.word-item.result in
    let at : Contains (words_in c.args.field b) word = subst (λ (ws : List Text). Contains ws word) (c.words_in-word-items.ensures is.star) (c.loop-word.word-index, c.loop-word-test.true, sym c.word-item.is) in
    elim c.if-is_asked.branch [
      | then-is_asked+in_ok-candidates w ↦
          let other = w.in_ok-candidates.candidates in
          let mine = are_candidates c.args.field rules l b word other is has (c.is_asked.ensures w.if-is_asked.true) at (w.in_ok-candidates.ensures rules is) in
          subst (λ (o : Option Candidates). IfSome o (IncludeCovers rules b)) (sym w.fewest-is)
          (fewer_of rules b c.loop-word.fewest other w.fewer.result w.fewer.ensures before mine)
      | else-is_asked w ↦ subst (λ (o : Option Candidates). IfSome o (IncludeCovers rules b)) (sym w.fewest-is) before
    ]
