use Rattle.std.proofs.Common.{Any, List, subst, sym}
use Rattle.rbac_terms.proofs.Cases.{on_ok}
use Rattle.rbac_paths.specs.Having.{HoldingView}
use Rattle.rbac_paths.specs.SharedWords.{LetsWord, StepTakesWord}
use Rattle.rbac_paths.specs.Takeovers.{AreTakeovers}
use Rattle.rbac_paths.specs.declared.takeover.Takeover.{Takeover}
use Rattle.rbac_paths.proofs.Takeovers.{same_words}
use Rattle.rbac_paths.proofs.WordsAdded.{adds_same}
use Rattle.rbac_paths.proofs.words.add_of_holding.Goals as goal

pub returns : goal.returns
returns c =
    let h = c.args.held.now in
    let steps = c.args.steps.now in
    let ts = c.as_slice.result.now in
    let are : AreTakeovers steps h.rule ts = subst (λ (xs : List Takeover). AreTakeovers steps h.rule xs) (sym c.as_slice.ensures)
    (subst (λ (v : HoldingView). AreTakeovers steps v.rule c.in_ok-takeovers.takeovers) c.held.view_is c.in_ok-takeovers.ensures) in
    on_ok c.add_of_takeovers.result
    (adds_same (λ w. Any (λ t. LetsWord t h.home h.rule w) ts) (λ w. Any (StepTakesWord h.home h.rule w) steps) (same_words steps h.rule ts are h.home) c.args.words.now c.add_of_takeovers.new.words)
    c.add_of_takeovers.ensures
