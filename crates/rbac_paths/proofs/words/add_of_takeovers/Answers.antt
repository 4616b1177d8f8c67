use Rattle.std.proofs.Common.{arith, get_or, subst}
use Rattle.std.proofs.lemmas.List.{get_or_default}
use Rattle.rbac_paths.specs.Having.{HoldingView}
use Rattle.rbac_paths.specs.SharedWords.{AddsWhere, LetsWord}
use Rattle.rbac_paths.specs.declared.table.Counts.TheVariants as counted
use Rattle.rbac_paths.specs.declared.table.Names.TheVariants as names
use Rattle.rbac_paths.specs.declared.table.Over.TheVariants as over
use Rattle.rbac_paths.proofs.WordsAdded.{adds_each, adds_more}
use Rattle.rbac_paths.proofs.words.add_of_takeovers.Goals as goal

pub loop-takeover-preserved : goal.loop-takeover-preserved
loop-takeover-preserved c =
    let ts = c.args.takeovers.now in
    let i = c.loop-takeover.takeover-index in
    let t = get_or ts i (record { names = names.None; counts = counted.ClusterWide; over = over.Users }) in
    adds_more (λ t w. LetsWord t c.args.held.now.home c.args.held.now.rule w) ts i t
    c.args.words.now c.loop-takeover.words c.add_words.new.words c.loop-takeover-test.true (get_or_default ts i (record { names = names.None; counts = counted.ClusterWide; over = over.Users }) t c.loop-takeover-test.true) c.loop-takeover.invariant
    (subst (λ (h : HoldingView). AddsWhere (LetsWord t h.home h.rule) c.loop-takeover.words c.add_words.new.words) c.held.view_is c.in_ok-add_words.ensures)

pub returns : goal.returns
returns c =
    adds_each (λ t w. LetsWord t c.args.held.now.home c.args.held.now.rule w) c.args.takeovers.now c.loop-takeover.takeover-index c.args.words.now c.loop-takeover.words
    (let end = c.loop-takeover-test.false in omega (arith, end)) c.loop-takeover.invariant
