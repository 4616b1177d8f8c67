use Rattle.std.proofs.Common.{Some, arith}
use Rattle.std.specs.Option.{option_copied}
use Rattle.rbac_paths.specs.SharedWords.{IsWordFor}
use Rattle.rbac_paths.proofs.WordsAdded.{adds_each, adds_more}
use Rattle.rbac_paths.proofs.takeover.Takeover.add_named.Goals as goal

pub loop-name-preserved : goal.loop-name-preserved
loop-name-preserved c =
    adds_more (λ name w. IsWordFor c.args.self.now.over c.args.self.now.counts (option_copied c.args.home) (Some name) w) c.args.names.now c.loop-name.name-index c.name-item.result
    c.args.words.now c.loop-name.words c.add_word.new.words c.loop-name-test.true c.name-item.is c.loop-name.invariant c.in_ok-add_word.ensures

pub returns : goal.returns
returns c =
    adds_each (λ name w. IsWordFor c.args.self.now.over c.args.self.now.counts (option_copied c.args.home) (Some name) w) c.args.names.now c.loop-name.name-index
    c.args.words.now c.loop-name.words (let end = c.loop-name-test.false in omega (arith, end)) c.loop-name.invariant
