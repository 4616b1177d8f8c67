use Rattle.std.proofs.Common.{◌≡◌, Some, arith, subst}
use Rattle.std.specs.Option.{option_copied}
use Rattle.rbac_terms.specs.Text.{Text}
use Rattle.rbac_ways.specs.Joining.{HasUnder}
use Rattle.rbac_paths.specs.Joints.{asked_word}
use Rattle.rbac_paths.proofs.WordsAdded.{adds_each, adds_more}
use Rattle.rbac_paths.proofs.other_nodes.add_named.Goals as goal

pub loop-name-preserved : goal.loop-name-preserved
loop-name-preserved c =
    adds_more (λ name j. HasUnder c.args.others.now.by_word (asked_word (option_copied c.args.home) (Some name)) j) c.args.names.now c.loop-name.name-index c.name-item.result c.args.places.now.items c.loop-name.places.items c.add_under.new.places.items
    c.loop-name-test.true c.name-item.is c.loop-name.invariant c.in_ok-add_under.ensures

pub returns : goal.returns
returns c =
    adds_each (λ name j. HasUnder c.args.others.now.by_word (asked_word (option_copied c.args.home) (Some name)) j) c.args.names.now c.loop-name.name-index c.args.places.now.items c.loop-name.places.items
    (let end = c.loop-name-test.false in omega (arith, end)) c.loop-name.invariant
