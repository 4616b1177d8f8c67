use Rattle.std.proofs.Common.{Some, take}
use Rattle.std.specs.Option.{option_copied}
use Rattle.rbac_ways.specs.Joining.{HasUnder}
use Rattle.rbac_paths.specs.Joints.{asked_word}
use Rattle.rbac_paths.proofs.WordsAdded.{AddsOf}
use Rattle.rbac_paths.proofs.other_nodes.add_named.Given as goal

abbrev pub invariant-loop-name : goal.invariant-loop-name
invariant-loop-name l = AddsOf (λ name j. HasUnder l.others.by_word (asked_word (option_copied l.home) (Some name)) j) (take l.name-index l.names) l.initial.places.items l.places.items
