use Rattle.std.proofs.Common.{take}
use Rattle.rbac_paths.specs.Joints.{IsAskedBy}
use Rattle.rbac_paths.proofs.WordsAdded.{AddsOf}
use Rattle.rbac_paths.proofs.other_nodes.add_of_holdings.Given as goal

abbrev pub invariant-loop-held : goal.invariant-loop-held
invariant-loop-held l = AddsOf (λ h j. IsAskedBy l.others.by_word h j) (take l.held-index l.holdings) l.initial.places.items l.places.items
