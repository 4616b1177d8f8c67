use Rattle.rbac_terms.specs.Text.{Text}
use Rattle.rbac_index.specs.HolderViews.{requested_of, sighted}
use Rattle.rbac_index.specs.Holding.{AreSeen}
use Rattle.rbac_index.specs.Indexed.{AreCandidates}
use Rattle.rbac_index.proofs.HoldingLemmas.{ArePassed}
use Rattle.rbac_index.proofs.sightings.sightings_of.Given as goal

-- what stands before the place is passed, and what holds there is seen
abbrev pub invariant-loop-no : goal.invariant-loop-no
invariant-loop-no l = (verb : Text) → AreCandidates l.policy verb (requested_of l.requested) l.numbers → AreSeen l.policy.held l.scope verb (requested_of l.requested) l.next 0 (sighted l.seen.items) × ArePassed l.policy l.numbers l.no-index l.next
