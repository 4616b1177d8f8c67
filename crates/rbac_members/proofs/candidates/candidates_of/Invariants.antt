use Rattle.std.proofs.Common.{List, take}
use Rattle.std.specs.Prelude.{AllPairs}
use Rattle.rbac_groups.specs.declared.membership.Membership.{Membership}
use Rattle.rbac_index.specs.Holding.{IsEarlier}
use Rattle.rbac_members.specs.Candidates.{AreCandidates}
use Rattle.rbac_members.specs.Listings.{AreListings}
use Rattle.rbac_members.proofs.candidates.candidates_of.Given as goal

abbrev pub invariant-loop-place : goal.invariant-loop-place
invariant-loop-place l = (ms : List Membership) → AreListings ms l.listings → AllPairs IsEarlier l.holders → AreCandidates ms (take l.place l.holders) l.members.items
