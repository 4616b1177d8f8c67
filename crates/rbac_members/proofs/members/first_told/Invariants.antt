use Rattle.std.proofs.Common.{◌++◌, List, length, take}
use Rattle.std.specs.Prelude.{AllPairs}
use Rattle.rbac_groups.specs.declared.membership.Membership.{Membership}
use Rattle.rbac_index.specs.Holding.{IsEarlier}
use Rattle.rbac_members.specs.Candidates.{AreCandidates}
use Rattle.rbac_members.specs.Told.{AreLabels}
use Rattle.rbac_members.proofs.Firsts.{AreFirst}
use Rattle.rbac_members.proofs.members.first_told.Given as goal

abbrev pub invariant-loop-member : goal.invariant-loop-member
invariant-loop-member l = record {
  firsts : (ms : List Membership) → AllPairs IsEarlier l.holders → AreCandidates ms l.holders l.fn.candidates.items
      → AreFirst l.every l.holders (take (length l.yielded) l.fn.candidates.items) l.firsts.items;
  labels : AreLabels l.every (l.holders ++ take (length l.yielded) l.fn.candidates.items) l.told.keys;
}
