use Rattle.rbac_near.specs.Members.{FindsMembers}
use Rattle.rbac_near.specs.Near.{request_of}
use Rattle.rbac_near.proofs.members.members_of.Given as goal

abbrev pub invariant-loop-place : goal.invariant-loop-place
invariant-loop-place l = FindsMembers l.policy (request_of l.request) l.place l.found
