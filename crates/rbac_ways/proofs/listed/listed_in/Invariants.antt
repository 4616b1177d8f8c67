use Rattle.std.proofs.Common.{take}
use Rattle.rbac_ways.proofs.Listing.{AreListedIn}
use Rattle.rbac_ways.proofs.listed.listed_in.Given as goal

abbrev pub invariant-loop-place : goal.invariant-loop-place
invariant-loop-place g l = AreListedIn l.lists (take l.place-index l.places) l.all.items
