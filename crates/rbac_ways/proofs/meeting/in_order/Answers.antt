use Rattle.std.proofs.Common.{◌≡◌, eqb}
use Rattle.std.proofs.lemmas.List.Filters.{dedup_is}
use Rattle.std.proofs.lemmas.List.Kept.{Contains-dedup_nat, Contains-from_dedup}
use Rattle.std.proofs.lemmas.List.Sorted.{Contains-permutation, IsPermutation-sym}
use Rattle.std.proofs.lemmas.Map.Keys.{IsStrictlyIncreasing-dedup}
use Rattle.rbac_ways.proofs.meeting.in_order.Goals as goal

pub returns-clause-same : goal.returns-clause-same
returns-clause-same c n =
    let sorted = c.sort_unstable.new.self.items in
    let is : c.dedup.new.self.items ≡ _ = dedup_is eqb sorted c.dedup.new.self.items c.dedup.ensures.filtered in
    let same = c.sort_unstable.ensures.permutation in (
      λ h. Contains-permutation _ _ n (IsPermutation-sym _ _ same) (Contains-from_dedup eqb sorted n (rw is at h)),
      λ h. rw is (Contains-dedup_nat sorted n (Contains-permutation _ _ n same h)),
    )

pub returns-clause-ordered : goal.returns-clause-ordered
returns-clause-ordered c =
    let sorted = c.sort_unstable.new.self.items in
    let is : c.dedup.new.self.items ≡ _ = dedup_is eqb sorted c.dedup.new.self.items c.dedup.ensures.filtered in
    rw is (IsStrictlyIncreasing-dedup sorted c.sort_unstable.ensures.sorted)
