use Rattle.std.proofs.Common.{eqb}
use Rattle.std.proofs.lemmas.List.Filters.{dedup_is}
use Rattle.std.proofs.lemmas.List.Kept.{Contains-dedup_nat, Contains-from_dedup}
use Rattle.std.proofs.lemmas.Map.Keys.{IsStrictlyIncreasing-dedup}
use Rattle.rbac_index.proofs.numbers.GrantNos.from_sorted.Goals as goal

pub invariant_of-result : goal.invariant_of-result
invariant_of-result c =
    let is = dedup_is eqb c.args.items.items c.dedup.new.self.items c.dedup.ensures.filtered in
    rw is (IsStrictlyIncreasing-dedup c.args.items.items c.requires)

pub returns-clause-ascending : goal.returns-clause-ascending
returns-clause-ascending c = invariant_of-result c

pub returns-clause-same : goal.returns-clause-same
returns-clause-same c =
    let is = dedup_is eqb c.args.items.items c.dedup.new.self.items c.dedup.ensures.filtered in
    λ n. (
      λ h. Contains-from_dedup eqb c.args.items.items n (rw is at h),
      λ h. rw is (Contains-dedup_nat c.args.items.items n h),
    )
