use Rattle.std.proofs.lemmas.List.Sorted.{Contains-permutation, IsPermutation-sym}
use Rattle.rbac_index.proofs.MergeLemmas.{some_joined, joined_some}
use Rattle.rbac_index.proofs.merge.merged.Goals as goal

pub returns-clause-exact : goal.returns-clause-exact
returns-clause-exact c = λ n.
    let all = c.in_ok-numbers.ensures.all in
    let same = c.from_sorted.ensures.same n in (
      λ h. joined_some c.args.lists.items n (Contains-permutation _ _ n (IsPermutation-sym _ _ all) (same.0 h)),
      λ s. same.1 (Contains-permutation _ _ n all (some_joined c.args.lists.items n s)),
    )
