use Rattle.std.proofs.Common.{◌≡◌, ℕ, List, map, arith, sym, ◌∙◌, All, subst}
use Rattle.std.specs.Ordering.{nat_cmp, is_lt}
use Rattle.std.specs.List.Sorted.{IsSorted, IsStrictlyIncreasing}
use Rattle.std.proofs.lemmas.Cmp.{nat_cmp_total}
use Rattle.std.proofs.lemmas.List.{map-id}
use Rattle.std.proofs.lemmas.List.Elements.{All-weaker}
use Rattle.std.proofs.lemmas.List.Sorted.{ranks_by}
use Rattle.std.proofs.lemmas.Iterator.Adapters.{YieldsList-from_vec}
use Rattle.itertools.proofs.AdaptorLemmas.{items_from_whole_run}
use Rattle.rbac_index.proofs.MergeLemmas.{merged_from, merged_sorted, sources_give, sorted_from_ascending}
use Rattle.rbac_index.proofs.merge.merged_all.Goals as goal

pub returns-clause-all : goal.returns-clause-all
returns-clause-all c =
    let merge = c.in_ok-kmerge.ensures.items in
    let same : map (λ (y : List ℕ). y) merge.0.items ≡ c.args.lists.items = items_from_whole_run (YieldsList-from_vec c.args.lists.items c.into_iter.ensures.rest (omega (arith, c.into_iter.ensures.len, c.args.lists.ok))) merge.0 merge.1 merge.2 in
    let lists : merge.0.items ≡ c.args.lists.items = sym (map-id merge.0.items) ∙ same in
    let given = merge.3 merge.0.items (sources_give merge.0.items) in
    rw (← lists) (merged_from _ c.in_ok-kmerge.field-0 merge.0.items c.collect.result c.collect.ensures.ran given)

pub returns-clause-in_order : goal.returns-clause-in_order
returns-clause-in_order c =
    let merge = c.in_ok-kmerge.ensures.in_order in
    let same : map (λ (y : List ℕ). y) merge.0.items ≡ c.args.lists.items = items_from_whole_run (YieldsList-from_vec c.args.lists.items c.into_iter.ensures.rest (omega (arith, c.into_iter.ensures.len, c.args.lists.ok))) merge.0 merge.1 merge.2 in
    let lists : merge.0.items ≡ c.args.lists.items = sym (map-id merge.0.items) ∙ same in
    let sorted : All (IsSorted nat_cmp) merge.0.items = subst (All (IsSorted nat_cmp)) (sym lists) (All-weaker IsStrictlyIncreasing (IsSorted nat_cmp) (λ l up. sorted_from_ascending l up) c.args.lists.items c.requires) in
    let given = merge.3 (ranks_by nat_cmp_total (λ (x : ℕ). x)) merge.0.items (sources_give merge.0.items) sorted in
    merged_sorted (λ x y. is_lt (nat_cmp x y)) c.in_ok-kmerge.field-0 c.collect.result c.collect.ensures.ran given
