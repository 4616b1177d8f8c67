use Rattle.std.proofs.Common.{◌≡◌, ◌∙◌, Contains, List, subst, take, take_all, ◌+◌}
use Rattle.std.specs.Ordering.{eq_by_cmp}
use Rattle.std.specs.Prelude.{AllPairs}
use Rattle.std.specs.declared.cmp.Ordering.TheVariants.{Less}
use Rattle.std.proofs.lemmas.List.Filters.{dedup_is}
use Rattle.rbac_use.specs.Grouping.{AreGrouped, pair_cmp}
use Rattle.rbac_use.specs.declared.grouping.Pair.{Pair}
use Rattle.rbac_use.proofs.Grouped.{none_grouped, pairs_in_order, same_grouped, same_pairs}
use Rattle.rbac_use.proofs.Pushed.{first_pairs, taken_more}
use Rattle.rbac_use.proofs.grouping.grouped.Goals as goal

pub loop-pair-init : goal.loop-pair-init
loop-pair-init c = rw c.new-groups.ensures.items none_grouped

pub loop-pair-preserved : goal.loop-pair-preserved
loop-pair-preserved c =
    let pairs = c.deref-pair-items.result.now in
    let i = c.loop-pair.pair-index in
    let pair = c.pair-item.result in
    let sorted = c.sort_unstable.new.self.items in
    let left : pairs ≡ _ = c.deref-pair-items.ensures.value ∙ dedup_is (eq_by_cmp pair_cmp) sorted c.dedup.new.self.items c.dedup.ensures.filtered in
    let up = first_pairs (λ (a b : Pair). pair_cmp a b ≡ Less) pairs (i + 1) (pairs_in_order sorted pairs c.sort_unstable.ensures.sorted left) in
    let taken = taken_more pairs i pair c.loop-pair-test.true c.pair-item.is in
    rw taken
    (c.in_ok-add_word.ensures (take i pairs) c.loop-pair.invariant (subst (λ (xs : List Pair). AllPairs (λ a b. pair_cmp a b ≡ Less) xs) taken up))

pub returns : goal.returns
returns c =
    let pairs = c.deref-pair-items.result.now in
    let sorted = c.sort_unstable.new.self.items in
    let groups = c.loop-pair.groups.items in
    let all = subst (λ (xs : List Pair). AreGrouped (λ (x : Pair). Contains xs x) groups) (take_all c.loop-pair.pair-index pairs c.loop-pair-test.false) c.loop-pair.invariant in
    let left : c.dedup.new.self.items ≡ _ = dedup_is (eq_by_cmp pair_cmp) sorted c.dedup.new.self.items c.dedup.ensures.filtered in
    same_grouped pairs c.args.pairs.items groups (same_pairs c.args.pairs.items sorted pairs c.sort_unstable.ensures.permutation (c.deref-pair-items.ensures.value ∙ left)) all
