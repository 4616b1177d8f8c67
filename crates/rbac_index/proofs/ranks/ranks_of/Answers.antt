use Rattle.std.proofs.Common.{◌≡◌, ◌∙◌, ap, sym, refl, rules, length, slice_get, arith}
use Rattle.std.specs.Prelude.{Some, None}
use Rattle.std.specs.List.Sorted.{IsSorted}
use Rattle.std.proofs.lemmas.List.{length-map, length-replicate}
use Rattle.std.proofs.lemmas.Option.{slice_get_read}
use Rattle.rbac_index.specs.HolderViews.{label_of, labels_seen}
use Rattle.rbac_index.specs.Ranks.{ArePlaced, placed_cmp, placed_label}
use Rattle.rbac_index.proofs.RankLemmas.{placed_within, ranks_none, ranked_none, ranked_more, ranked_all}
use Rattle.rbac_index.proofs.ranks.ranks_of.Goals as goal

pub returns-in_default : goal.returns-in_default
returns-in_default c =
    let seen = c.args.seen.now in
    let ranks = c.in_ok-ranks.ranks.items in
    let many : length ranks ≡ length (labels_seen c.args.every seen) = ap length (c.in_ok-ranks.ensures.items_if_clones_equal (λ y e. search rules)) ∙ length-replicate (length seen) 0 ∙ sym (length-map seen (label_of c.args.every)) in
    let none : slice_get c.in_ok-sorted.sorted.items 0 ≡ None = rw (← c.deref.ensures.value) (sym c.in_default.ensures.value) in
    ranks_none (labels_seen c.args.every seen) c.in_ok-sorted.sorted.items ranks none c.in_ok-sorted.ensures.all many

pub loop-placed-init : goal.loop-placed-init
loop-placed-init c =
    let seen = c.args.seen.now in
    let ranks = c.in_ok-ranks.ranks.items in
    let many : length ranks ≡ length (labels_seen c.args.every seen) = ap length (c.in_ok-ranks.ensures.items_if_clones_equal (λ y e. search rules)) ∙ length-replicate (length seen) 0 ∙ sym (length-map seen (label_of c.args.every)) in
    let first : slice_get c.in_ok-sorted.sorted.items 0 ≡ Some c.in-Some.least.now = rw (← c.deref.ensures.value) (sym c.in-Some.ensures.value) in
    (rw c.as_slice-placed-items.ensures.value (ranked_none (labels_seen c.args.every seen) c.in_ok-sorted.sorted.items c.in_ok-sorted.ensures.all c.in_ok-sorted.ensures.sorted c.in-Some.least.now ranks first many), c.in_ok-ranks.ensures.len)

pub index_mut-requires : goal.index_mut-requires
index_mut-requires c =
    let keys = labels_seen c.args.every c.args.seen.now in
    let sorted = c.as_slice-placed-items.result.now in
    let placed = c.placed-item.result in
    let are : ArePlaced keys sorted = rw c.as_slice-placed-items.ensures.value c.in_ok-sorted.ensures.all in
    let at : slice_get sorted c.loop-placed.placed-index ≡ Some placed = slice_get_read sorted (length sorted) c.loop-placed.placed-index placed refl c.loop-placed-test.true c.placed-item.is in
    omega (arith, c.loop-placed.invariant.1, placed_within keys sorted are c.loop-placed.placed-index placed at, length-map c.args.seen.now (label_of c.args.every))

pub loop-placed-preserved : goal.loop-placed-preserved
loop-placed-preserved c =
    let keys = labels_seen c.args.every c.args.seen.now in
    let sorted = c.as_slice-placed-items.result.now in
    let n = c.loop-placed.placed-index in
    let placed = c.placed-item.result in
    let are : ArePlaced keys sorted = rw c.as_slice-placed-items.ensures.value c.in_ok-sorted.ensures.all in
    let up : IsSorted placed_cmp sorted = rw c.as_slice-placed-items.ensures.value c.in_ok-sorted.ensures.sorted in
    let at : slice_get sorted n ≡ Some placed = slice_get_read sorted (length sorted) n placed refl c.loop-placed-test.true c.placed-item.is in
    (ranked_more keys sorted are up n placed c.loop-placed.ranks.items c.loop-placed.rank c.in_ok-rank.rank (placed_label c.loop-placed.last) at c.in_ok-rank.ensures c.loop-placed.invariant.0, c.loop-placed.invariant.1)

pub returns : goal.returns
returns c =
    let keys = labels_seen c.args.every c.args.seen.now in
    let sorted = c.as_slice-placed-items.result.now in
    let are : ArePlaced keys sorted = rw c.as_slice-placed-items.ensures.value c.in_ok-sorted.ensures.all in
    let up : IsSorted placed_cmp sorted = rw c.as_slice-placed-items.ensures.value c.in_ok-sorted.ensures.sorted in
    ranked_all keys sorted are up c.loop-placed.placed-index c.loop-placed.ranks.items c.loop-placed.rank (placed_label c.loop-placed.last) (omega (arith, c.loop-placed-test.false)) c.loop-placed.invariant.0
