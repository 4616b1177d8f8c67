use Rattle.std.proofs.Common.{◌≡◌, ◌≤◌, ◌∙◌, ◌∷◌, ℕ, ap, sym, refl, rules, length, slice_get, arith}
use Rattle.std.specs.Prelude.{Some, option_map}
use Rattle.std.specs.Ordering.{is_lt}
use Rattle.std.proofs.lemmas.Fn.{answers_by}
use Rattle.std.proofs.lemmas.List.{length-map}
use Rattle.std.proofs.lemmas.List.Sorted.{ranks_by}
use Rattle.std.proofs.lemmas.Option.{slice_get-map, slice_get_read}
use Rattle.rbac_index.specs.declared.ranks.Placed.{Placed}
use Rattle.rbac_index.specs.HolderViews.{label_of, labels_seen}
use Rattle.rbac_index.specs.Ranks.{placed_cmp}
use Rattle.rbac_index.proofs.RankLemmas.{placed_total, placed_more, placed_all}
use Rattle.rbac_index.proofs.ranks.sorted_by_label.Goals as goal

pub loop-place-preserved : goal.loop-place-preserved
loop-place-preserved c =
    let seen = c.args.seen.now in
    let place = c.loop-place.place in
    let sighting = c.index-seen-place.result in
    let at : slice_get seen place ≡ Some sighting = slice_get_read seen (length seen) place sighting refl c.loop-place-test.true c.index-seen-place.is in
    let reads : slice_get (labels_seen c.args.every seen) place ≡ Some (c.once_in_binding.result ∷ sighting.key) = slice_get-map (label_of c.args.every) seen place ∙ ap (option_map (label_of c.args.every)) at ∙ ap (λ (i : ℕ). Some (i ∷ sighting.key)) (sym c.once_in_binding.ensures) in
    rw c.in_ok-push.ensures.items (placed_more (labels_seen c.args.every seen) place c.loop-place.placed.items _ c.loop-place.invariant refl reads)

pub returns-clause-sorted : goal.returns-clause-sorted
returns-clause-sorted c =
    c.sort_unstable_by.ensures.sorted (λ x y. is_lt (placed_cmp x y)) (ranks_by placed_total (λ (y : Placed). y)) (answers_by _ _ (λ f. Unit {0}) (λ f a r h called met. (search rules, tt)) _ tt)

pub returns-clause-all : goal.returns-clause-all
returns-clause-all c =
    let seen = c.args.seen.now in
    let all : length (labels_seen c.args.every seen) ≤ c.loop-place.place = omega (arith, c.loop-place-test.false, length-map seen (label_of c.args.every)) in
    placed_all (labels_seen c.args.every seen) c.loop-place.place c.loop-place.placed.items c.sort_unstable_by.new.self.items all c.loop-place.invariant c.sort_unstable_by.ensures.permutation
