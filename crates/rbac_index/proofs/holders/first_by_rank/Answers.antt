use Rattle.std.proofs.Common.{◌≡◌, ◌<◌, ◌≤◌, ◌∙◌, ℕ, ap, sym, refl, length, slice_get, slice_index, arith}
use Rattle.std.specs.Prelude.{Some}
use Rattle.std.specs.Slice.Iter.{iter_rest}
use Rattle.std.proofs.lemmas.Iterator.{YieldsList-from_slice, YieldsList-from_zip}
use Rattle.std.proofs.lemmas.Iterator.Adapters.{YieldsList-from_vec}
use Rattle.std.proofs.lemmas.Iterator.Consumers.{YieldsList-at, YieldsList-turn, YieldsList-end}
use Rattle.std.proofs.lemmas.List.{get_or_default, length-map, length_push}
use Rattle.std.proofs.lemmas.Option.{slice_get_read}
use Rattle.std.proofs.lemmas.Slice.Zip.{length-zip, get_or-zip}
use Rattle.rbac_index.specs.declared.sightings.Sighting.{Sighting}
use Rattle.rbac_index.specs.HolderViews.{label_of}
use Rattle.rbac_index.proofs.FirstLemmas.{up_to_more, up_to_all}
use Rattle.rbac_index.proofs.holders.first_by_rank.Goals as goal

pub loop-rank-preserved : goal.loop-rank-preserved
loop-rank-preserved c =
    let ranks = c.args.ranks.now in
    let seen = c.args.seen.items in
    let second = c.zip-rank-items.ensures.second in
    let road = YieldsList-at c.into_iter-rank-iterator.ensures.into_iter_gives (YieldsList-from_zip (YieldsList-from_slice ranks (ap iter_rest c.zip-rank-items.ensures.first ∙ c.iter.ensures.rest)) (YieldsList-from_vec seen second.0 (second.1 ∙ c.args.seen.ok.0))) in
    let turn = YieldsList-turn road c.loop-rank.yielded c.loop-rank.rank-iterator c.loop-rank.yielded_by c.next.result c.next.new.self (c.in-Some.rank, c.in-Some.sighting) c.in-Some.is c.next.ensures.steps in
    let n = length c.loop-rank.yielded in
    let rank = c.in-Some.rank.now in
    let sighting = c.in-Some.sighting in
    let low : n < length ranks = omega (arith, turn.0, length-zip ranks seen) in
    let lt : n < length seen = omega (arith, turn.0, length-zip ranks seen) in
    let pair = turn.1 ∙ get_or-zip ranks seen n (rank, sighting) low lt in
    let at : slice_get seen n ≡ Some sighting = slice_get_read seen (length seen) n sighting refl lt (ap (λ (p : ℕ × Sighting). p.1) pair) in
    let is : slice_index ranks n ≡ rank = get_or_default ranks n 0 rank low ∙ sym (ap (λ (p : ℕ × Sighting). p.0) pair) in
    rw (length_push c.loop-rank.yielded (c.in-Some.rank, sighting)) (λ every are. up_to_more every seen ranks c.requires are n rank sighting c.loop-rank.firsts c.keep_first.new.firsts at is c.in_ok-keep_first.ensures (c.loop-rank.invariant every are))

pub returns : goal.returns
returns c =
    let ranks = c.args.ranks.now in
    let seen = c.args.seen.items in
    let second = c.zip-rank-items.ensures.second in
    let road = YieldsList-at c.into_iter-rank-iterator.ensures.into_iter_gives (YieldsList-from_zip (YieldsList-from_slice ranks (ap iter_rest c.zip-rank-items.ensures.first ∙ c.iter.ensures.rest)) (YieldsList-from_vec seen second.0 (second.1 ∙ c.args.seen.ok.0))) in
    let end = YieldsList-end road c.loop-rank.yielded c.loop-rank.rank-iterator c.loop-rank.yielded_by c.next.result c.next.new.self c.in-None.is c.next.ensures.steps in
    λ every are.
    let all : length seen ≤ length c.loop-rank.yielded = omega (arith, end.1, length-zip ranks seen, are.as_many, length-map seen (label_of every)) in
    up_to_all every seen ranks c.requires are (length c.loop-rank.yielded) c.loop-rank.firsts all (c.loop-rank.invariant every are)
