use Rattle.std.proofs.Common.{◌↔◌, [], List, ℕ, Contains, arith, subst, ◌∙◌}
use Rattle.std.proofs.lemmas.List.{get_or_read}
use Rattle.rbac_ways.specs.Joining.{IsListedAt}
use Rattle.rbac_ways.proofs.Turning.{all_turned, listed_more}
use Rattle.rbac_ways.proofs.joining.turned.Goals as goal

pub loop-place-preserved : goal.loop-place-preserved
loop-place-preserved c =
    let lists = c.args.lists.now in
    let place = c.loop-place.place in
    let numbers = c.as_slice.result.now in
    listed_more (IsListedAt lists) c.args.count place numbers c.loop-place.turned.items c.add_to_each.new.lists.items
    (subst (λ (listed : List ℕ). (i : ℕ) → Contains numbers i ↔ Contains listed i) (c.as_slice.ensures ∙ get_or_read lists place c.index-lists-place.result c.loop-place-test.true c.index-lists-place.is []) (λ i. (λ h. h, λ h. h)))
    c.loop-place.invariant c.in_ok-add_to_each.ensures

pub returns : goal.returns
returns c = all_turned c.args.lists.now c.args.count c.loop-place.turned.items c.loop-place.place (omega (arith, c.loop-place-test.false)) c.loop-place.invariant
