use Rattle.std.proofs.Common.{◌≡◌, ◌<◌, ◌++◌, ◌∷◌, ◌∙◌, [], List, ap, arith, get_or, length}
use Rattle.std.proofs.lemmas.List.{get_or_default}
use Rattle.rbac_use.specs.declared.request.Request.{Request}
use Rattle.rbac_use.proofs.ByBinding.{added_all, added_more, is_there}
use Rattle.rbac_use.proofs.by_binding.add_to_each.Goals as goal

pub loop-place-preserved : goal.loop-place-preserved
loop-place-preserved c =
    let p = c.args.policy.now in
    let q = c.args.request in
    let mid = c.loop-place.lists.items in
    let place = c.in-Some.place in
    let low = is_there p q place c.in-Some.ensures.next.holds in
    let within : place < length mid = omega (arith, low, c.loop-place.invariant.len, c.requires.lists) in
    let had : c.index_mut.result.now ≡ get_or mid place [] = c.index_mut.ensures.value ∙ get_or_default mid place c.index_mut.result.now [] within in
    let more : c.push.new.self ≡ get_or mid place [] ++ q ∷ [] = c.in_ok-push.ensures.ok ∙ ap (λ (xs : List Request). xs ++ q ∷ []) had in
    rw more (added_more p q c.loop-place.from place c.in-Some.ensures.next c.args.lists.now.items mid c.loop-place.invariant within)

pub returns : goal.returns
returns c = added_all c.args.policy.now c.args.request c.loop-place.from c.in_default.ensures.next c.args.lists.now.items c.loop-place.lists.items c.loop-place.invariant
