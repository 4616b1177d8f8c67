use Rattle.std.proofs.Common.{◌≡◌, ◌<◌, ◌∙◌, ◌++◌, ◌∷◌, [], List, ℕ, ap, get_or, length, rules}
use Rattle.std.proofs.lemmas.List.{get_or_default}
use Rattle.rbac_ways.proofs.Turning.{adds_here}
use Rattle.rbac_ways.proofs.joining.add_to.Goals as goal

pub returns-in_ok-push : goal.returns-in_ok-push
returns-in_ok-push c =
    let lists = c.args.lists.now.items in
    let place = c.args.place in
    let low : place < length lists = search rules in
    let had : c.index_mut.result.now ≡ get_or lists place [] = c.index_mut.ensures.value ∙ get_or_default lists place c.index_mut.result.now [] low in
    let more : c.push.new.self ≡ get_or lists place [] ++ c.args.node ∷ [] = c.in_ok-push.ensures.ok ∙ ap (λ (nodes : List ℕ). nodes ++ c.args.node ∷ []) had in
    rw more (adds_here place c.args.node lists low)
