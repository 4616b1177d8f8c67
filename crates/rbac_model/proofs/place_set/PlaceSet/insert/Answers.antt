use Rattle.std.proofs.Common.{◌∙◌, ◌<◌, ◌/◌, length, arith}
use Rattle.std.proofs.lemmas.List.{get_or_default}
use Rattle.rbac_model.proofs.PlaceSets.{inserted}
use Rattle.rbac_model.proofs.place_set.PlaceSet.insert.Goals as goal

pub returns : goal.returns
returns c =
    let l : c.args.place / 64 < length c.widen.new.words.items = omega (arith, c.in_ok-widen.ensures.room) in
    inserted c.args.self.now c.widen.new.words.items c.index_mut.result.now c.args.place (rw c.self.view_is at c.in_ok-widen.ensures.same) l
    (c.index_mut.ensures.value ∙ get_or_default c.widen.new.words.items (c.args.place / 64) c.index_mut.result.now 0 l)
