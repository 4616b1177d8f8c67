use Rattle.std.proofs.Common.{◌∙◌, List, Contains, sym, map-id, subst}
use Rattle.std.proofs.lemmas.Iterator.Consumers.{YieldsList-end}
use Rattle.rbac_terms.specs.Text.{Text}
use Rattle.rbac_model.specs.Holders.{IsKeyFor}
use Rattle.rbac_subjects.proofs.KeysOf.{walk}
use Rattle.rbac_subjects.proofs.NamedLemmas.{AreUnder, under_all, under_more, under_none}
use Rattle.rbac_subjects.proofs.named_places.places_under.Goals as goal

pub loop-key-init : goal.loop-key-init
loop-key-init c = rw c.new-places.ensures.items (under_none c.args.entries.now c.args.end)

pub loop-key-preserved : goal.loop-key-preserved
loop-key-preserved c =
    under_more c.args.entries.now c.args.end c.loop-key.yielded c.in-Some.key c.loop-key.places.items c.push_under.new.places.items c.loop-key.invariant c.in_ok-push_under.ensures

pub returns : goal.returns
returns c =
    let keys : List Text = c.keys_of-key-items.result in
    let xs = c.args.entries.now in
    let end = c.args.end in
    let places = c.loop-key.places.items in
    let done = YieldsList-end (walk keys c.into_iter-key-iterator.ensures.into_iter_gives) c.loop-key.yielded _ c.loop-key.yielded_by _ _ c.in-None.is c.next.ensures.steps in
    under_all xs end keys (IsKeyFor c.args.principal.now) places c.keys_of-key-items.ensures
    (subst (λ (seen : List Text). AreUnder xs (Contains seen) end places) (sym (map-id c.loop-key.yielded) ∙ done.0) c.loop-key.invariant)
