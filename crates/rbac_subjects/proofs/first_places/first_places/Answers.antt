use Rattle.std.proofs.Common.{◌∙◌, ◌⊎◌, ◌++◌, ◌∷◌, [], List, ℕ, Contains, sym, map-id, subst}
use Rattle.std.proofs.lemmas.Iterator.Consumers.{YieldsList-end}
use Rattle.rbac_terms.specs.Text.{Text}
use Rattle.rbac_model.specs.Holders.{IsKeyFor}
use Rattle.rbac_subjects.specs.Keyed.{IsLiveUnder, IsLiveUnderAny}
use Rattle.rbac_subjects.specs.Least.{LeastView, Takes, no_places}
use Rattle.rbac_subjects.proofs.KeysOf.{walk}
use Rattle.rbac_subjects.proofs.KeyedLemmas.{all_keys, no_key, one_more_key}
use Rattle.rbac_subjects.proofs.LeastLemmas.{takes_both, takes_nothing, takes_same}
use Rattle.rbac_subjects.proofs.first_places.first_places.Goals as goal

pub loop-key-init : goal.loop-key-init
loop-key-init c =
    let P : ℕ → Type 0 = IsLiveUnderAny c.args.entries.now c.args.live (Contains []) in
    subst (λ (l : LeastView). Takes P no_places l) (sym c.new-places.ensures) (takes_nothing P no_places (no_key c.args.entries.now c.args.live))

pub loop-key-preserved : goal.loop-key-preserved
loop-key-preserved c =
    let xs = c.args.entries.now in
    let live = c.args.live in
    let before : List Text = c.loop-key.yielded in
    let key : Text = c.in-Some.key in
    let P : ℕ → Type 0 = IsLiveUnderAny xs live (Contains before) in
    let Q : ℕ → Type 0 = IsLiveUnder xs live key in
    takes_same (λ n. P n ⊎ Q n) (IsLiveUnderAny xs live (Contains (before ++ key ∷ []))) no_places c.take_live.new.places (one_more_key xs live before key)
    (takes_both P Q no_places c.loop-key.places c.take_live.new.places c.loop-key.invariant c.take_live.ensures)

pub returns : goal.returns
returns c =
    let keys : List Text = c.keys_of-key-items.result in
    let xs = c.args.entries.now in
    let live = c.args.live in
    let end = YieldsList-end (walk keys c.into_iter-key-iterator.ensures.into_iter_gives) c.loop-key.yielded _ c.loop-key.yielded_by _ _ c.in-None.is c.next.ensures.steps in
    takes_same (IsLiveUnderAny xs live (Contains keys)) (IsLiveUnderAny xs live (IsKeyFor c.args.principal.now)) no_places c.loop-key.places (all_keys xs live keys (IsKeyFor c.args.principal.now) c.keys_of-key-items.ensures)
    (subst (λ (seen : List Text). Takes (IsLiveUnderAny xs live (Contains seen)) no_places c.loop-key.places) (sym (map-id c.loop-key.yielded) ∙ end.0) c.loop-key.invariant)
