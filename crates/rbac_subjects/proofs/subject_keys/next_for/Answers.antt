use Rattle.std.proofs.Common.{◌∙◌, ◌⊎◌, ◌++◌, ◌∷◌, [], List, ℕ, Contains, length, sym, map-id, subst}
use Rattle.std.proofs.lemmas.Iterator.Consumers.{YieldsList-end, YieldsList-turn}
use Rattle.rbac_terms.specs.Text.{Text}
use Rattle.rbac_model.specs.Holders.{IsKeyFor}
use Rattle.rbac_subjects.specs.Keyed.{AnswersNext, IsLiveUnder, IsLiveUnderAny, sooner}
use Rattle.rbac_subjects.proofs.KeysOf.{walk}
use Rattle.rbac_subjects.proofs.KeyedLemmas.{all_keys, first_under, next_same, no_key, one_more_key, sooner_next}
use Rattle.rbac_subjects.proofs.subject_keys.next_for.Goals as goal

pub loop-key-init : goal.loop-key-init
loop-key-init c = λ n le w. no_key c.args.entries.now c.args.live n w

pub loop-key-preserved : goal.loop-key-preserved
loop-key-preserved c =
    let xs = c.args.entries.now in
    let live = c.args.live in
    let from = c.args.from in
    let before : List Text = c.loop-key.yielded in
    let key : Text = c.in-Some.key in
    let P : ℕ → Type 0 = IsLiveUnderAny xs live (Contains before) in
    let Q : ℕ → Type 0 = IsLiveUnder xs live key in
    rw c.sooner-next.ensures (next_same (λ n. P n ⊎ Q n) (IsLiveUnderAny xs live (Contains (before ++ key ∷ []))) from (sooner c.loop-key.next c.next_live-found.result) (one_more_key xs live before key)
    (sooner_next P Q from c.loop-key.next c.next_live-found.result c.loop-key.invariant c.next_live-found.ensures))

pub returns : goal.returns
returns c =
    let keys : List Text = c.keys_of-key-items.result in
    let xs = c.args.entries.now in
    let live = c.args.live in
    let end = YieldsList-end (walk keys c.into_iter-key-iterator.ensures.into_iter_gives) c.loop-key.yielded _ c.loop-key.yielded_by _ _ c.in-None.is c.next.ensures.steps in
    next_same (IsLiveUnderAny xs live (Contains keys)) (IsLiveUnderAny xs live (IsKeyFor c.args.principal.now)) c.args.from c.loop-key.next (all_keys xs live keys (IsKeyFor c.args.principal.now) c.keys_of-key-items.ensures)
    (subst (λ (seen : List Text). AnswersNext (IsLiveUnderAny xs live (Contains seen)) c.args.from c.loop-key.next) (sym (map-id c.loop-key.yielded) ∙ end.0) c.loop-key.invariant)

pub returns-then-eq : goal.returns-then-eq
returns-then-eq c =
    let keys : List Text = c.keys_of-key-items.result in
    let turn = YieldsList-turn (walk keys c.into_iter-key-iterator.ensures.into_iter_gives) c.loop-key.yielded _ c.loop-key.yielded_by _ _ c.in-Some.key c.in-Some.is c.next.ensures.steps in
    let is = (c.keys_of-key-items.ensures c.in-Some.key).0 (length c.loop-key.yielded, turn.0, sym turn.1) in
    first_under c.args.entries.now c.args.live (IsKeyFor c.args.principal.now) c.in-Some.key c.args.from c.next_live-found.result is (sym c.eq.ensures ∙ c.if-eq.true) c.next_live-found.ensures
