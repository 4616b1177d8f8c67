use Rattle.std.proofs.Common.{◌≡◌, ◌+◌, ◌++◌, ◌∷◌, [], List, arith, get_or, subst, sym, take, ℕ}
use Rattle.std.proofs.lemmas.List.{take_all, take_more}
use Rattle.rbac_model.specs.Sources.{grant_of}
use Rattle.rbac_paths.specs.Deciding.{GiveHoldings}
use Rattle.rbac_paths.specs.Having.{HoldingView}
use Rattle.rbac_paths.specs.Told.{grant_holding}
use Rattle.rbac_paths.proofs.WhatDecides.{given_more}
use Rattle.rbac_paths.proofs.deciding.given_by.Goals as goal

pub loop-no-preserved : goal.loop-no-preserved
loop-no-preserved c =
    let p = c.args.policy.now in
    let items = c.args.numbers.now in
    let i = c.loop-no.no-index in
    let number = get_or items i 0 in
    let g = grant_of c.grant.result in
    let hs = c.loop-no.holdings.items in
    let pushed : c.push.new.self.items ≡ hs ++ grant_holding g ∷ [] = rw (← c.by.ensures) c.in_ok-push.ensures.items in
    subst (λ (xs : List HoldingView). GiveHoldings p (take (i + 1) items) xs) (sym pushed)
    (subst (λ (ns : List ℕ). GiveHoldings p ns (hs ++ grant_holding g ∷ [])) (sym (take_more items i 0 c.loop-no-test.true)) (given_more p (take i items) number g c.grant.ensures.grant hs c.loop-no.invariant))

pub returns : goal.returns
returns c =
    let items = c.args.numbers.now in
    let i = c.loop-no.no-index in
    subst (λ (ns : List ℕ). GiveHoldings c.args.policy.now ns c.loop-no.holdings.items) (take_all i items (let test = c.loop-no-test.false in omega (arith, test))) c.loop-no.invariant
