use Rattle.std.proofs.Common.{List, Option, subst, sym, ℕ}
use Rattle.std.proofs.lemmas.Option.{slice_get_within}
use Rattle.rbac_paths.specs.Aims.{ToTakeOver}
use Rattle.rbac_paths.specs.Asked.{AreAskedBy, AskedRowView}
use Rattle.rbac_paths.specs.Deciding.{IsLeastTaking}
use Rattle.rbac_paths.specs.Nodes.{node_of}
use Rattle.rbac_paths.proofs.LinesTold.{matched_none}
use Rattle.rbac_paths.proofs.WhatDecides.{least_first, match_some, none_taking}
use Rattle.rbac_paths.proofs.reason.by_numbers.Goals as goal

pub returns-in_default : goal.returns-in_default
returns-in_default c steps among are =
    let step = c.args.rows.now in
    let y = node_of c.args.to in
    let asked = subst (λ (rows : List AskedRowView). AreAskedBy step y rows) (sym c.as_slice.ensures.value) c.in_ok-asked.ensures in
    none_taking c.args.policy.now c.requires.policy c.args.who.now steps step among c.args.numbers.now are y
    (matched_none c.least_taking.result _ _ c.in_default.not-Some (c.least_taking.ensures step y asked))

pub by_number-requires-clause-within : goal.by_number-requires-clause-within
by_number-requires-clause-within c =
    let step = c.args.rows.now in
    let y = node_of c.args.to in
    let asked = subst (λ (rows : List AskedRowView). AreAskedBy step y rows) (sym c.as_slice.ensures.value) c.in_ok-asked.ensures in
    let least = subst (λ (o : Option ℕ). IsLeastTaking c.args.policy.now step y c.args.numbers.now o) c.in-Some.is (c.least_taking.ensures step y asked) in
    let takes = least.1 in
    slice_get_within c.args.policy.now.grants c.in-Some.no takes.0 takes.1

pub returns : goal.returns
returns c steps among are =
    let step = c.args.rows.now in
    let y = node_of c.args.to in
    let asked = subst (λ (rows : List AskedRowView). AreAskedBy step y rows) (sym c.as_slice.ensures.value) c.in_ok-asked.ensures in
    let least = subst (λ (o : Option ℕ). IsLeastTaking c.args.policy.now step y c.args.numbers.now o) c.in-Some.is (c.least_taking.ensures step y asked) in
    let first = least_first c.args.policy.now c.requires.policy c.args.who.now steps step among c.args.numbers.now are y c.in-Some.no least in
    match_some c.by_number.result _ _ (c.by_number.ensures (ToTakeOver step y) first.0 first.1)
