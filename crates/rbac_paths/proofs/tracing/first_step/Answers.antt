use Rattle.std.proofs.Common.{List, get_or, subst, sym, ℕ}
use Rattle.std.proofs.lemmas.List.Elements.{Contains-get_or}
use Rattle.rbac_paths.specs.Aims.{ToTakeOver}
use Rattle.rbac_paths.specs.Deciding.{AreNumbersOf, IsAnyNode}
use Rattle.rbac_paths.specs.Having.{HoldingView}
use Rattle.rbac_paths.specs.Joints.{DecideOn, DecidesOf, DecidingView}
use Rattle.rbac_paths.specs.Nodes.{node_of}
use Rattle.rbac_paths.specs.Reasons.{IsReason, reason_view}
use Rattle.rbac_paths.specs.Told.{IsFirstTold}
use Rattle.rbac_steps.specs.declared.steps.Step.{Step}
use Rattle.rbac_paths.proofs.LinesTold.{matched_none, matched_some}
use Rattle.rbac_paths.proofs.WhatDecides.{decide_about, numbers_within}
use Rattle.rbac_paths.proofs.tracing.first_step.Goals as goal

pub reason_by-requires-clause-within : goal.reason_by-requires-clause-within
reason_by-requires-clause-within c =
    let p = c.args.policy.now in
    let steps = c.args.steps.now in
    let x = node_of c.args.from in
    let numbers = c.as_slice-numbers.result.now in
    let of = subst (λ (d : DecidingView). DecidesOf p steps x d) (sym c.known.view_is) c.requires.known in
    let own = subst (λ (ns : List ℕ). AreNumbersOf p steps x ns) (sym c.as_slice-numbers.ensures.value) of.0 in
    λ k d low. numbers_within p steps x numbers own (get_or numbers k d) (Contains-get_or numbers k d low)

pub returns-in_default : goal.returns-in_default
returns-in_default c =
    let p = c.args.policy.now in
    let steps = c.args.steps.now in
    let x = node_of c.args.from in
    let of = subst (λ (d : DecidingView). DecidesOf p steps x d) (sym c.known.view_is) c.requires.known in
    let decide = subst (λ (hs : List HoldingView). DecideOn p steps x hs IsAnyNode) (sym c.as_slice-holdings.ensures.value) of.1 in
    matched_none c.first_told.result _ _ c.in_default.not-Some (c.first_told.ensures p (decide_about p steps x c.as_slice-holdings.result.now decide (node_of c.args.to)))

pub returns-in_default-2 : goal.returns-in_default-2
returns-in_default-2 c =
    let p = c.args.policy.now in
    let steps = c.args.steps.now in
    let x = node_of c.args.from in
    let of = subst (λ (d : DecidingView). DecidesOf p steps x d) (sym c.known.view_is) c.requires.known in
    let decide = subst (λ (hs : List HoldingView). DecideOn p steps x hs IsAnyNode) (sym c.as_slice-holdings.ensures.value) of.1 in
    let first = matched_some c.first_told.result _ _ c.in-Some.rows c.in-Some.is (c.first_told.ensures p (decide_about p steps x c.as_slice-holdings.result.now decide (node_of c.args.to))) in
    let own = subst (λ (ns : List ℕ). AreNumbersOf p steps x ns) (sym c.as_slice-numbers.ensures.value) of.0 in
    let reason = c.in_ok-reason.ensures steps first.1.holds.among own in
    λ takes. matched_none c.in_ok-reason.field-0 _ _ c.in_default-2.not-Some reason first.1.holds.can

pub returns : goal.returns
returns c =
    let p = c.args.policy.now in
    let steps = c.args.steps.now in
    let x = node_of c.args.from in
    let y = node_of c.args.to in
    let of = subst (λ (d : DecidingView). DecidesOf p steps x d) (sym c.known.view_is) c.requires.known in
    let decide = subst (λ (hs : List HoldingView). DecideOn p steps x hs IsAnyNode) (sym c.as_slice-holdings.ensures.value) of.1 in
    let first = matched_some c.first_told.result _ _ c.in-Some.rows c.in-Some.is (c.first_told.ensures p (decide_about p steps x c.as_slice-holdings.result.now decide y)) in
    let own = subst (λ (ns : List ℕ). AreNumbersOf p steps x ns) (sym c.as_slice-numbers.ensures.value) of.0 in
    let reason = c.in_ok-reason.ensures steps first.1.holds.among own in (
      subst (λ (s : Step). IsFirstTold p steps x y s) (sym c.step.ensures) first,
      subst (λ (s : Step). IsReason p x (ToTakeOver s y) (reason_view c.in-Some-2.reason)) (sym c.step.ensures) (matched_some c.in_ok-reason.field-0 _ _ c.in-Some-2.reason c.in-Some-2.is reason),
    )
