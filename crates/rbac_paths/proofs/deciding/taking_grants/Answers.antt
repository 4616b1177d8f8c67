use Rattle.std.proofs.Common.{◌≡◌, ◌∙◌, ◌++◌, ◌∷◌, [], List, ℕ, ap, arith, get_or, length, replicate, subst, sym, true}
use Rattle.std.proofs.Math.ListN.{length-set}
use Rattle.std.specs.Cmp.{unsigned_Decides}
use Rattle.std.proofs.lemmas.List.{get_or_default, length-replicate}
use Rattle.rbac_terms.specs.declared.granting.Binding.{Binding}
use Rattle.rbac_paths.specs.Deciding.{IsTakingAt}
use Rattle.rbac_paths.specs.Takeovers.{AreTakeovers, HaveTakeovers}
use Rattle.rbac_steps.specs.declared.steps.Step.{Step}
use Rattle.rbac_paths.specs.declared.takeover.Takeover.{Takeover}
use Rattle.rbac_paths.proofs.ByBinding.{list_there, listed_all, listed_more, listed_same, none_listed}
use Rattle.rbac_paths.proofs.RuleTakeovers.{rule_of_grant}
use Rattle.rbac_paths.proofs.Takeovers.{matches_none, none_of, not_empty, some_matches}
use Rattle.rbac_paths.proofs.WhatDecides.{taking_rule}
use Rattle.rbac_paths.proofs.deciding.taking_grants.Goals as goal
use Rattle.rbac_paths.proofs.deciding.taking_grants.Goals.{then-not-is_empty+in_ok-push, else-not-is_empty}

pub loop-no-init : goal.loop-no-init
loop-no-init c =
    let p = c.args.policy.now in
    let lists = c.in_ok-lists.lists.items in
    let none = subst (λ (bindings : List Binding). lists ≡ replicate (length bindings) []) c.bindings.ensures.bindings c.in_ok-lists.ensures in (
      ap length none ∙ length-replicate (length p.held.bindings) [],
      λ steps have. none_listed p c.requires (IsTakingAt p steps) lists none,
    )

pub index_mut-requires : goal.index_mut-requires
index_mut-requires c =
    let fits = list_there c.args.policy.now c.loop-no.no c.place-at.result.binding c.loop-no.lists.items c.loop-no.invariant.0 c.place-at.ensures.binding in
    omega (arith, fits, c.loop-no.lists.ok)

pub loop-no-preserved : goal.loop-no-preserved
loop-no-preserved c =
    let p = c.args.policy.now in
    let number = c.loop-no.no in
    let lists = c.loop-no.lists.items in
    let at = c.place-at.result in
    let place = at.binding in
    let of = c.place-at.ensures.binding in
    let g = of.0 in
    let sourced = rule_of_grant p.held at g (c.place-at.ensures.grant ∙ of.1) in
    let ts = c.of_grant.result.now in
    let are : (steps : List Step) → HaveTakeovers p.held steps c.args.takeovers.now → AreTakeovers steps g.rule.rule ts = λ steps have.
    subst (λ (xs : List Takeover). AreTakeovers steps g.rule.rule xs) (sym c.of_grant.ensures) (have at.role at.rule g.rule sourced) in
    let low = list_there p number place lists c.loop-no.invariant.0 of in
    elim c.if-not-is_empty.branch [
      | then-not-is_empty+in_ok-push w ↦ (
          let had : w.index_mut.result.now ≡ get_or lists place [] = w.index_mut.ensures.value ∙ get_or_default lists place w.index_mut.result.now [] low in
          let more : w.push.new.self ≡ get_or lists place [] ++ number ∷ [] = w.in_ok-push.ensures.ok ∙ ap (λ (ns : List ℕ). ns ++ number ∷ []) had in
          let some = not_empty ts (λ e. (let both : c.is_empty.result ≡ true = c.is_empty.ensures ∙ (unsigned_Decides (length ts) 0).1 (ap length e) in let not = w.if-not-is_empty.true in cc)) in
          rw (w.lists-is, more) (
            length-set lists place (get_or lists place [] ++ number ∷ []) ∙ c.loop-no.invariant.0,
            λ steps have. listed_more p c.requires (IsTakingAt p steps) number lists (c.loop-no.invariant.1 steps have) place of (g, of.1, some_matches steps g.rule.rule ts (are steps have) some.0 some.1),
          )
          )
      | else-not-is_empty w ↦ rw w.lists-is (
        c.loop-no.invariant.0,
        λ steps have. listed_same p c.requires (IsTakingAt p steps) number lists (c.loop-no.invariant.1 steps have)
            (λ t. matches_none steps g.rule.rule ts (are steps have) (none_of ts ((unsigned_Decides (length ts) 0).0 (sym c.is_empty.ensures ∙ w.if-not-is_empty.false))) (taking_rule p steps number g of.1 t)),
      )
    ]

pub returns : goal.returns
returns c steps have =
    let p = c.args.policy.now in
    listed_all p c.requires (IsTakingAt p steps) c.loop-no.no c.loop-no.lists.items (c.loop-no.invariant.1 steps have) (let test = c.loop-no-test.false in let low = c.loop-no.auto.no-end in let len = c.len-no-end.ensures.len in omega (arith, test, low, len))
