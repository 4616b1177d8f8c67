use Rattle.std.proofs.Common.{◌≡◌, ◌↔◌, ◌∙◌, ◌+◌, [], List, ℕ, Contains, ap, arith, get_or, length, subst}
use Rattle.std.proofs.lemmas.List.{get_or_read, length_push}
use Rattle.rbac_paths.specs.Joints.{IsOverOthersAt}
use Rattle.rbac_paths.proofs.GraphOf.{pushed_below}
use Rattle.rbac_paths.proofs.ListPlaces.{place_within, within_grants}
use Rattle.rbac_paths.proofs.graph.few_of_bindings.Goals as goal

pub over_others_among-requires : goal.over_others_among-requires
over_others_among-requires c =
    let grants = c.args.grants.now in
    let i = c.loop-numbers.numbers-index in
    within_grants c.args.policy.now grants c.requires i c.as_slice.result.now (c.as_slice.ensures ∙ get_or_read grants i c.numbers-item.result c.loop-numbers-test.true c.numbers-item.is [])

pub loop-numbers-preserved : goal.loop-numbers-preserved
loop-numbers-preserved c =
    let p = c.args.policy.now in
    let grants = c.args.grants.now in
    let i = c.loop-numbers.numbers-index in
    let few = c.loop-numbers.few.items in
    let own = c.in_ok-over_others_among.field-0 in
    let same : c.as_slice.result.now ≡ get_or grants i [] = c.as_slice.ensures ∙ get_or_read grants i c.numbers-item.result c.loop-numbers-test.true c.numbers-item.is [] in
    rw c.in_ok-push.ensures.items (
      length_push few own ∙ ap (λ (n : ℕ). n + 1) c.loop-numbers.invariant.0,
      λ steps have at n low. pushed_below (λ j x. (m : ℕ) → Contains x m ↔ (Contains (get_or grants j []) m × IsOverOthersAt p steps m)) [] few own i c.loop-numbers.invariant.0
          (λ j less m. c.loop-numbers.invariant.1 steps have j m less)
          (subst (λ (ns : List ℕ). (m : ℕ) → Contains own m ↔ (Contains ns m × IsOverOthersAt p steps m)) same (c.in_ok-over_others_among.ensures steps have)) at low n,
    )

pub returns : goal.returns
returns c steps have at n =
    let grants = c.args.grants.now in
    let few = c.loop-numbers.few.items in
    let i = c.loop-numbers.numbers-index in
    let end : i ≡ length grants = (let test = c.loop-numbers-test.false in let low = c.loop-numbers.auto.numbers-index-end in omega (arith, test, low)) in
    let each = c.loop-numbers.invariant.1 steps have at n in (
      λ h. (each (let low = place_within few at n h in let len = c.loop-numbers.invariant.0 in omega (arith, low, len))).0 h,
      λ w. (each (let low = place_within grants at n w.0 in omega (arith, low, end))).1 w,
    )
