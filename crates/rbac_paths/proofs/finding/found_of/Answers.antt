use Rattle.std.proofs.Common.{◌≡◌, ◌∙◌, ℕ, List, Some, None, ap, arith, length, subst, sym}
use Rattle.std.specs.Map.{lookup}
use Rattle.std.specs.Ordering.{is_eq}
use Rattle.rbac_terms.specs.Text.{Text, text_cmp}
use Rattle.rbac_model.specs.Sources.{grant_of}
use Rattle.rbac_paths.specs.Finding.{FindsPowers}
use Rattle.rbac_paths.specs.Powers.{PowerView}
use Rattle.rbac_paths.specs.Rows.{AreOfStep}
use Rattle.rbac_paths.specs.Steps.{table}
use Rattle.rbac_paths.proofs.Gathering.{finds_none, finds_same, finds_more}
use Rattle.rbac_paths.proofs.finding.found_of.Goals as goal
use Rattle.rbac_paths.proofs.finding.found_of.Goals.{in-Some+in_ok-add_of_grant, in_default}

pub loop-place-init : goal.loop-place-init
loop-place-init c =
    finds_none c.args.policy.now c.args.step c.new-found.result
    (λ t y e. (let none = ap (λ (es : List (Text × PowerView)). lookup (λ k. is_eq (text_cmp t k)) es) c.new-found.ensures.empty in let both : None ≡ Some y = sym none ∙ e in cc))

pub loop-place-preserved : goal.loop-place-preserved
loop-place-preserved c =
    let p = c.args.policy.now in
    let step = c.args.step in
    let k = c.loop-place.place in
    let of : AreOfStep step table c.as_slice.result.now = rw c.as_slice.ensures.value c.in_ok-rows.ensures in
    let found = c.first_giving.ensures.first step of in
    elim c.match-first_giving.branch [
      | in-Some+in_ok-add_of_grant w ↦ (let g = grant_of w.grant.result in
          rw w.found-is (finds_more p step c.first_giving.ensures.policy k w.in-Some.no g w.grant.ensures.grant (rw w.in-Some.is at found) c.loop-place.found w.add_of_grant.new.found c.loop-place.invariant w.in_ok-add_of_grant.ensures))
      | in_default w ↦ rw w.found-is (finds_same p step k c.loop-place.found (rw w.in_default.is at found) c.loop-place.invariant)
    ]

pub returns : goal.returns
returns c =
    let all : c.loop-place.place ≡ length c.args.policy.now.held.bindings = omega (arith, c.loop-place-test.false, ap length c.bindings-places.ensures.bindings, c.loop-place.auto.place-end) in
    record {
      found = subst (λ (n : ℕ). FindsPowers c.args.policy.now c.args.step n c.loop-place.found) all c.loop-place.invariant;
      policy = c.bindings-places.ensures.policy;
    }
