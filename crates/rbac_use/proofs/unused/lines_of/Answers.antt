use Rattle.std.proofs.Common.{◌≡◌, ◌≤◌, ◌<◌, ◌∙◌, [], List, ap, arith, get_or, length, subst, sym}
use Rattle.std.proofs.lemmas.List.{get_or_default}
use Rattle.rbac_use.specs.Asked.{AreAskedAt}
use Rattle.rbac_use.specs.Requests.{log_of}
use Rattle.rbac_use.specs.Unused.{IsUnusedAt}
use Rattle.rbac_use.specs.declared.request.Request.{Request}
use Rattle.rbac_use.proofs.BindingLines.{all_unused, binding_stands}
use Rattle.rbac_use.proofs.Exact.{lines_start}
use Rattle.rbac_use.proofs.Places.{more_at}
use Rattle.rbac_use.proofs.unused.lines_of.Goals as goal

pub loop-place-init : goal.loop-place-init
loop-place-init c requests are = rw c.new-found.ensures.items (lines_start (IsUnusedAt c.args.policy.now (log_of requests) c.args.skip_system) [])

pub loop-place-preserved : goal.loop-place-preserved
loop-place-preserved c requests are =
    let p = c.args.policy.now in
    let log = log_of requests in
    let place = c.loop-place.place in
    let lists = c.args.asked.now in
    let low : place < length lists = omega (arith, c.loop-place-test.true, ap length c.bindings-places.ensures.bindings, are.len) in
    let own : c.as_slice-own.result.now ≡ get_or lists place [] = c.as_slice-own.ensures ∙ c.index-asked-place.is ∙ get_or_default lists place c.index-asked-place.result [] low in
    let asked = subst (λ (xs : List Request). AreAskedAt p place requests xs) (sym own) (are.each place low) in
    more_at [] (IsUnusedAt p log c.args.skip_system) (binding_stands p log c.args.skip_system) place [] c.loop-place.found.items c.add_kept.new.found.items (c.loop-place.invariant requests are) (c.in_ok-add_kept.ensures requests asked)

pub returns-clause-unused : goal.returns-clause-unused
returns-clause-unused c requests are =
    let p = c.args.policy.now in
    let all : length p.held.bindings ≤ c.loop-place.place = omega (arith, c.loop-place-test.false, ap length c.bindings-places.ensures.bindings) in
    all_unused p (log_of requests) c.args.skip_system c.loop-place.place c.loop-place.found.items all (c.loop-place.invariant requests are)
