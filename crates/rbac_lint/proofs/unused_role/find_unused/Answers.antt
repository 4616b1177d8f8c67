use Rattle.std.proofs.Common.{◌≡◌, ap, arith, length}
use Rattle.std.proofs.lemmas.Bool.{both_ways}
use Rattle.rbac_model.specs.Policies.{Held}
use Rattle.rbac_lint.specs.Roles.{roles_in}
use Rattle.rbac_lint.specs.Findings.{IsUnusedOf}
use Rattle.rbac_lint.specs.Wanted.{OfKept}
use Rattle.rbac_lint.proofs.Exact.{AddsLines-start}
use Rattle.rbac_lint.proofs.Order.{AddsLines-next}
use Rattle.rbac_lint.proofs.RoleLines.{source_texts, roles_ascend, there}
use Rattle.rbac_lint.proofs.Named.{unused_names}
use Rattle.rbac_lint.proofs.Kept.{kept_names, AddsLines-wanted, AddsLines-unwanted}
use Rattle.rbac_lint.proofs.unused_role.find_unused.Goals as goal

pub returns-then-not-has_code : goal.returns-then-not-has_code
returns-then-not-has_code c =
    let h = c.args.policy.now.held in
    AddsLines-unwanted source_texts (IsUnusedOf h) 2 (unused_names h) c.args.wanted.now (roles_in h) c.args.found.now
    (λ has. both_ways _ c.if-not-has_code.true (c.has_code.ensures.1 has))

pub loop-place-init : goal.loop-place-init
loop-place-init c = AddsLines-start (λ k s. OfKept c.args.wanted.now (IsUnusedOf c.args.policy.now.held s)) (roles_in c.args.policy.now.held) c.args.found.now

pub loop-place-preserved : goal.loop-place-preserved
loop-place-preserved c =
    let h = c.args.policy.now.held in
    let w = c.args.wanted.now in
    let count : length (roles_in c.objects-objects.result.now) ≡ length (roles_in h) = ap (λ (v : Held). length (roles_in v)) c.objects-objects.ensures.held in
    let s = there (roles_in h) c.loop-place.place (omega (arith, count, c.role_count-place-end.ensures.count)) in
    AddsLines-next source_texts (λ z. OfKept w (IsUnusedOf h z)) 2 (kept_names source_texts (IsUnusedOf h) 2 (unused_names h) w) (roles_in h) c.loop-place.place s.0 c.args.found.now c.loop-place.found c.find_unused_at.new.found
    (roles_ascend h c.objects-objects.ensures.policy.0) s.1 c.loop-place.invariant (c.in_ok-find_unused_at.ensures s.0 s.1)

pub returns : goal.returns
returns c =
    let h = c.args.policy.now.held in
    let count : length (roles_in c.objects-objects.result.now) ≡ length (roles_in h) = ap (λ (v : Held). length (roles_in v)) c.objects-objects.ensures.held in
    AddsLines-wanted source_texts (IsUnusedOf h) 2 (unused_names h) c.args.wanted.now (roles_in h) c.loop-place.place c.args.found.now c.loop-place.found (omega (arith, count, c.role_count-place-end.ensures.count))
    (c.has_code.ensures.0 c.if-not-has_code.false) c.loop-place.invariant
