use Rattle.std.proofs.Common.{◌≡◌, refl, []}
use Rattle.std.specs.Prelude.{None}
use Rattle.std.proofs.lemmas.Bool.{both_ways}
use Rattle.rbac_terms.proofs.Cases.{on_ok}
use Rattle.rbac_model.specs.Policies.{InClusterRole, cluster_role_name}
use Rattle.rbac_lint.specs.declared.finding.Finding.{Finding}
use Rattle.rbac_lint.specs.Lines.{Line, shown}
use Rattle.rbac_lint.specs.Roles.{cluster_role_object}
use Rattle.rbac_lint.specs.Findings.{IsStaleRole, IsStaleOf, role_line}
use Rattle.rbac_lint.proofs.Exact.{AddsLines-nowhere, AddsLines-if}
use Rattle.rbac_lint.proofs.Named.{stale_names}
use Rattle.rbac_lint.proofs.Kept.{AddsLines-dropped, AddsLines-kept}
use Rattle.rbac_lint.proofs.stale_aggregate.find_stale_role.Goals as goal

pub returns-then-not-keeps_role : goal.returns-then-not-keeps_role
returns-then-not-keeps_role c =
    let h = c.args.policy.now.held in
    let r = c.args.role.now in
    AddsLines-dropped cluster_role_name (IsStaleOf h) 6 (stale_names h) c.args.wanted.now r (cluster_role_object r.name) c.args.found.now refl
    (λ kept. both_ways _ c.if-not-keeps_role.true (c.keeps_role.ensures.1 kept))

pub returns-then-not-branch : goal.returns-then-not-branch
unfolding IsStaleOf
returns-then-not-branch c =
    let h = c.args.policy.now.held in
    let r = c.args.role.now in
    let old = c.args.found.now in
    AddsLines-kept cluster_role_name (IsStaleOf h) 6 (stale_names h) c.args.wanted.now r (cluster_role_object r.name) old old refl (c.keeps_role.ensures.0 c.if-not-keeps_role.false)
    (AddsLines-nowhere (IsStaleRole h r) (λ x. x ≡ role_line 6 (InClusterRole r) None []) old
    (λ s. both_ways _ c.if-not-branch.true (c.in_ok-is_stale.ensures.1 s)))

pub returns : goal.returns
unfolding IsStaleOf
returns c =
    let h = c.args.policy.now.held in
    let r = c.args.role.now in
    let old = c.args.found.now in
    let new = c.push.new.self in
    let object = c.in_ok-object.ensures in
    let other = c.new.ensures in
    let made : Finding = record { code = 6; object = c.in_ok-object.object; place = None; other = c.new.result } in
    let line : Line = role_line 6 (InClusterRole r) None [] in
    let same : made ≡ shown line = cc (object, other) in
    on_ok c.push.result
    (λ e. AddsLines-kept cluster_role_name (IsStaleOf h) 6 (stale_names h) c.args.wanted.now r (cluster_role_object r.name) old new refl (c.keeps_role.ensures.0 c.if-not-keeps_role.false)
    (AddsLines-if (IsStaleRole h r) line old new made (c.in_ok-is_stale.ensures.0 c.if-not-branch.false) same e))
    c.push.ensures
