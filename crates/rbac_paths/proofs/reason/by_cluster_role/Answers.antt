use Rattle.std.proofs.Common.{Bor, List, ap, arith, map, subst, sym}
use Rattle.std.specs.Option.{option_copied}
use Rattle.std.proofs.lemmas.List.{length-map}
use Rattle.rbac_terms.specs.declared.granting.ClusterRole.{ClusterRole}
use Rattle.rbac_paths.specs.Aims.{aim_of}
use Rattle.rbac_paths.specs.Told.{AreSourceRoles}
use Rattle.rbac_paths.proofs.Reasons.{cluster_role_none, cluster_role_rule, none_of_more, none_of_none, role_there}
use Rattle.rbac_paths.proofs.reason.by_cluster_role.Goals as goal

pub loop-source-init : goal.loop-source-init
loop-source-init c = none_of_none (aim_of c.args.aim) (option_copied c.args.scope) (map (λ s. s.now) c.as_slice-source-items.result.now)

pub loop-source-preserved : goal.loop-source-preserved
loop-source-preserved c =
    let items : List (Bor ClusterRole) = c.as_slice-source-items.result.now in
    none_of_more (aim_of c.args.aim) (option_copied c.args.scope) (map (λ s. s.now) items) c.loop-source.source-index c.source-item.result.now
    (role_there items c.loop-source.source-index c.source-item.result c.loop-source-test.true c.source-item.is) c.in_default.ensures c.loop-source.invariant

pub returns-in-Some : goal.returns-in-Some
returns-in-Some c =
    let items : List (Bor ClusterRole) = c.as_slice-source-items.result.now in
    let same = ap (λ (rs : List (Bor ClusterRole)). map (λ s. s.now) rs) c.as_slice-source-items.ensures.value in
    let are = subst (λ (ss : List ClusterRole). AreSourceRoles c.args.policy.now.held c.args.role.now ss) (sym same) c.in_ok-sources.ensures in
    let first = c.in-Some.ensures in
    cluster_role_rule (aim_of c.args.aim) (option_copied c.args.scope) c.args.policy.now.held c.args.role.now (map (λ s. s.now) items) c.loop-source.source-index c.source-item.result.now c.in-Some.place first.0 are
    (role_there items c.loop-source.source-index c.source-item.result c.loop-source-test.true c.source-item.is) c.loop-source.invariant first.1

pub returns : goal.returns
returns c =
    let items : List (Bor ClusterRole) = c.as_slice-source-items.result.now in
    let same = ap (λ (rs : List (Bor ClusterRole)). map (λ s. s.now) rs) c.as_slice-source-items.ensures.value in
    let are = subst (λ (ss : List ClusterRole). AreSourceRoles c.args.policy.now.held c.args.role.now ss) (sym same) c.in_ok-sources.ensures in
    cluster_role_none c.args.policy.now c.requires.policy (aim_of c.args.aim) c.args.role.now (option_copied c.args.scope) (map (λ s. s.now) items) are
    (λ k s low at a. c.loop-source.invariant k s (let end = c.loop-source-test.false in let len = length-map items (λ (s : Bor ClusterRole). s.now) in omega (arith, low, end, len)) at a)
