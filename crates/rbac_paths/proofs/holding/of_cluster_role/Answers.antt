use Rattle.std.proofs.Common.{◌≡◌, ◌∙◌, Bor, List, ap, arith, map, take}
use Rattle.std.specs.Option.{option_copied}
use Rattle.std.proofs.lemmas.List.{take_all}
use Rattle.rbac_terms.specs.declared.granting.ClusterRole.{ClusterRole}
use Rattle.rbac_paths.proofs.RoleRules.{cluster_role_has, holdings_of}
use Rattle.rbac_paths.proofs.holding.of_cluster_role.Goals as goal

pub returns : goal.returns
returns c =
    let home = option_copied c.args.scope in
    let sources = c.in_ok-sources.sources.items in
    let xs = c.as_slice-source-items.result.now in
    let all : take c.loop-source.source-index xs ≡ sources = take_all c.loop-source.source-index xs (omega (arith, c.loop-source-test.false)) ∙ c.as_slice-source-items.ensures.value in
    cluster_role_has c.args.policy.now c.args.role.now home (map (λ s. s.now) sources) c.in_ok-sources.ensures c.loop-source.holdings.items
    (c.loop-source.invariant ∙ ap (λ (rs : List (Bor ClusterRole)). holdings_of home (map (λ s. s.now) rs)) all)
