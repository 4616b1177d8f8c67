use Rattle.std.proofs.Common.{◌≡◌, ◌∙◌, ◌++◌, refl, ap, List, map, take, length, arith}
use Rattle.std.proofs.Math.Seq.{take-length}
use Rattle.rbac_terms.specs.declared.matching.Rule.{Rule}
use Rattle.rbac_terms.specs.declared.granting.ClusterRole.{ClusterRole}
use Rattle.rbac_index.proofs.RowLemmas.{rows_more}
use Rattle.rbac_index.proofs.rule_rows.push_cluster_roles.Goals as goal

pub loop-role-preserved : goal.loop-role-preserved
loop-role-preserved c =
    rows_more (λ (r : ClusterRole). r.rules) c.cluster_roles-role-items.result.now c.loop-role.role-index c.role-item.result (map (λ r. r.now) c.args.rows.now.items) c.loop-role.rows.items c.push.new.self.items _ c.loop-role-test.true c.role-item.is refl c.in_ok-push.ensures.items c.loop-role.invariant

pub returns : goal.returns
returns c =
    let roles = c.cluster_roles-role-items.result.now in
    let at : c.loop-role.role-index ≡ length roles = omega arith in
    let all : take c.loop-role.role-index roles ≡ roles = rw at (take-length roles) in
    let rules : List ClusterRole → List (List Rule) = map (λ r. r.rules) in
    c.loop-role.invariant ∙ ap (λ (rs : List (List Rule)). map (λ r. r.now) c.args.rows.now.items ++ rs) (ap rules (all ∙ c.cluster_roles-role-items.ensures.cluster_roles))
