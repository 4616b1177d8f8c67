use Rattle.std.proofs.Common.{◌≡◌, ◌++◌, map, take}
use Rattle.rbac_index.proofs.rule_rows.push_cluster_roles.Given as goal

abbrev pub invariant-loop-role : goal.invariant-loop-role
invariant-loop-role l = map (λ r. r.now) l.rows.items ≡ map (λ r. r.now) l.fn.rows.items ++ map (λ r. r.rules) (take l.role-index l.role-items)
