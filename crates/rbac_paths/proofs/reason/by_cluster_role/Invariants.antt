use Rattle.std.proofs.Common.{map}
use Rattle.std.specs.Option.{option_copied}
use Rattle.rbac_paths.specs.Aims.{aim_of}
use Rattle.rbac_paths.proofs.Reasons.{NoneOf}
use Rattle.rbac_paths.proofs.reason.by_cluster_role.Given as goal

abbrev pub invariant-loop-source : goal.invariant-loop-source
invariant-loop-source l = NoneOf (aim_of l.aim) (option_copied l.scope) (map (λ s. s.now) l.source-items) l.source-index
