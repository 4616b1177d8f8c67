use Rattle.std.proofs.Common.{sym, ◌∙◌}
use Rattle.std.proofs.lemmas.Bool.{false≢true}
use Rattle.rbac_manifest.proofs.GroupVersions.{group_of-alone, group_of-nothing, group_of-cut, group_of-bad}
use Rattle.rbac_manifest.proofs.api_list.group_of.Goals as goal
use Rattle.rbac_manifest.proofs.api_list.group_of.Goals.{else-is_part-2-via-then-is_part-2+else-is_part-3, else-is_part-2-via-else-is_part-2}

pub returns-then-is_part : goal.returns-then-is_part
returns-then-is_part c = group_of-alone c.args.version.now (c.is_part.ensures.0 c.if-is_part.true)

pub returns-in_err-group : goal.returns-in_err-group
returns-in_err-group c =
    rw c.from_residual.ensures (group_of-nothing c.args.version.now (λ part. false≢true (sym c.if-is_part.false ∙ c.is_part.ensures.1 part)) c.in_err-group.ensures)

pub returns-then-is_part-3 : goal.returns-then-is_part-3
returns-then-is_part-3 c = group_of-cut _ _ _ c.in_ok-group.ensures (c.is_part-2.ensures.0 c.if-is_part-2.true) (c.is_part-then-is_part-2.ensures.0 c.if-is_part-3.true)

pub returns-else-is_part-2 : goal.returns-else-is_part-2
returns-else-is_part-2 c = group_of-bad _ _ _ c.in_ok-group.ensures (elim c.else-is_part-2.branch [
  | else-is_part-2-via-then-is_part-2+else-is_part-3 w ↦ λ group version. false≢true (sym w.if-is_part-3.false ∙ w.is_part-then-is_part-2.ensures.1 version)
  | else-is_part-2-via-else-is_part-2 w ↦ λ group version. false≢true (sym w.if-is_part-2.false ∙ c.is_part-2.ensures.1 group)
])
