use Rattle.std.proofs.Common.{[]}
use Rattle.rbac_paths.proofs.rows.WordRow.is_asked_by.Goals as goal

pub returns-else-is_live : goal.returns-else-is_live
returns-else-is_live c = rw (← c.held.view_is) (
  λ t. (let both = t in cc),
  λ a. (let both = (c.is_live.ensures [] []).1 (a.0 [] []) in let not = c.if-is_live.false in cc),
)
