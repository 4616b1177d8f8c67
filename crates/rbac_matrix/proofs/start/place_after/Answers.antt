use Rattle.rbac_matrix.proofs.SearchLemmas.{target_found, target_gap}
use Rattle.rbac_matrix.proofs.start.place_after.Goals as goal

pub returns-in-Ok-clause-place : goal.returns-in-Ok-clause-place
returns-in-Ok-clause-place c = target_found c.args.universe.now c.target_place.ensures.universe c.args.key.now c.in-Ok.place c.in-Ok.ensures.found

pub returns-in-Err-clause-place : goal.returns-in-Err-clause-place
returns-in-Err-clause-place c = target_gap c.args.universe.now c.target_place.ensures.universe c.args.key.now c.in-Err.place c.in-Err.ensures.gap
