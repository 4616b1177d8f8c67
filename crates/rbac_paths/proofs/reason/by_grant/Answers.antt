use Rattle.std.proofs.lemmas.Option.{slice_get_within}
use Rattle.rbac_paths.specs.Aims.{aim_of}
use Rattle.rbac_paths.proofs.Reasons.{somebody_none}
use Rattle.rbac_paths.proofs.WhatDecides.{match_some}
use Rattle.rbac_paths.proofs.reason.by_grant.Goals as goal

pub returns-in_err-no : goal.returns-in_err-no
returns-in_err-no c = rw c.from_residual.ensures (somebody_none c.args.policy.now (aim_of c.args.aim) c.args.who.now c.requires.policy c.in_err-no.ensures)

pub by_number-requires-clause-within : goal.by_number-requires-clause-within
by_number-requires-clause-within c = let first = c.in_ok-no.ensures in slice_get_within c.args.policy.now.grants c.in_ok-no.no first.0 first.1.here

pub returns : goal.returns
returns c = match_some c.by_number.result _ _ (c.by_number.ensures (aim_of c.args.aim) c.in_ok-no.ensures.0 c.in_ok-no.ensures.1)
