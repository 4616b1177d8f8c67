use Rattle.std.proofs.Common.{arith}
use Rattle.std.proofs.lemmas.List.{length-map}
use Rattle.std.proofs.lemmas.Option.{slice_get_within}
use Rattle.rbac_model.specs.Universes.{Listed}
use Rattle.rbac_matrix.specs.Starting.{whats}
use Rattle.rbac_matrix.proofs.EveryStartLemmas.{no_line, no_target}
use Rattle.rbac_matrix.proofs.every_start.own_request.Goals as goal

pub returns-in_default-clause-found : goal.returns-in_default-clause-found
returns-in_default-clause-found c = no_line c.args.universe.now c.args.key.now c.in_default.ensures.absent

pub returns-in_default-target-clause-found : goal.returns-in_default-target-clause-found
returns-in_default-target-clause-found c = no_target c.args.universe.now c.target_place-target.ensures.universe c.args.key.now _ c.in_default-target.ensures.gap

pub overflow_cast-result : goal.overflow_cast-result
overflow_cast-result c =
    let f = c.in-Ok-target.ensures.found in
    let within = slice_get_within (whats c.args.universe.now) c.in-Ok-target.place f.here.0 f.here.1 in
    omega (arith, within, c.target_place-target.ensures.few, length-map c.args.universe.now.targets (λ (t : Listed). t.0))
