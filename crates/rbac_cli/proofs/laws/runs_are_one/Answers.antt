use Rattle.rbac_streams.specs.Taken.{Took}
use Rattle.rbac_cli.proofs.OneRun.{one_run}
use Rattle.rbac_cli.proofs.laws.runs_are_one.Goals as goal

pub returns : goal.returns
returns g c = λ start end old new command inputs log logged ended other same.
    one_run c.loaded_inputs_are_one.ensures c.loaded_inputs_have_no_fault.ensures c.load_faults_are_one.ensures c.resolved_policies_are_one.ensures c.resolved_policies_have_no_fault.ensures c.universes_have_no_fault.ensures c.powers_are_one.ensures c.paths_are_one.ensures c.one_path_is_one.ensures c.ways_are_one.ensures c.unused_lines_are_one.ensures c.least_is_one.ensures
    command inputs log logged same (Took g.V.Write.contents start end) (Took g.W.Write.contents old new) ended other
