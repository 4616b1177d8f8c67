use Rattle.rbac_cli.proofs.OneAnswer.{one_answer}
use Rattle.rbac_cli.proofs.laws.answers_are_one.Goals as goal

pub returns : goal.returns
returns c = one_answer c.powers_are_one.ensures c.paths_are_one.ensures c.one_path_is_one.ensures c.ways_are_one.ensures c.unused_lines_are_one.ensures c.least_is_one.ensures
