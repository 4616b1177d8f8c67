use Rattle.rbac_steps.specs.Steps.{steps}
use Rattle.rbac_paths.proofs.OnePowers.{one_powers}
use Rattle.rbac_paths.proofs.laws.powers_are_one.Goals as goal

pub returns : goal.returns
returns c p xs others a b = one_powers p steps xs others a b
