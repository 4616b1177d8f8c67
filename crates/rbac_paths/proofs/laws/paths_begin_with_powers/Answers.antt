use Rattle.rbac_paths.proofs.Beginning.{no_paths}
use Rattle.rbac_paths.proofs.laws.paths_begin_with_powers.Goals as goal

pub returns : goal.returns
returns c p powers principals steps who paths ok these none are = no_paths p ok powers these principals steps who none paths are
