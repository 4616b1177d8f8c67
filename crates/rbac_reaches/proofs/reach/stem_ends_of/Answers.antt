use Rattle.std.proofs.Common.{sym, subst, List}
use Rattle.rbac_terms.specs.Targets.{What}
use Rattle.rbac_model.specs.Lists.{IsAscendingBy}
use Rattle.rbac_reaches.specs.Matched.{what_texts}
use Rattle.rbac_reaches.proofs.StemLemmas.{targets_ordered}
use Rattle.rbac_reaches.proofs.reach.stem_ends_of.Goals as goal

pub stem_ends-requires-clause-ordered : goal.stem_ends-requires-clause-ordered
stem_ends-requires-clause-ordered c = subst (λ (ts : List What). IsAscendingBy what_texts ts) (sym c.targets.ensures.targets) (targets_ordered c.args.universe.now.targets c.targets.ensures.ordered.targets)
