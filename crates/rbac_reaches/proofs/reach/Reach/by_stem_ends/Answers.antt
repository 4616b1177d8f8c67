use Rattle.std.proofs.Common.{sym, subst, List}
use Rattle.rbac_terms.specs.Targets.{What}
use Rattle.rbac_model.specs.Lists.{IsAscendingBy}
use Rattle.rbac_model.specs.Sources.{grant_of}
use Rattle.rbac_reaches.specs.Matched.{what_texts}
use Rattle.rbac_reaches.proofs.StemLemmas.{targets_ordered}
use Rattle.rbac_reaches.proofs.reach.Reach.by_stem_ends.Goals as goal

pub matched-requires-clause-ordered : goal.matched-requires-clause-ordered
matched-requires-clause-ordered c = subst (λ (ts : List What). IsAscendingBy what_texts ts) (sym c.targets.ensures.targets) (targets_ordered c.args.universe.now.targets c.targets.ensures.ordered.targets)

pub returns : goal.returns
returns c = (grant_of c.grant.result, c.grant.ensures.grant, rw (c.in_ok-new.ensures.ok, ← c.targets.ensures.targets) c.in_ok-places.ensures)
