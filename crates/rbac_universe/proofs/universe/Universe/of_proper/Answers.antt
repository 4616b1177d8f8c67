use Rattle.rbac_universe.specs.UniverseSets.{universe_of}
use Rattle.rbac_universe.proofs.SetLemmas.{sets_ordered}
use Rattle.rbac_universe.proofs.universe.Universe.of_proper.Goals as goal

pub of-requires-2-clause-made : goal.of-requires-2-clause-made
of-requires-2-clause-made c = record {
  ordered = sets_ordered c.args.lists.now (universe_of c.in_ok-sets.sets) c.in_ok-sets.ensures.sets;
  few = c.is_within_limits.ensures.0 c.if-not-is_within_limits.false;
}
