use Rattle.std.proofs.Common.{rules, tests}
use Rattle.rbac_universe.proofs.SetLemmas.{length_listed}
use Rattle.rbac_universe.proofs.sets.UniverseSets.has_few_targets.Goals as goal

pub returns : goal.returns
returns c = rw (length_listed c.args.self.now.names.items c.args.self.now.stems.items, c.count_targets.ensures, c.as_slice.ensures.value, c.as_slice-2.ensures.value) (search (rules, tests))
