use Rattle.std.proofs.Common.{sym, ◌∙◌}
use Rattle.std.proofs.lemmas.Slice.Zip.{firsts-zip}
use Rattle.rbac_universe.proofs.universe.Universe.targets.Goals as goal

pub returns-clause-targets : goal.returns-clause-targets
returns-clause-targets c =
    rw (← c.self.view_is) (c.as_slice.ensures.value ∙ sym (firsts-zip c.self.inside.targets.items c.self.inside.namespaced.items c.self.invariant.0))
