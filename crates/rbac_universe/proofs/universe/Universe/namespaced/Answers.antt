use Rattle.std.proofs.Common.{arith, vec_len}
use Rattle.std.proofs.lemmas.Option.{slice_get_read}
use Rattle.std.proofs.lemmas.Slice.Zip.{seconds-zip}
use Rattle.rbac_universe.proofs.SetLemmas.{zip_within}
use Rattle.rbac_universe.proofs.universe.Universe.namespaced.Goals as goal

pub index-requires : goal.index-requires
index-requires c =
    let place = zip_within c.self.inside.targets.items c.self.inside.namespaced.items c.args.place c.self.invariant.0 (rw (← c.self.view_is) at c.requires) in
    omega (arith, c.self.inside.namespaced.ok.0)

pub returns : goal.returns
returns c =
    let flags = c.self.inside.namespaced in
    let place = zip_within c.self.inside.targets.items flags.items c.args.place c.self.invariant.0 (rw (← c.self.view_is) at c.requires) in
    rw (← c.self.view_is, seconds-zip c.self.inside.targets.items flags.items c.self.invariant.0)
    (slice_get_read flags.items (vec_len flags) c.args.place c.index.result.now flags.ok.0 (omega (arith, flags.ok.0)) c.index.ensures)
