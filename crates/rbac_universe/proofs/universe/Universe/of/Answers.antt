use Rattle.std.proofs.Common.{◌≡◌, refl}
use Rattle.std.specs.List.{flat_map}
use Rattle.rbac_universe.specs.Stems.{targets_of, flags_of}
use Rattle.rbac_universe.proofs.SetLemmas.{zip_flat, length_flags}
use Rattle.rbac_universe.proofs.universe.Universe.of.Goals as goal

pub invariant_of-result : goal.invariant_of-result
invariant_of-result c =
    let stems = c.args.sets.stems.items in
    let names = c.args.sets.names.items in
    let targets : c.in_ok-targets.targets.items ≡ flat_map (targets_of names) stems = rw (c.as_slice-stems.ensures.value, c.as_slice-names.ensures.value) at c.in_ok-targets.ensures in
    let flags : c.in_ok-namespaced.namespaced.items ≡ flat_map (flags_of names) stems = rw (c.as_slice-stems.ensures.value, c.as_slice-names.ensures.value) at c.in_ok-namespaced.ensures in
    rw (targets, flags) (length_flags names stems, rw (zip_flat names stems) c.requires.made)

pub returns : goal.returns
returns c =
    let stems = c.args.sets.stems.items in
    let names = c.args.sets.names.items in
    let targets : c.in_ok-targets.targets.items ≡ flat_map (targets_of names) stems = rw (c.as_slice-stems.ensures.value, c.as_slice-names.ensures.value) at c.in_ok-targets.ensures in
    let flags : c.in_ok-namespaced.namespaced.items ≡ flat_map (flags_of names) stems = rw (c.as_slice-stems.ensures.value, c.as_slice-names.ensures.value) at c.in_ok-namespaced.ensures in
    rw (targets, flags, zip_flat names stems) refl
