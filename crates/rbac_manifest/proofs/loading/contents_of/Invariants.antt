use Rattle.std.proofs.Common.{◌≡◌, drop}
use Rattle.rbac_manifest.specs.Contents.{sorted_contents, with_contents}
use Rattle.rbac_manifest.specs.Load.{fault_from, all_contents}
use Rattle.rbac_manifest.proofs.loading.contents_of.Given as goal

abbrev pub invariant-loop-file : goal.invariant-loop-file
invariant-loop-file l =
    (fault_from l.file (drop l.file l.inputs) ≡ fault_from 0 l.inputs)
    × (with_contents l.contents (all_contents (drop l.file l.inputs)) ≡ sorted_contents (all_contents l.inputs))
