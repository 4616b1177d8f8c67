use Rattle.std.specs.Prelude.{◌≡◌}
use Rattle.std.specs.List.{flat_map}
use Rattle.rbac_manifest.specs.Replaced.{replaced_by}
use Rattle.rbac_manifest.proofs.replacement.several.Given as goal

abbrev pub invariant-loop-same : goal.invariant-loop-same
invariant-loop-same l = l.replaced.items ≡ flat_map (λ run. replaced_by run.now) l.yielded
