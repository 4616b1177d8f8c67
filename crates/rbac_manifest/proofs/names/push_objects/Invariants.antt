use Rattle.std.specs.Prelude.{◌≡◌, ◌++◌, map, take}
use Rattle.rbac_manifest.specs.Names.{object_name}
use Rattle.rbac_manifest.proofs.names.push_objects.Given as goal

abbrev pub invariant-loop-object : goal.invariant-loop-object
invariant-loop-object l = l.names.items ≡ l.initial.names.items ++ map object_name (take l.object-index l.objects)
