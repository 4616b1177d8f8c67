use Rattle.std.specs.Prelude.{◌≡◌, ◌++◌, not, take}
use Rattle.std.specs.List.{filter}
use Rattle.rbac_manifest.specs.Names.{object_name, has_name}
use Rattle.rbac_manifest.proofs.change.push_unnamed.Given as goal

abbrev pub invariant-loop-object : goal.invariant-loop-object
invariant-loop-object l =
    l.kept.items ≡ l.initial.kept.items ++ filter (λ o. not (has_name l.names (object_name o))) (take l.object-index l.objects)
