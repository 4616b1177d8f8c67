use Rattle.std.specs.Prelude.{◌≡◌, ◌++◌, map, take}
use Rattle.rbac_manifest.specs.Names.{namespace_name}
use Rattle.rbac_manifest.proofs.replacement.push_namespaces.Given as goal

abbrev pub invariant-loop-namespace : goal.invariant-loop-namespace
invariant-loop-namespace l = l.names.items ≡ l.initial.names.items ++ map namespace_name (take l.namespace-index l.namespaces)
