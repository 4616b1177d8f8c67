use Rattle.std.proofs.Common.{◌≡◌, ◌++◌, map, take}
use Rattle.rbac_document.specs.LeastDocument.{namespace_bound}
use Rattle.rbac_document.proofs.least.add_namespaces.Given as goal

abbrev pub invariant-loop-part : goal.invariant-loop-part
invariant-loop-part l = l.bounds.items ≡ l.fn.bounds.items ++ map (namespace_bound l.name l.user) (take l.part-index l.parts)
