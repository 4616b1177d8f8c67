use Rattle.std.proofs.Common.{◌≡◌, ◌++◌, map, take}
use Rattle.rbac_universe.specs.Stems.{url_stem}
use Rattle.rbac_universe.proofs.stems.stems_of.Given as goal

abbrev pub invariant-loop-path : goal.invariant-loop-path
invariant-loop-path l = l.stems.items ≡ l.lists.resources ++ map url_stem (take l.path-index l.lists.urls)
