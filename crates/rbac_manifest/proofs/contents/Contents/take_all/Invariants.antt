use Rattle.std.proofs.Common.{◌≡◌}
use Rattle.rbac_manifest.specs.Contents.{with_contents}
use Rattle.rbac_manifest.proofs.contents.Contents.take_all.Given as goal

abbrev pub invariant-loop-content : goal.invariant-loop-content
invariant-loop-content l = l.self ≡ with_contents l.fn.self l.yielded
