use Rattle.std.proofs.Common.{◌≡◌, ◌++◌, map, take}
use Rattle.std.specs.Prelude.{string_bytes}
use Rattle.rbac_command.proofs.read.add_texts.Given as goal

abbrev pub invariant-loop-text : goal.invariant-loop-text
invariant-loop-text l = map string_bytes l.files.items ≡ map string_bytes l.fn.files.items ++ map (λ s. s.now) (take l.text-index l.texts)
