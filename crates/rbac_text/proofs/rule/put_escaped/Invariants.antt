use Rattle.std.proofs.Common.{◌≡◌, ◌++◌, take}
use Rattle.std.specs.List.{flat_map}
use Rattle.rbac_text.specs.Field.{byte_text}
use Rattle.rbac_text.specs.Rule.{without_comma}
use Rattle.rbac_text.proofs.rule.put_escaped.Given as goal

abbrev pub invariant-loop-byte : goal.invariant-loop-byte
invariant-loop-byte l = l.line.items ≡ l.initial.line.items ++ flat_map without_comma (flat_map byte_text (take l.byte-index l.text))
