use Rattle.std.proofs.Common.{◌≡◌, ◌++◌, map, take}
use Rattle.std.specs.Prelude.{filter}
use Rattle.rbac_question.specs.Lines.{is_not_empty}
use Rattle.rbac_question.proofs.who.push_groups.Given as goal

abbrev pub invariant-loop-name : goal.invariant-loop-name
invariant-loop-name l = l.groups.items ≡ l.fn.groups.items ++ filter is_not_empty (map (λ n. n.now) (take l.name-index l.names))
