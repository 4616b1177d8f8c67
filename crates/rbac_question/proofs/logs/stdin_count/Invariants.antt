use Rattle.std.proofs.Common.{◌≡◌, ◌≤◌, length, map, take}
use Rattle.std.specs.Prelude.{filter}
use Rattle.rbac_question.specs.Logs.{is_stdin}
use Rattle.rbac_question.proofs.logs.stdin_count.Given as goal

abbrev pub invariant-loop-name : goal.invariant-loop-name
invariant-loop-name l = (l.count ≡ length (filter is_stdin (map (λ n. n.now) (take l.name-index l.names)))) × (l.count ≤ l.name-index)
