use Rattle.std.proofs.Common.{◌≡◌, map, drop}
use Rattle.json_list.specs.Lean.{is_among}
use Rattle.json_list.proofs.kept.is_among.Given as goal

abbrev pub invariant-loop-known : goal.invariant-loop-known
invariant-loop-known l = is_among (map (λ known. known.now) (drop l.known-index l.names)) l.name ≡ is_among (map (λ known. known.now) l.names) l.name
