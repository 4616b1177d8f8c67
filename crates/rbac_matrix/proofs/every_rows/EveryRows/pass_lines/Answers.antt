use Rattle.rbac_matrix.proofs.RepeatedLemmas.{lines_repeat}
use Rattle.rbac_matrix.proofs.every_rows.EveryRows.pass_lines.Goals as goal

pub pass_lines-requires-clause-rest : goal.pass_lines-requires-clause-rest
pass_lines-requires-clause-rest c =
    let way = c.requires.going.way in
    let line = c.requires.repeated in
    (line.0, line.1, line.2, λ place low high. lines_repeat c.args.self.now.rows.index.now way.policy c.args.self.now.rows.universe.now way.universe line.0 line.3 place)
