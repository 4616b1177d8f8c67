use Rattle.rbac_paths.proofs.Allowing.{allows_row}
use Rattle.rbac_paths.proofs.rows.WordRow.is_allowed_by.Goals as goal

pub returns-then-matches : goal.returns-then-matches
returns-then-matches c =
    let m = c.matches.ensures.0 c.if-matches.true in (
      λ t. allows_row c.args.self.now c.args.rule.now m.0 m.1 m.2 (c.has_name_of.ensures.0 t),
      λ a. c.has_name_of.ensures.1 (a.name, a.named, a.allows.1.2),
    )
