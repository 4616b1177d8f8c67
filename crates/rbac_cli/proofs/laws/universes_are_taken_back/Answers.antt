use Rattle.rbac_cli.proofs.laws.universes_are_taken_back.Goals as goal

pub returns : goal.returns
returns c = λ inputs l text status loaded readable (is, few, zero).
    let (each, once, again) = c.documents_are_taken_back.ensures inputs l text loaded readable is in
    let same = c.once_each_is_the_same_universe.ensures in (
      record l { lists = each },
      again,
      record {
        answers = λ options after limit page ending. (
          λ (u, rows, makes, listed, e, s). (u, rows, (same.universe l.lists each u once).0 makes, listed, e, s),
          λ (u, rows, makes, listed, e, s). (u, rows, (same.universe l.lists each u once).1 makes, listed, e, s),
        );
        lacks = λ options after limit fault. (
          λ (has, some). ((same.fault l.lists each fault once).0 has, some),
          λ (has, some). ((same.fault l.lists each fault once).1 has, some),
        );
      },
    )
