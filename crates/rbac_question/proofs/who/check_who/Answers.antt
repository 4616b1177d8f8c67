use Rattle.std.proofs.Common.{◌≡◌, ◌∙◌, ap, sym, false, true}
use Rattle.rbac_question.specs.Lines.{WhoParts}
use Rattle.rbac_question.proofs.Named.{a_user, a_member}
use Rattle.rbac_question.proofs.who.check_who.Goals.{then-is_some, else-is_some, then-is_user-via-then-is_user, then-is_user-via-else-is_user+then-is_member}
use Rattle.rbac_question.proofs.who.check_who.Goals as goal

pub returns-then-is_user : goal.returns-then-is_user
returns-then-is_user c =
    let same = ap (λ (l : WhoParts). l.key) (sym c.who.view_is) in
    elim c.then-is_user.branch [
      | then-is_user-via-then-is_user w ↦
          record { answer = a_user c.args.who.now _ _ c.name_behind.result same c.name_behind.ensures (sym c.is_some-is_user.ensures ∙ w.if-is_user.true) }
      | then-is_user-via-else-is_user+then-is_member w ↦ elim c.if-is_some.branch [
        | then-is_some v ↦
            record {
              answer = a_member c.args.who.now _ _ c.name_behind-2.result same c.name_behind-2.ensures (sym c.is_some.ensures ∙ v.if-is_some.true)
                  (v.lacks_groups-is_member.ensures.0 (sym v.is_member-is ∙ w.if-is_member.true));
            }
        | else-is_some v ↦ (let no : false ≡ true = sym v.if-is_some.false ∙ sym v.is_member-is ∙ w.if-is_member.true in cc)
      ]
    ]
