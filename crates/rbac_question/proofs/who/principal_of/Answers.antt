use Rattle.std.proofs.Common.{◌≡◌, ◌++◌, List, codes, map, refl, rules, subst, sym, Bor}
use Rattle.std.specs.Prelude.{option_map}
use Rattle.rbac_terms.specs.Text.{Text}
use Rattle.rbac_terms.specs.Principals.{AsUser, AsMember}
use Rattle.rbac_question.specs.Lines.{groups_given, names_in, HasBadPrincipal, WhoParts}
use Rattle.rbac_question.proofs.who.principal_of.Goals as goal

pub returns-in-Some-clause-unnamed : goal.returns-in-Some-clause-unnamed
returns-in-Some-clause-unnamed c = λ h.
    absurd (subst HasBadPrincipal (sym c.who.view_is) h
    (AsUser c.in-Some.user.now (groups_given c.who.inside.groups.now (names_in (option_map (λ (names : Bor (List (Bor Text))). map (λ (n : Bor Text). n.now) names.now) c.who.inside.whole_groups))))
    (c.in-Some.ensures.0, c.in-Some.ensures.1, refl))

pub returns-in-Some-name_behind-clause-unnamed : goal.returns-in-Some-name_behind-clause-unnamed
returns-in-Some-name_behind-clause-unnamed c = λ h.
    let group = c.in-Some-name_behind.group.now in
    let who = subst (λ (l : WhoParts). l.key ≡ codes "g:" ++ group) c.who.view_is c.in-Some-name_behind.ensures.0 in
    let none = c.lacks_groups.ensures.0 c.if-lacks_groups.true in
    absurd (h (AsMember group) (who, c.in-Some-name_behind.ensures.1, none.0, none.1))

pub returns-in-Some-name_behind-clause-answer : goal.returns-in-Some-name_behind-clause-answer
returns-in-Some-name_behind-clause-answer c = search rules
