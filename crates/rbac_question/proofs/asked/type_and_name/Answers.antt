use Rattle.std.proofs.Common.{inl, inr, refl, lit<}
use Rattle.std.specs.Prelude.{Some, None}
use Rattle.std.proofs.lemmas.Str.Pattern.{split_parts}
use Rattle.rbac_terms.specs.Text.{slash}
use Rattle.rbac_question.proofs.Texts.{lacks}
use Rattle.rbac_question.proofs.asked.type_and_name.Goals as goal

pub returns-in-Some : goal.returns-in-Some
returns-in-Some c =
    let parts = split_parts slash c.args.target.now (Some c.in-Some.parts) c.in-Some.ensures.cases (lit< tt) in
    inl (parts.0, lacks c.in-Some.parts.0.now slash parts.1)

pub returns-in-None : goal.returns-in-None
returns-in-None c =
    inr (lacks c.args.target.now slash (split_parts slash c.args.target.now None c.in-None.ensures.cases (lit< tt)), refl, refl)
