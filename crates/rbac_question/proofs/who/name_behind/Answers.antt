use Rattle.std.proofs.Common.{◌∙◌, sym}
use Rattle.std.specs.Prelude.{None, Some}
use Rattle.std.proofs.lemmas.Slice.Eq.{strip_prefix_is}
use Rattle.std.proofs.lemmas.Bool.Decides.{Decides-eqb}
use Rattle.rbac_question.proofs.Texts.{not_behind, not_empty}
use Rattle.rbac_question.proofs.who.name_behind.Goals as goal

pub returns-in_err-name : goal.returns-in_err-name
returns-in_err-name c =
    let none = strip_prefix_is Decides-eqb c.as_bytes.result.now c.args.mark.now None c.in_err-name.ensures.cases in
    not_behind c.args.key.now c.args.mark.now c.from_residual.result c.from_residual.ensures
    (λ name e. none name (c.as_bytes.ensures.value ∙ e))

pub returns : goal.returns
returns c =
    let some = strip_prefix_is Decides-eqb c.as_bytes.result.now c.args.mark.now (Some c.in_ok-name.name) c.in_ok-name.ensures.cases in
    (sym c.as_bytes.ensures.value ∙ some, not_empty c.in_ok-name.name.now (sym c.if-is_empty.ensures))
