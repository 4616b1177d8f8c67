use Rattle.std.proofs.Common.{◌≡◌, ◌∙◌, ◌++◌, Some, codes, sym}
use Rattle.std.proofs.lemmas.Slice.Eq.{strip_prefix_is}
use Rattle.std.proofs.lemmas.Bool.Decides.{Decides-eqb}
use Rattle.rbac_question.proofs.Ends.{a_role, empty, no_cut, no_name, none_found, one_namespace}
use Rattle.rbac_question.proofs.Texts.{not_empty}
use Rattle.rbac_question.proofs.path_end.role_namespace.Goals as goal

pub returns-in_err-namespace : goal.returns-in_err-namespace
returns-in_err-namespace c =
    let text = c.args.text.now in
    let rest = c.in_ok-rest.rest.now in
    let is : text ≡ codes "Role/" ++ rest = sym c.as_bytes.ensures.value ∙ strip_prefix_is Decides-eqb c.as_bytes.result.now (codes "Role/") (Some c.in_ok-rest.rest) c.in_ok-rest.ensures.cases in
    none_found text c.from_residual-in_err-namespace.result c.from_residual-in_err-namespace.ensures (no_cut text rest is c.in_err-namespace.ensures)

pub returns-then-is_empty-2 : goal.returns-then-is_empty-2
returns-then-is_empty-2 c =
    let text = c.args.text.now in
    let rest = c.in_ok-rest.rest.now in
    let is : text ≡ codes "Role/" ++ rest = sym c.as_bytes.ensures.value ∙ strip_prefix_is Decides-eqb c.as_bytes.result.now (codes "Role/") (Some c.in_ok-rest.rest) c.in_ok-rest.ensures.cases in
    let name = c.in_ok-namespace.name.now in
    no_name text rest is c.in_ok-namespace.namespace.now name c.in_ok-namespace.ensures (empty name (sym c.if-is_empty-2.ensures))

pub returns : goal.returns
returns c =
    let text = c.args.text.now in
    let rest = c.in_ok-rest.rest.now in
    let is : text ≡ codes "Role/" ++ rest = sym c.as_bytes.ensures.value ∙ strip_prefix_is Decides-eqb c.as_bytes.result.now (codes "Role/") (Some c.in_ok-rest.rest) c.in_ok-rest.ensures.cases in
    let own = c.in_ok-namespace.namespace.now in
    let name = c.in_ok-namespace.name.now in
    let cut = c.in_ok-namespace.ensures in
    (a_role text rest is own name cut (not_empty own (sym c.if-is_empty.ensures)) (not_empty name (sym c.if-is_empty-2.ensures)), one_namespace text rest is own name cut)
