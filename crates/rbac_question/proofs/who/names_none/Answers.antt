use Rattle.std.proofs.Common.{◌≡◌, [], Bor}
use Rattle.std.proofs.lemmas.List.Elements.{All-map}
use Rattle.rbac_terms.specs.Text.{Text}
use Rattle.rbac_question.proofs.Texts.{unmapped}
use Rattle.rbac_question.proofs.who.names_none.Goals as goal

pub returns-in-Some : goal.returns-in-Some
returns-in-Some c = rw c.in-Some.is (
  λ t. All-map (λ (name : Text). name ≡ []) (λ (n : Bor Text). n.now) c.in-Some.names.now (c.are_empty.ensures.0 t),
  λ all. c.are_empty.ensures.1 (unmapped (λ (name : Text). name ≡ []) (λ (n : Bor Text). n.now) c.in-Some.names.now all),
)
