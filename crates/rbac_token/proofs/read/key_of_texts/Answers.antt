use Rattle.std.proofs.Common.{ap, ◌∙◌, get_or}
use Rattle.rbac_token.proofs.read.key_of_texts.Goals as goal

pub returns-clause-whole : goal.returns-clause-whole
returns-clause-whole c = λ k h e.
    (let group = c.group-item.is ∙ ap (λ t. get_or t 3 c.group-item.result) e in
    let text = c.text-item.is ∙ ap (λ t. get_or t 4 c.text-item.result) e in
    let name = c.name-item.is ∙ ap (λ t. get_or t 5 c.name-item.result) e in
    let target = c.in_ok-target.ensures.whole h.what h.proper (group ∙ ap (λ x. x.group) h.is) (text ∙ ap (λ x. x.resource) h.is) (name ∙ ap (λ x. x.name) h.is) in
    let principal = c.principal-item.is ∙ ap (λ t. get_or t 0 c.principal-item.result) e in
    let namespace = c.namespace-item.is ∙ ap (λ t. get_or t 1 c.namespace-item.result) e in
    let verb = c.verb-item.is ∙ ap (λ t. get_or t 2 c.verb-item.result) e in
    c.key_for.ensures.whole k h principal namespace verb target)
