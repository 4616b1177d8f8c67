use Rattle.rbac_cli.proofs.least.document_of.Goals as goal

pub returns : goal.returns
returns c =
    let text = rw c.new-document.ensures.items at c.in_ok-put_least.ensures in
    (c.in_ok-least.least, c.in_ok-least.ensures.least, text)
