use Rattle.rbac_terms.proofs.text.Word.as_bytes.Goals as goal

pub returns-in-Own : goal.returns-in-Own
returns-in-Own c = cc
