use Rattle.rbac_terms.proofs.text.Word.new.Goals as goal

pub returns : goal.returns
returns c = cc
