use Rattle.rbac_terms.proofs.text.WordOrd.cmp.Goals as goal

pub returns : goal.returns
returns c = cc
