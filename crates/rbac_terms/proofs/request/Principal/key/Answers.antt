use Rattle.rbac_terms.proofs.request.Principal.key.Goals as goal

pub returns : goal.returns
returns c = cc
