use Rattle.rbac_manifest.proofs.loading.Export.replaced.Goals as goal

pub returns-clause-replaced : goal.returns-clause-replaced
returns-clause-replaced c = cc
