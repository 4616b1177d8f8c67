use Rattle.rbac_manifest.specs.UniverseDocument.{principal_at}
use Rattle.rbac_manifest.proofs.universe_document.principals_in.Given as goal

abbrev pub ghost-all_read : goal.ghost-all_read
ghost-all_read a = principal_at
