use Rattle.rbac_manifest.specs.UniverseDocument.{resource_at}
use Rattle.rbac_manifest.proofs.universe_document.resources_in.Given as goal

abbrev pub ghost-all_read : goal.ghost-all_read
ghost-all_read a = resource_at
