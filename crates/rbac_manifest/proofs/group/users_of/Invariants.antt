use Rattle.rbac_manifest.specs.UniverseDocument.{name_in}
use Rattle.rbac_manifest.proofs.group.users_of.Given as goal

abbrev pub ghost-all_read : goal.ghost-all_read
ghost-all_read a = name_in
