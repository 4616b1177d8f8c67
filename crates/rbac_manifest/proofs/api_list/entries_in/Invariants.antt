use Rattle.rbac_manifest.specs.ApiList.{entry_at}
use Rattle.rbac_manifest.proofs.api_list.entries_in.Given as goal

abbrev pub ghost-all_read : goal.ghost-all_read
ghost-all_read a = entry_at a.read.0.now
