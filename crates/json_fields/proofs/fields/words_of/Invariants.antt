use Rattle.serde_json.specs.Find.{as_str}
use Rattle.json_fields.proofs.fields.words_of.Given as goal

abbrev pub ghost-all_read : goal.ghost-all_read
ghost-all_read a = as_str
