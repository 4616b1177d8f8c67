use Rattle.std.proofs.Common.{refl, rules}
use Rattle.serde_json.specs.View.{view}
use Rattle.rbac_manifest.specs.ApiList.{entry_at}
use Rattle.json_fields.specs.Reads.{Fails}
use Rattle.rbac_manifest.proofs.Chains.{fails_then}
use Rattle.rbac_manifest.proofs.api_list.entry_of.Goals as goal

pub returns-in_err-words_field : goal.returns-in_err-words_field
unfolding entry_at
returns-in_err-words_field c =
    let told : Fails c.in_err-words_field.field-0.0 (entry_at c.args.group.now (view c.args.value.now)) =
    rw (c.in_ok-resource_name_of.ensures, c.in_ok-word_field.ensures, ← c.flag_field.ensures, c.in-Some.is) (fails_then _ _ _ c.in_err-words_field.ensures) in
    search (rules, told)

pub returns-in_err-words_field-2 : goal.returns-in_err-words_field-2
unfolding entry_at
returns-in_err-words_field-2 c =
    let told : Fails c.in_err-words_field-2.field-0.0 (entry_at c.args.group.now (view c.args.value.now)) =
    rw (c.in_ok-resource_name_of.ensures, c.in_ok-word_field.ensures, ← c.flag_field.ensures, c.in-Some.is, c.in_ok-words_field.ensures) (fails_then _ _ _ c.in_err-words_field-2.ensures) in
    search (rules, told)

pub returns : goal.returns
unfolding entry_at
returns c =
    rw (c.in_ok-resource_name_of.ensures, c.in_ok-word_field.ensures, ← c.flag_field.ensures, c.in-Some.is, c.in_ok-words_field.ensures, c.in_ok-words_field-2.ensures, c.in_ok-from_slice.ensures) refl
