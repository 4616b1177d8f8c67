use Rattle.std.proofs.Common.{◌≡◌, ◌≢◌, ◌++◌, Some, None, sym, ap, ◌∙◌, rules}
use Rattle.std.specs.Option.{option_to_list}
use Rattle.serde_json.specs.Data.{no_items}
use Rattle.serde_json.specs.View.{view}
use Rattle.json_list.specs.OnePass.{items_and_rest}
use Rattle.rbac_manifest.specs.Document.{fault, stands}
use Rattle.rbac_manifest.specs.declared.fault.Cause.TheVariants.{NoMemory}
use Rattle.rbac_manifest.proofs.DocumentList.{one_more, all_read, refused_here}
use Rattle.rbac_manifest.proofs.Unread.{same_fault, same_stands}
use Rattle.rbac_manifest.proofs.document_list.items_of.Goals as goal

pub loop-place-preserved : goal.loop-place-preserved
loop-place-preserved c =
    let l = c.loop-place in
    let implied = c.args.implied in
    let taken = l.contents.items in
    let next = rw c.in-Some.is at c.in_ok-item.ensures.next in
    let d = next.0 in
    let sound : fault implied (view c.in-Some.item) ≡ None = search rules in
    let took : c.take_document.new.contents.items ≡ taken ++ option_to_list (stands implied (view c.in-Some.item)) = search rules in
    one_more implied c.args.unread.now l.place l.unread taken l.invariant d c.next_item.new.self next.2 c.take_document.new.contents.items
    (sym (same_fault implied d) ∙ ap (fault implied) (sym next.1) ∙ sound)
    (took ∙ ap (λ e. taken ++ option_to_list (stands implied e)) next.1 ∙ ap (λ o. taken ++ option_to_list o) (same_stands implied d))

pub returns-in_default-clause-items : goal.returns-in_default-clause-items
returns-in_default-clause-items c =
    let l = c.loop-place in
    let rest = c.next_item.new.self in
    let over : items_and_rest l.unread ≡ Some (no_items, rest) = rw c.in_default.is at c.in_ok-item.ensures.next in
    all_read c.args.implied c.args.unread.now l.place l.unread l.contents.items l.invariant rest over

pub returns-in-Err-clause-items : goal.returns-in-Err-clause-items
returns-in-Err-clause-items c =
    let l = c.loop-place in
    let implied = c.args.implied in
    let next = rw c.in-Some.is at c.in_ok-item.ensures.next in
    let d = next.0 in
    let cause = c.in-Err.cause in
    let told : cause ≢ NoMemory → fault implied (view c.in-Some.item) ≡ Some cause = rw c.in-Err.is at c.take_document.ensures.refused in
    let rest = c.in_ok-pass_rest.ensures.read in
    refused_here implied c.args.unread.now l.place l.unread l.contents.items l.invariant d c.next_item.new.self next.2 cause c.item.result c.item.ensures
    (λ other. sym (same_fault implied d) ∙ ap (fault implied) (sym next.1) ∙ told other) rest.0 c.pass_rest.new.unread rest.1
