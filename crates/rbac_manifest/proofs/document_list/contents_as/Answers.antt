use Rattle.std.proofs.Common.{◌≡◌, refl, sym, subst}
use Rattle.serde_json.specs.View.{members_view}
use Rattle.rbac_manifest.specs.DocumentList.{IsListOf, IsReadAs}
use Rattle.rbac_manifest.proofs.DocumentList.{yields_items}
use Rattle.rbac_manifest.proofs.document_list.contents_as.Goals as goal

pub returns-in-Some : goal.returns-in-Some
returns-in-Some c =
    let text = c.args.text.now in
    let list = c.in-Some.list in
    let others = members_view list.others.entries in
    let reads : IsReadAs text list.implied list.given others = rw c.in-Some.is at c.in_ok-list.ensures.list in
    let told : list.implied ≡ c.args.implied = (rw c.in-Some.is at c.in_ok-list.ensures.told) c.args.implied refl in
    yields_items text list.implied list.given others reads (λ d e. subst (λ i. IsListOf i d) (sym told) (c.requires d e))
