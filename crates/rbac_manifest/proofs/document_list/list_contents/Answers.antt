use Rattle.std.proofs.Common.{◌≡◌, subst, rules}
use Rattle.std.specs.Option.{option_to_list}
use Rattle.serde_json.specs.Data.{object}
use Rattle.serde_json.specs.View.{members_view}
use Rattle.serde_json.proofs.Views.{view-Object}
use Rattle.rbac_manifest.specs.Document.{fault, stands}
use Rattle.rbac_manifest.specs.DocumentList.{IsListOf}
use Rattle.rbac_manifest.specs.Load.{as_whole}
use Rattle.rbac_manifest.specs.Reads.{Yields}
use Rattle.rbac_manifest.specs.declared.kind.Implied.TheVariants as lists
use Rattle.std.specs.Prelude.{option_map}
use Rattle.rbac_manifest.proofs.DocumentList.{IsNoList, yields_items, is_list, yields_beside}
use Rattle.rbac_manifest.proofs.document_list.list_contents.Goals as goal

pub contents_as-requires : goal.contents_as-requires
contents_as-requires c =
    let list = c.args.list in
    let others = members_view list.others.entries in
    let is : IsListOf c.in-Some.kind (object others) = subst (IsListOf c.in-Some.kind) (view-Object list.others) (rw c.in-Some.is at c.list_kind.ensures) in
    is_list c.args.text.now list.implied list.given others c.requires c.in-Some.kind is

pub returns-in-Some : goal.returns-in-Some
returns-in-Some c =
    let list = c.args.list in
    let others = members_view list.others.entries in
    let kind = c.in-Some.kind in
    let is : IsListOf kind (object others) = subst (IsListOf kind) (view-Object list.others) (rw c.in-Some.is at c.list_kind.ensures) in
    let same : kind ≡ list.implied = search rules in
    yields_items c.args.text.now list.implied list.given others c.requires
    (is_list c.args.text.now list.implied list.given others c.requires list.implied (subst (λ k. IsListOf k (object others)) same is))

pub returns-in-None : goal.returns-in-None
returns-in-None c =
    let list = c.args.list in
    let others = members_view list.others.entries in
    let none : IsNoList (object others) = subst IsNoList (view-Object list.others) (rw c.in-None.is at c.list_kind.ensures) in
    yields_beside c.args.text.now list.implied list.given others c.requires none c.document_contents.result
    (subst (λ d. Yields c.document_contents.result (option_map as_whole (fault lists.Nothing d)) (option_to_list (stands lists.Nothing d))) (view-Object list.others) c.document_contents.ensures)
