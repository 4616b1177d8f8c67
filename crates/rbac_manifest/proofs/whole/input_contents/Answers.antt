use Rattle.serde_json.specs.View.{view}
use Rattle.rbac_manifest.proofs.DocumentList.{IsNoList, yields_alone}
use Rattle.rbac_manifest.proofs.whole.input_contents.Goals as goal

pub returns-in-None : goal.returns-in-None
returns-in-None c =
    let d = view c.args.document.now in
    let none : IsNoList d = rw c.in-None.is at c.list_kind.ensures in
    yields_alone d none c.document_contents.result c.document_contents.ensures
