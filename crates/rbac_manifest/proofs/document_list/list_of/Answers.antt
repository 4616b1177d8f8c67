use Rattle.serde_json.specs.View.{members_view}
use Rattle.json_list.specs.OnePass.{IsReadUpTo, IsListUpTo}
use Rattle.rbac_manifest.proofs.DocumentList.{where_list}
use Rattle.rbac_manifest.proofs.document_list.list_of.Goals as goal

pub returns-clause-list : goal.returns-clause-list
returns-clause-list c =
    let text = c.args.text.now in
    let front = c.in-Some.front in
    let up_to : IsReadUpTo text (members_view front.before.entries) front.unread = rw c.in-Some.is at c.in_ok-front.ensures.front in
    let list : IsListUpTo text front.unread = rw c.in-Some.is at c.in_ok-front.ensures.list in
    where_list c.read_on.result (λ again is. again.3 (list is again.0 again.1 again.2)) (λ l reads. reads text up_to) c.read_on.ensures.list
