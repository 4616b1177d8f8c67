use Rattle.std.proofs.Common.{arith}
use Rattle.serde_json.specs.View.{members_view}
use Rattle.json_list.specs.OnePass.{AreTheOthers}
use Rattle.rbac_manifest.proofs.DocumentList.{unread_items, read_as, unread_others}
use Rattle.rbac_manifest.proofs.document_list.read_on.Goals as goal

pub returns-clause-list : goal.returns-clause-list
returns-clause-list c text up_to =
    let front = c.args.front in
    let before = members_view front.before.entries in
    let others = members_view c.in-Some.others.entries in
    let items = c.in_ok-given.ensures.items in
    let are : AreTheOthers before c.items_of.new.unread others = rw c.in-Some.is at c.in_ok-others.ensures.rest in
    read_as text before front.unread up_to items.0 c.items_of.new.unread items.1 others are c.args.implied c.in_ok-given.given items.2

pub returns-in_default-clause-list : goal.returns-in_default-clause-list
returns-in_default-clause-list c =
    let items = c.in_ok-given.ensures.items in
    (items.0, c.items_of.new.unread, items.1, rw c.in_default.is at c.in_ok-others.ensures.rest)

pub returns-in_err-given-clause-refused : goal.returns-in_err-given-clause-refused
returns-in_err-given-clause-refused c refusal text up_to =
    let front = c.args.front in
    unread_items text (members_view front.before.entries) front.unread up_to (c.in_err-given.ensures.refused (grind arith))

pub returns-in_err-others-clause-refused : goal.returns-in_err-others-clause-refused
returns-in_err-others-clause-refused c refusal text up_to =
    let front = c.args.front in
    let items = c.in_ok-given.ensures.items in
    unread_others text (members_view front.before.entries) front.unread up_to items.0 c.items_of.new.unread items.1 (c.in_err-others.ensures.refused (grind arith))
