use Rattle.std.proofs.Common.{Some, refl}
use Rattle.serde_json.specs.View.{members_view}
use Rattle.json_list.proofs.Values.{member_put, put_shorter, is_unread}
use Rattle.json_list.proofs.value.read_member.Goals as goal

pub returns-clause-read : goal.returns-clause-read
returns-clause-read c =
    member_put (λ whole name. Some whole) _ 126 c.args.reader.now c.member_from.new.reader c.args.name.now (λ name. refl) (members_view c.args.members.now.entries) (members_view c.member_from.new.found.entries) c.member_from.result c.member_from.ensures.read

pub returns-clause-refused : goal.returns-clause-refused
returns-clause-refused c refusal = is_unread 126 c.args.reader.now (c.member_from.ensures.refused refusal)

pub returns-clause-shorter : goal.returns-clause-shorter
returns-clause-shorter c =
    put_shorter (λ whole name. Some whole) _ 126 c.args.reader.now c.member_from.new.reader c.args.name.now (members_view c.args.members.now.entries) (members_view c.member_from.new.found.entries) c.member_from.result c.member_from.ensures.read
