use Rattle.std.proofs.Common.{◌≡◌, Some, None, bytes_eq, true, false, sym, subst, arith, rules}
use Rattle.json.specs.Json.{read_key}
use Rattle.serde_json.specs.View.{members_view}
use Rattle.json_list.specs.List.{items_name}
use Rattle.json_list.proofs.OnePass.{Adds, begun, added, the_others, refused_after, items_again, bad_member, bad_key}
use Rattle.json_list.proofs.one_pass.read_rest.Goals as goal

pub members-init : goal.members-init
members-init c = begun (members_view c.args.members.now.entries) c.args.reader.now

pub members-preserved : goal.members-preserved
members-preserved c =
    let l = c.members in
    let start = members_view c.args.members.now.entries in
    let old = members_view l.members.entries in
    let k = c.in-Some.name.now in
    let s = c.next_key.new.self in
    let r = c.read_member.new.reader in
    let read = c.in_ok-read_member.ensures.read in
    let key : read_key l.reader ≡ Some (Some k, s) = grind arith in
    let other : bytes_eq k items_name ≡ false = sym c.if-eq.ensures in
    subst (Adds start c.args.reader.now r) (sym read.2)
    (added start c.args.reader.now l.reader old l.invariant k s key other read.0 r read.1 c.in_ok-read_member.ensures.shorter)

pub returns-clause-rest : goal.returns-clause-rest
returns-clause-rest c =
    let l = c.members in
    let r = c.next_key.new.self in
    let over : read_key l.reader ≡ Some (None, r) = grind arith in
    the_others (members_view c.args.members.now.entries) c.args.reader.now l.reader (members_view l.members.entries) l.invariant r over (search rules)

pub returns-then-is_some-clause-refused : goal.returns-then-is_some-clause-refused
returns-then-is_some-clause-refused c _ =
    let l = c.members in
    let r = c.next_key.new.self in
    let over : read_key l.reader ≡ Some (None, r) = grind arith in
    refused_after (members_view c.args.members.now.entries) c.args.reader.now l.reader (members_view l.members.entries) l.invariant r over (search rules)

pub returns-in_err-name-clause-refused : goal.returns-in_err-name-clause-refused
returns-in_err-name-clause-refused c _ =
    let l = c.members in
    bad_key (members_view c.args.members.now.entries) c.args.reader.now l.reader (members_view l.members.entries) l.invariant c.in_err-name.ensures.value

pub returns-then-eq-clause-rest : goal.returns-then-eq-clause-rest
returns-then-eq-clause-rest c =
    let l = c.members in
    let k = c.in-Some.name.now in
    let s = c.next_key.new.self in
    let key : read_key l.reader ≡ Some (Some k, s) = grind arith in
    let same : bytes_eq k items_name ≡ true = sym c.if-eq.ensures in
    items_again (members_view c.args.members.now.entries) c.args.reader.now l.reader (members_view l.members.entries) l.invariant k s key same

pub returns-in_err-read_member-clause-refused : goal.returns-in_err-read_member-clause-refused
returns-in_err-read_member-clause-refused c refusal =
    let l = c.members in
    let k = c.in-Some.name.now in
    let s = c.next_key.new.self in
    let key : read_key l.reader ≡ Some (Some k, s) = grind arith in
    bad_member (members_view c.args.members.now.entries) c.args.reader.now l.reader (members_view l.members.entries) l.invariant k s key (c.in_err-read_member.ensures.refused (grind arith))
