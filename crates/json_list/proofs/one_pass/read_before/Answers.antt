use Rattle.std.proofs.Common.{◌≡◌, Some, None, bytes_eq, true, false, sym, subst, arith}
use Rattle.json.specs.Json.{read_key}
use Rattle.serde_json.specs.Data.{no_members}
use Rattle.serde_json.specs.View.{members_view}
use Rattle.json_list.specs.List.{items_name}
use Rattle.json_list.proofs.OnePass.{Adds, begun, added, bad_key, bad_member, no_list_at_all, before_or_not}
use Rattle.json_list.proofs.one_pass.read_before.Goals as goal

pub members-init : goal.members-init
members-init c =
    let old = c.args.reader.now in
    subst (Adds no_members old old) (sym c.requires) (begun no_members old)

pub members-preserved : goal.members-preserved
members-preserved c =
    let l = c.members in
    let old = members_view l.members.entries in
    let k = c.in-Some.name.now in
    let s = c.next_key.new.self in
    let r = c.read_member.new.reader in
    let read = c.in_ok-read_member.ensures.read in
    let key : read_key l.reader ≡ Some (Some k, s) = grind arith in
    let other : bytes_eq k items_name ≡ false = sym c.if-eq.ensures in
    subst (Adds no_members c.args.reader.now r) (sym read.2)
    (added no_members c.args.reader.now l.reader old l.invariant k s key other read.0 r read.1 c.in_ok-read_member.ensures.shorter)

pub returns-in_err-name-clause-refused : goal.returns-in_err-name-clause-refused
returns-in_err-name-clause-refused c _ =
    let l = c.members in
    bad_key no_members c.args.reader.now l.reader (members_view l.members.entries) l.invariant c.in_err-name.ensures.value no_members

pub returns-in_err-read_member-clause-refused : goal.returns-in_err-read_member-clause-refused
returns-in_err-read_member-clause-refused c refusal =
    let l = c.members in
    let k = c.in-Some.name.now in
    let s = c.next_key.new.self in
    let key : read_key l.reader ≡ Some (Some k, s) = grind arith in
    bad_member no_members c.args.reader.now l.reader (members_view l.members.entries) l.invariant k s key (c.in_err-read_member.ensures.refused (grind arith)) no_members

pub returns-then-eq-clause-before : goal.returns-then-eq-clause-before
returns-then-eq-clause-before c =
    let l = c.members in
    let k = c.in-Some.name.now in
    let s = c.next_key.new.self in
    let key : read_key l.reader ≡ Some (Some k, s) = grind arith in
    let same : bytes_eq k items_name ≡ true = sym c.if-eq.ensures in
    before_or_not c.args.reader.now l.reader (members_view l.members.entries) l.invariant k s key same c.take_begin_array.result c.take_begin_array.new.reader c.take_begin_array.ensures

pub returns-clause-before : goal.returns-clause-before
returns-clause-before c =
    let l = c.members in
    let r = c.next_key.new.self in
    let over : read_key l.reader ≡ Some (None, r) = grind arith in
    no_list_at_all no_members c.args.reader.now l.reader (members_view l.members.entries) l.invariant r over
