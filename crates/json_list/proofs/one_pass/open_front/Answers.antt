use Rattle.std.proofs.Common.{◌≡◌, ◌∷◌, ap, arith}
use Rattle.json.specs.Lex.{tokens}
use Rattle.json.specs.Token.{Token}
use Rattle.serde_json.specs.View.{members_view}
use Rattle.json_list.specs.Places.{IsUpToItems, HasOneList}
use Rattle.json_list.proofs.Whole.{read_up_to, list_up_to, no_object, no_list, refused}
use Rattle.json_list.proofs.one_pass.open_front.Goals as goal

pub returns-clause-front : goal.returns-clause-front
returns-clause-front c =
    let ts = c.in-Some.reader in
    let before = members_view c.read_before.new.members.entries in
    let begin : tokens c.args.text.now ≡ Token.begin_object ∷ ts = grind arith in
    let are : IsUpToItems ts before c.read_before.new.reader = rw c.if-not-branch.false at c.in_ok-read_before.ensures.before in
    read_up_to c.args.text.now ts begin before c.read_before.new.reader are

pub returns-clause-list : goal.returns-clause-list
returns-clause-list c =
    let ts = c.in-Some.reader in
    let before = members_view c.read_before.new.members.entries in
    let begin : tokens c.args.text.now ≡ Token.begin_object ∷ ts = grind arith in
    let are : IsUpToItems ts before c.read_before.new.reader = rw c.if-not-branch.false at c.in_ok-read_before.ensures.before in
    list_up_to c.args.text.now ts begin before c.read_before.new.reader are

pub returns-in_default-clause-front : goal.returns-in_default-clause-front
returns-in_default-clause-front c = no_object c.args.text.now (grind arith)

pub returns-in_err-read_before-clause-refused : goal.returns-in_err-read_before-clause-refused
returns-in_err-read_before-clause-refused c refusal =
    let ts = c.in-Some.reader in
    let begin : tokens c.args.text.now ≡ Token.begin_object ∷ ts = grind arith in
    refused c.args.text.now ts begin (c.in_err-read_before.ensures.refused (grind arith))

pub returns-then-not-branch-clause-front : goal.returns-then-not-branch-clause-front
returns-then-not-branch-clause-front c =
    let ts = c.in-Some.reader in
    let begin : tokens c.args.text.now ≡ Token.begin_object ∷ ts = grind arith in
    let other : ¬ HasOneList ts = rw c.if-not-branch.true at c.in_ok-read_before.ensures.before in
    no_list c.args.text.now ts begin other

pub read_before-requires : goal.read_before-requires
read_before-requires c = ap members_view c.new-before.ensures.empty
