use Rattle.std.proofs.Common.{List, subst, arith}
use Rattle.json.specs.Token.{Token}
use Rattle.json_list.specs.List.{IsUnread}
use Rattle.json_list.proofs.Whole.{unread}
use Rattle.json_list.proofs.whole_text.read_text.Goals as goal

pub returns-in_err-value-clause-refused : goal.returns-in_err-value-clause-refused
returns-in_err-value-clause-refused g c refusal =
    unread c.args.text.now (subst (λ (ts : List Token). IsUnread 127 ts) c.in_ok-reader.ensures.ok (c.in_err-value.ensures.refused (grind arith)))
