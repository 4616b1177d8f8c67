use Rattle.std.proofs.Common.{◌≡◌, None, sym, ap, ◌∙◌, arith}
use Rattle.json.specs.Json.{after_end_array}
use Rattle.json_list.specs.List.{IsRead, IsUnread}
use Rattle.json_list.specs.OnePass.{items_and_rest}
use Rattle.json_list.proofs.Ahead.{over_before, next_before, refused_before}
use Rattle.json_list.proofs.one_pass.Unread.next_item.Goals as goal

pub returns-then-take_end_array-clause-next : goal.returns-then-take_end_array-clause-next
returns-then-take_end_array-clause-next g c = ap items_and_rest (sym c.self.view_is) ∙ over_before c.self.inside.reader _ c.if-take_end_array.ensures

pub returns-clause-next : goal.returns-clause-next
returns-clause-next g c =
    let ts = c.self.inside.reader in
    let left = c.read_kept.new.reader in
    let going : (after_end_array ts ≡ None) × (c.take_end_array.new.self ≡ ts) = grind arith in
    let read = c.in_ok-read_kept.ensures.read in
    let is : IsRead 125 ts read.0 left = rw (← going.1) read.1 in
    (read.0, read.2, ap items_and_rest (sym c.self.view_is) ∙ next_before ts left read.0 going.0 is (rw (← going.1) c.in_ok-read_kept.ensures.shorter))

pub returns-in_err-read_kept-clause-refused : goal.returns-in_err-read_kept-clause-refused
returns-in_err-read_kept-clause-refused g c refusal =
    let ts = c.self.inside.reader in
    let going : (after_end_array ts ≡ None) × (c.take_end_array.new.self ≡ ts) = grind arith in
    let unread : IsUnread 125 ts = rw (← going.1) (c.in_err-read_kept.ensures.refused (grind arith)) in
    ap items_and_rest (sym c.self.view_is) ∙ refused_before ts going.0 unread
