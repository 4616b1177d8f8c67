use Rattle.std.proofs.Common.{◌≡◌, ◌+◌, ◌*◌, ◌-◌, ◌≤◌, List, length, map}
use Rattle.serde_json.specs.Data.{Data, Members}
use Rattle.serde_json.specs.View.{view, members_view}
use Rattle.json_list.specs.Lean.{lean, lean_members}
use Rattle.json_list.proofs.Lean.{InOrder}
use Rattle.json_list.proofs.Values.{ItemsCome, MembersCome}
use Rattle.json_list.proofs.value.+value_from.Given as goal

-- what was read so far, of which what is kept was found
abbrev pub invariant-items_from-items : goal.invariant-items_from-items
invariant-items_from-items g l =
    ((ds : List Data) × ItemsCome (l.depth - 1) l.fn.reader ds l.reader × (map view l.found.items ≡ map (lean g.K.Kept.under l.kept) ds)) × (length l.reader ≤ length l.fn.reader)

abbrev pub invariant-members_from-members : goal.invariant-members_from-members
invariant-members_from-members g l =
    ((ms : Members) × MembersCome (l.depth - 1) l.fn.reader ms l.reader × InOrder ms × (members_view l.found.entries ≡ lean_members g.K.Kept.under l.kept ms)) × (length l.reader ≤ length l.fn.reader)

-- what is in an array or object nests less deep than it does
abbrev pub decreases-value_from : goal.decreases-value_from
decreases-value_from g l = 3 * l.depth + 1

abbrev pub decreases-items_from : goal.decreases-items_from
decreases-items_from g l = 3 * l.depth

abbrev pub decreases-members_from : goal.decreases-members_from
decreases-members_from g l = 3 * l.depth

abbrev pub decreases-member_from : goal.decreases-member_from
decreases-member_from g l = 3 * l.depth + 2

abbrev pub decreases-items_from-items : goal.decreases-items_from-items
decreases-items_from-items g l = length l.reader

abbrev pub decreases-members_from-members : goal.decreases-members_from-members
decreases-members_from-members g l = length l.reader
