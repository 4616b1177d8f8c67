use Rattle.std.proofs.Common.{◌+◌, ◌*◌, ◌-◌, ◌≤◌, List, length}
use Rattle.serde_json.specs.Data.{Data, Members}
use Rattle.json_list.proofs.Values.{ItemsCome, MembersCome}
use Rattle.json_list.proofs.pass.+pass_value.Given as goal

abbrev pub invariant-pass_items-items : goal.invariant-pass_items-items
invariant-pass_items-items l = ((ds : List Data) × ItemsCome (l.depth - 1) l.fn.reader ds l.reader) × (length l.reader ≤ length l.fn.reader)

abbrev pub invariant-pass_members-members : goal.invariant-pass_members-members
invariant-pass_members-members l = ((ms : Members) × MembersCome (l.depth - 1) l.fn.reader ms l.reader) × (length l.reader ≤ length l.fn.reader)

abbrev pub decreases-pass_value : goal.decreases-pass_value
decreases-pass_value l = 2 * l.depth + 1

abbrev pub decreases-pass_items : goal.decreases-pass_items
decreases-pass_items l = 2 * l.depth

abbrev pub decreases-pass_members : goal.decreases-pass_members
decreases-pass_members l = 2 * l.depth

abbrev pub decreases-pass_items-items : goal.decreases-pass_items-items
decreases-pass_items-items l = length l.reader

abbrev pub decreases-pass_members-members : goal.decreases-pass_members-members
decreases-pass_members-members l = length l.reader
