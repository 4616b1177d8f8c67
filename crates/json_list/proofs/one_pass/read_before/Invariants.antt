use Rattle.std.proofs.Common.{length}
use Rattle.serde_json.specs.Data.{no_members}
use Rattle.serde_json.specs.View.{members_view}
use Rattle.json_list.proofs.OnePass.{Adds}
use Rattle.json_list.proofs.one_pass.read_before.Given as goal

abbrev pub invariant-members : goal.invariant-members
invariant-members l = Adds no_members l.initial.reader l.reader (members_view l.members.entries)

abbrev pub decreases-members : goal.decreases-members
decreases-members l = length l.reader
