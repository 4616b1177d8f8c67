use Rattle.std.proofs.Common.{[], List}
use Rattle.rbac_use.specs.Adding.{AddsLines, OfFirst}
use Rattle.rbac_use.specs.ByBinding.{AreAskedByBinding}
use Rattle.rbac_use.specs.Requests.{log_of}
use Rattle.rbac_use.specs.Unused.{IsUnusedAt}
use Rattle.rbac_use.specs.declared.request.Request.{Request}
use Rattle.rbac_use.proofs.unused.lines_of.Given as goal

abbrev pub invariant-loop-place : goal.invariant-loop-place
invariant-loop-place l = (requests : List Request) → AreAskedByBinding l.policy requests l.asked
    → AddsLines (OfFirst (IsUnusedAt l.policy (log_of requests) l.skip_system) l.place) [] l.found.items
