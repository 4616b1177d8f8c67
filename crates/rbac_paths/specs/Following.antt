-- Following paths and ways from line to line: back to the start of paths, and on to the end of ways.
use Rattle.std.specs.Prelude.{◌≡◌, ◌⊎◌, ◌+◌, List, Any, Contains, MatchOption}
use Rattle.rbac_paths.specs.Nodes.{NodeView}
use Rattle.rbac_paths.specs.Paths.{PathView}
use Rattle.rbac_paths.specs.WaysTo.{WayView}

-- the node before each path is the start, or has a path with one step less
abbrev pub LeadBack : NodeView → List PathView → Type 0
LeadBack start xs = (x : PathView) → Contains xs x → ((x.count ≡ 1) × (x.before ≡ start))
    ⊎ Any (λ y. (y.count + 1 ≡ x.count) × (y.node ≡ x.before)) xs

-- each way has no step, or the node after it has a way with one step less
abbrev pub LeadOn : List WayView → Type 0
LeadOn xs = (x : WayView) → Contains xs x → MatchOption x.next (x.count ≡ 0)
    (λ next. Any (λ y. (y.count + 1 ≡ x.count) × (y.node ≡ next.node)) xs)
