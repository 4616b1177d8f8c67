use Rattle.std.proofs.Common.{◌↔◌, Contains, List, ℕ, map, subst}
use Rattle.rbac_ways.specs.Ways.{AreStops}
use Rattle.rbac_paths.specs.Nodes.{node_of}
use Rattle.rbac_paths.specs.Seeking.{IsSought}
use Rattle.rbac_paths.specs.Tracing.{IsAt}
use Rattle.rbac_paths.specs.declared.node.Node.{Node}
use Rattle.rbac_paths.proofs.tracing.reached_from.Goals as goal

pub returns : goal.returns
returns c = record {
  starts = c.in_ok-starts.starts.items;
  exact = subst (λ (ns : List Node). (j : ℕ) → Contains c.in_ok-starts.starts.items j ↔ IsAt (IsSought c.args.sought) (map node_of ns) j) c.as_slice.ensures.value c.in_ok-starts.ensures;
  stops_are = subst (λ (js : List ℕ). AreStops c.args.search.now.joined.graph js c.in_ok-reached.reached.stops.items) c.as_slice-2.ensures.value c.in_ok-reached.ensures.stops;
  ordered = c.in_ok-reached.ensures.order;
}
