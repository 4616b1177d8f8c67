use Rattle.rbac_ways.specs.Ways.{GraphView}
use Rattle.rbac_ways.proofs.Turning.{turned_edges, turned_of}
use Rattle.rbac_ways.proofs.graph.Graph.turned.Goals as goal

pub returns-clause-edges : goal.returns-clause-edges
returns-clause-edges c =
    let g : GraphView = record { takes = c.self.inside.takes.items; lists = c.self.inside.lists.items; sets = c.self.inside.sets.items } in
    let h : GraphView = record { takes = c.in_ok-turned.field-0.items; lists = c.in_ok-turned-2.field-0.items; sets = c.in_ok-turned-3.field-0.items } in
    let takes = c.as_slice-takes.ensures.value in
    let lists = c.as_slice-lists.ensures.value in
    let sets = c.as_slice-sets.ensures.value in
    rw (← c.self.view_is) (turned_edges g h
    (turned_of g.sets g.takes c.as_slice-sets.result.now c.as_slice-takes.result.now h.takes sets takes c.in_ok-turned.ensures)
    (turned_of g.lists g.sets c.as_slice-lists.result.now c.as_slice-sets.result.now h.lists lists sets c.in_ok-turned-2.ensures)
    (turned_of g.takes g.lists c.as_slice-takes.result.now c.as_slice-lists.result.now h.sets takes lists c.in_ok-turned-3.ensures))
