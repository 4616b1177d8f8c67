use Rattle.rbac_universe.proofs.SetLemmas.{principals_united}
use Rattle.rbac_universe.proofs.Targets.{exact, ordered, stems_are}
use Rattle.rbac_universe.proofs.sets.UniverseSets.of.Goals as goal

pub returns : goal.returns
returns c =
    let lists = c.args.lists.now in
    let stems = c.in_ok-united-2.field-0.items in
    let names = c.in_ok-once_each-3.field-0.items in
    record {
      sets = record {
        principals = principals_united lists.principals c.in_ok-united.field-0.items (rw c.in_ok-principals_of.ensures at c.in_ok-united.ensures);
        namespaces = c.in_ok-once_each.ensures;
        verbs = c.in_ok-once_each-2.ensures;
        ordered = ordered lists c.requires stems names (rw c.in_ok-stems.ensures at c.in_ok-united-2.ensures) c.in_ok-once_each-3.ensures;
        targets = exact lists c.requires stems names (rw c.in_ok-stems.ensures at c.in_ok-united-2.ensures) c.in_ok-once_each-3.ensures;
      };
      stems = stems_are lists c.requires stems names (rw c.in_ok-stems.ensures at c.in_ok-united-2.ensures) c.in_ok-once_each-3.ensures;
    }
