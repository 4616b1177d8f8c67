use Rattle.rbac_terms.specs.Sorted.{IsSortedCopy}
use Rattle.rbac_terms.proofs.Halving.{among_iff}
use Rattle.rbac_terms.proofs.given_groups.GivenGroups.contains.Goals as goal

pub returns-in-Some : goal.returns-in-Some
returns-in-Some c =
    let order : IsSortedCopy c.self.inside.given c.in-Some.sorted.items = rw c.in-Some.is at c.self.invariant in
    rw (← c.self.view_is) (among_iff c.self.inside.given c.in-Some.sorted.items c.args.group.now _ order (rw c.as_slice.ensures.value at c.is_among.ensures))
