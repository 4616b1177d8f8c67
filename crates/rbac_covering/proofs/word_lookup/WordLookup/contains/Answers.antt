use Rattle.std.proofs.Common.{IsTrue}
use Rattle.rbac_terms.proofs.Halving.{among_iff}
use Rattle.rbac_covering.proofs.word_lookup.WordLookup.contains.Goals as goal

pub returns-in-Some : goal.returns-in-Some
returns-in-Some c =
    let in_order = rw c.in-Some.is at c.self.invariant.0 in
    rw (← c.self.view_is) (among_iff c.self.inside.words.now c.in-Some.ordered.items c.args.word.now (IsTrue c.is_among.result) in_order
    (rw (c.as_slice.ensures.value, c.as_bytes.ensures) at c.is_among.ensures))
