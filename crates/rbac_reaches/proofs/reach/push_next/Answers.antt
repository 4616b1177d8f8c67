use Rattle.rbac_reaches.proofs.SharedLemmas.{reaches_more}
use Rattle.rbac_reaches.proofs.reach.push_next.Goals as goal

pub next_reach-requires-clause-before : goal.next_reach-requires-clause-before
next_reach-requires-clause-before c = rw c.as_slice.ensures.value c.requires.before

pub returns : goal.returns
returns c =
    rw c.in_ok-push.ensures.items (reaches_more c.args.index.now c.args.universe.now c.args.no c.args.reaches.now.items c.in_ok-reach.reach c.requires.before c.in_ok-reach.ensures)
