use Rattle.std.proofs.Common.{arith}
use Rattle.rbac_subjects.proofs.KeyedLemmas.{below_end}
use Rattle.rbac_subjects.proofs.NamedLemmas.{adds_all, adds_more, adds_none}
use Rattle.rbac_subjects.proofs.named_places.push_under.Goals as goal

pub loop-at-init : goal.loop-at-init
loop-at-init c = record {
  low = (c.first_entry-at.result, c.first_entry-at.ensures.first, omega arith);
  seen = adds_none c.args.entries.now c.requires c.args.key.now c.args.end c.args.places.now.items c.first_entry-at.result c.first_entry-at.ensures.first;
}

pub loop-at-preserved : goal.loop-at-preserved
loop-at-preserved c =
    let low = c.loop-at.invariant.low in
    record {
      low = (low.0, low.1, omega (arith, low.2));
      seen = rw c.in_ok-push.ensures.items
          (adds_more c.args.entries.now c.requires c.args.key.now c.args.end c.args.places.now.items c.loop-at.at c.loop-at.places.items c.loop-at.invariant.seen
          c.index-entries-at.result (omega (arith, c.loop-at-test.true, c.first_entry-past.ensures.bound)) c.index-entries-at.is low
          (rw (← c.index-entries-at.is) at (c.first_entry-past.ensures.first.0 c.loop-at.at c.index-entries-at.result (omega arith) c.loop-at-test.true)));
    }

pub returns : goal.returns
returns c =
    adds_all c.args.entries.now c.requires c.args.key.now c.args.end c.args.places.now.items c.loop-at.at c.loop-at.places.items c.loop-at.invariant.seen
    (λ n p. (let below = below_end c.args.entries.now c.requires c.args.key.now 0 c.args.end c.first_entry-past.result c.first_entry-past.ensures.first n p in let end = c.loop-at-test.false in omega (arith, end, below)))
