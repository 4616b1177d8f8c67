use Rattle.std.proofs.Common.{◌∙◌, sym, map-id, length, arith, subst}
use Rattle.std.proofs.lemmas.Iterator.Consumers.{YieldsList-turn, YieldsList-end}
use Rattle.std.proofs.lemmas.Iterator.Adapters.{YieldsList-from_vec}
use Rattle.rbac_model.specs.Labelled.{SayTheSame}
use Rattle.rbac_model.proofs.LabelJoining.{joined_more, said_more, joined_all}
use Rattle.rbac_model.proofs.labels.joined.Goals as goal

pub loop-entry-preserved : goal.loop-entry-preserved
loop-entry-preserved c =
    let entries = c.args.entries.items in
    let gives = c.into_iter-entry-iterator.ensures.into_iter_gives in
    let road = YieldsList-from_vec {s = c.into_iter-entry-iterator.result} entries gives.0 (gives.1 ∙ c.args.entries.ok.0) in
    let turn = YieldsList-turn road c.loop-entry.yielded c.loop-entry.entry-iterator c.loop-entry.yielded_by c.next.result c.next.new.self c.in-Some.entry c.in-Some.is c.next.ensures.steps in
    record {
      in_order = joined_more entries c.loop-entry.yielded c.loop-entry.joined.items c.put_entry.new.joined.items c.in-Some.entry turn.0 turn.1 c.in_ok-put_entry.ensures c.loop-entry.invariant.in_order;
      same = said_more c.loop-entry.yielded c.loop-entry.joined.items c.put_entry.new.joined.items c.in-Some.entry c.in_ok-put_entry.ensures c.loop-entry.invariant.same;
    }

pub returns : goal.returns
returns c =
    let entries = c.args.entries.items in
    let gives = c.into_iter-entry-iterator.ensures.into_iter_gives in
    let seen = YieldsList-end (YieldsList-from_vec {s = c.into_iter-entry-iterator.result} entries gives.0 (gives.1 ∙ c.args.entries.ok.0))
    c.loop-entry.yielded c.loop-entry.entry-iterator c.loop-entry.yielded_by c.next.result c.next.new.self c.in-None.is c.next.ensures.steps in (
      joined_all entries c.loop-entry.joined.items (length c.loop-entry.yielded) (omega (arith, seen.1)) c.loop-entry.invariant.in_order,
      subst (λ xs. SayTheSame xs c.loop-entry.joined.items) (sym (map-id c.loop-entry.yielded) ∙ seen.0) c.loop-entry.invariant.same,
    )
