use Rattle.std.proofs.Common.{rules, subst, sym, List, ℕ}
use Rattle.rbac_streams.specs.Taken.{Took}
use Rattle.rbac_streams.proofs.TakenLemmas.{Took-more, take_add_rest}
use Rattle.rbac_streams.proofs.sink.Sink.put.Goals as goal

pub loop-at-preserved : goal.loop-at-preserved
loop-at-preserved g c =
    let ok = c.in-Ok.ensures.ok in
    let more = Took-more g.W.Write.contents _ _ _ _ _ c.loop-at.invariant.0 ok.2 in (
      subst (λ (x : List ℕ). Took g.W.Write.contents c.args.self.now c.write.new.self x) (sym (take_add_rest c.args.bytes.now c.loop-at.at c.in-Ok.n)) more,
      search rules,
      ok.3,
    )
