use Rattle.std.proofs.Common.{inr, sym}
use Rattle.std.proofs.lemmas.Option.{slice_get_within}
use Rattle.rbac_matrix.specs.declared.every_rows.EveryRows.{EveryRows}
use Rattle.rbac_matrix.proofs.OnceEveryLemmas.{begins_below, begins_first, every_ready, every_within}
use Rattle.rbac_matrix.proofs.every_rows.EveryRows.come.Goals as goal

pub returns-in_err-no-clause-going : goal.returns-in_err-no-clause-going
returns-in_err-no-clause-going c = record {
  way = c.come.ensures.way c.args.self.now.upto (c.in_err-no.ensures.found.ready c.come.new.self.from c.args.self.now.upto);
  below = rw c.come.ensures.same.index c.requires.below;
  within = rw (c.in_err-no.ensures.place, c.come.ensures.same.universe) c.requires.within;
}

pub at_binding-binding-requires : goal.at_binding-binding-requires
at_binding-binding-requires c =
    let hit = c.in_ok-no.ensures.found.found.next.hit in
    rw c.come.ensures.same.index (slice_get_within c.args.self.now.rows.index.now.grants c.in_ok-no.no hit.grant hit.grant_at)

pub returns-clause-going : goal.returns-clause-going
returns-clause-going c =
    let t : EveryRows = record { rows = c.come.new.self; binding = c.at_binding-binding.result.0; upto = c.at_binding-binding.result.1 } in
    let begins = rw c.come.ensures.same.index at c.at_binding-binding.ensures in
    let f = rw (sym c.in_ok-no.ensures.place) at c.in_ok-no.ensures.found in
    record {
      way = c.come.ensures.way t.upto (every_ready c.args.self.now t c.requires.way.policy c.come.ensures.same c.requires.below c.requires.within c.in_ok-no.no f begins);
      below = rw c.come.ensures.same.index (begins_below c.args.self.now.rows.index.now c.in_ok-no.no t.binding t.upto begins (begins_first c.args.self.now.rows.index.now c.in_ok-no.no t.binding t.upto begins));
      within = inr (every_within c.args.self.now t c.requires.way.policy c.come.ensures.same c.requires.below c.requires.within c.in_ok-no.no f begins);
    }
