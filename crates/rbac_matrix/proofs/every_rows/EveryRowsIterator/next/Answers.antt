use Rattle.std.proofs.Common.{◌≡◌, ◌∙◌, ◌+◌, ap, sym, subst, length, arith, inr}
use Rattle.std.proofs.lemmas.List.{length-map}
use Rattle.std.proofs.lemmas.Option.{same_Some, slice_get_within}
use Rattle.rbac_model.specs.Policies.{GrantView}
use Rattle.rbac_model.specs.Sources.{grant_of}
use Rattle.rbac_model.specs.Universes.{Listed}
use Rattle.rbac_matrix.specs.Lines.{LineView}
use Rattle.rbac_matrix.specs.Shown.{line_of}
use Rattle.rbac_matrix.specs.EveryLeft.{AreEveryLeft, pairs_from, pairs_left}
use Rattle.rbac_matrix.specs.Passing.{cells_left, row_on}
use Rattle.rbac_matrix.specs.Seats.{AreSeated, AreSeatedAbout}
use Rattle.rbac_matrix.proofs.EveryLemmas.{none_left, passes_below, passes_own, passes_split, past_left, split_fewer, split_those}
use Rattle.rbac_matrix.proofs.BlockLemmas.{blocks_here}
use Rattle.rbac_matrix.proofs.LineLemmas.{are_real}
use Rattle.rbac_matrix.proofs.PairLemmas.{hit_granted}
use Rattle.rbac_matrix.proofs.PassLemmas.{same_head}
use Rattle.rbac_matrix.proofs.GoingLemmas.{fits_namespace, gains_on, key_is, metered_after, own_row, ready_after, target_is}
use Rattle.rbac_matrix.proofs.every_rows.EveryRowsIterator.next.Goals as goal

pub returns-in_err-place-clause-steps : goal.returns-in_err-place-clause-steps
unfolding AreEveryLeft
returns-in_err-place-clause-steps c =
    let e = rw c.in_err-place.was at c.next_cell-found.ensures.row in
    rw c.from_residual.ensures (
      none_left c.args.self.now.rows.index.now c.requires.way.policy c.args.self.now.rows.universe.now c.args.self.now.rows.reaches.now c.args.self.now.rows.at c.args.self.now.rows.from c.args.self.now.upto c.args.self.now.binding c.next_cell-found.result.0 c.next_cell-found.new.seats c.requires.below c.requires.within e,
      past_left c.args.self.now.rows.index.now c.args.self.now.rows.universe.now c.next_cell-found.result.0 c.args.self.now.rows.from c.args.self.now.binding e.ended,
    )

pub returns-in_err-place-clause-going : goal.returns-in_err-place-clause-going
returns-in_err-place-clause-going c =
    let e = rw c.in_err-place.was at c.next_cell-found.ensures.row in
    record {
      way = record {
        policy = c.requires.way.policy;
        universe = c.requires.way.universe;
        reaches = c.requires.way.reaches;
        ready = e.ready c.args.self.now.rows.from c.args.self.now.upto;
        runs = c.next_cell-found.ensures.runs;
        blocks = c.next_cell-found.ensures.blocks;
        cluster_wide = c.requires.way.cluster_wide;
        rows = c.requires.way.rows;
        is_returned = c.requires.way.is_returned;
        metered = c.next_cell-found.ensures.metered c.args.self.now.rows.start c.args.self.now.rows.sought c.requires.way.rows c.requires.way.metered;
      };
      below = c.requires.below;
      within = c.requires.within;
    }

pub advance-requires-clause-blocks : goal.advance-requires-clause-blocks
advance-requires-clause-blocks c = c.next_cell-found.ensures.blocks (line_of c.in_ok-line.line) _ c.in_ok-line.ensures.line

pub advance-requires-clause-seated : goal.advance-requires-clause-seated
advance-requires-clause-seated c =
    let f = rw c.in_ok-place.was at c.next_cell-found.ensures.row in
    let line = same_head (line_of c.in_ok-line.line) f.line _ f.others (sym c.in_ok-line.ensures.line ∙ f.line_at) in
    let lt = passes_own c.args.self.now.rows.index.now c.in_ok-place.no c.after_binding-binding.result.0 c.after_binding-binding.result.1 c.after_binding-binding.ensures in
    subst (λ (l : LineView). AreSeatedAbout c.args.self.now.rows.index.now l c.args.self.now.rows.reaches.now c.in_ok-place.place c.after_binding-binding.result.1 c.next_cell-found.new.seats) (sym line) (f.found.about c.after_binding-binding.result.1 lt)

pub advance-requires-clause-real : goal.advance-requires-clause-real
advance-requires-clause-real c = are_real c.args.self.now.rows.index.now c.args.self.now.rows.universe.now c.args.self.now.rows.reaches.now (line_of c.in_ok-line.line) c.requires.way.policy c.requires.way.universe c.requires.way.reaches c.line_at.ensures.limits.targets

pub advance-requires-clause-stands : goal.advance-requires-clause-stands
advance-requires-clause-stands c =
    let f = rw c.in_ok-place.was at c.next_cell-found.ensures.row in
    let within = slice_get_within c.args.self.now.rows.universe.now.targets c.in_ok-place.place f.found.next.hit.target f.found.next.hit.target_at in
    omega (arith, within, c.line_at.ensures.limits.targets)

pub grant-grant-requires : goal.grant-grant-requires
grant-grant-requires c =
    let f = rw c.in_ok-place.was at c.next_cell-found.ensures.row in
    slice_get_within c.args.self.now.rows.index.now.grants c.in_ok-place.no f.found.next.hit.grant f.found.next.hit.grant_at

pub bounds-targets-place : goal.bounds-targets-place
bounds-targets-place c =
    let f = rw c.in_ok-place.was at c.next_cell-found.ensures.row in
    let within = slice_get_within c.args.self.now.rows.universe.now.targets c.in_ok-place.place f.found.next.hit.target f.found.next.hit.target_at in
    let e = ap length c.targets-targets.ensures.targets in
    omega (arith, within, e, length-map c.args.self.now.rows.universe.now.targets (λ (t : Listed). t.0))

pub row_of-requires : goal.row_of-requires
row_of-requires c =
    let f = rw c.in_ok-place.was at c.next_cell-found.ensures.row in
    let hit = f.found.next.hit in
    own_row f.line (line_of c.in_ok-line.line) c.index-targets-place.result hit.target
    (same_head (line_of c.in_ok-line.line) f.line _ f.others (sym c.in_ok-line.ensures.line ∙ f.line_at))
    (target_is c.args.self.now.rows.universe.now.targets c.targets-targets.result.now c.in_ok-place.place c.index-targets-place.result hit.target c.targets-targets.ensures.targets c.index-targets-place.is hit.target_at)
    (fits_namespace c.args.self.now.rows.universe.now c.requires.way.universe f.line c.in_ok-place.place hit.target hit.target_at hit.fits)

pub returns-clause-steps : goal.returns-clause-steps
unfolding AreEveryLeft
returns-clause-steps c =
    let f = rw c.in_ok-place.was at c.next_cell-found.ensures.row in
    let hit = f.found.next.hit in
    let line = same_head (line_of c.in_ok-line.line) f.line _ f.others (sym c.in_ok-line.ensures.line ∙ f.line_at) in
    let target = target_is c.args.self.now.rows.universe.now.targets c.targets-targets.result.now c.in_ok-place.place c.index-targets-place.result hit.target c.targets-targets.ensures.targets c.index-targets-place.is hit.target_at in
    let key = key_is f.line (line_of c.in_ok-line.line) c.index-targets-place.result hit.target line target in
    let grant : grant_of c.grant-grant.result ≡ hit.grant = same_Some (grant_of c.grant-grant.result) hit.grant (sym c.grant-grant.ensures.grant ∙ hit.grant_at) in
    record {
      row = row_on c.args.self.now.rows.index.now c.args.self.now.rows.universe.now f.line c.in_ok-place.place c.in_ok-place.no hit;
      shows = record {
        texts = c.row_of.ensures.texts ∙ key;
        binding = c.row_of.ensures.binding ∙ ap (λ (g : GrantView). g.binding) grant;
      };
      on = (f.others, f.line_at);
      left = split_those c.args.self.now.rows.index.now (pairs_from c.args.self.now.rows.index.now.held.bindings c.args.self.now.binding (cells_left c.args.self.now.rows.universe.now c.args.self.now.rows.at c.args.self.now.rows.from)) (pairs_from c.args.self.now.rows.index.now.held.bindings c.after_binding-binding.result.0 (cells_left c.args.self.now.rows.universe.now c.next_cell-found.result.0 c.in_ok-place.place)) (row_on c.args.self.now.rows.index.now c.args.self.now.rows.universe.now f.line c.in_ok-place.place c.in_ok-place.no hit)
          (passes_split c.args.self.now.rows.index.now c.requires.way.policy c.args.self.now.rows.universe.now c.in_ok-place.place c.in_ok-place.no c.after_binding-binding.result.0 c.after_binding-binding.result.1 c.after_binding-binding.ensures c.args.self.now.rows.reaches.now c.args.self.now.rows.at c.args.self.now.rows.from c.args.self.now.upto c.args.self.now.binding c.next_cell-found.result.0 c.next_cell-found.new.seats c.requires.below c.requires.within f) (hit_granted c.args.self.now.rows.index.now c.requires.way.policy c.args.self.now.rows.universe.now f.line c.in_ok-place.place c.in_ok-place.no hit);
    }

pub returns-clause-going : goal.returns-clause-going
returns-clause-going c =
    let f = rw c.in_ok-place.was at c.next_cell-found.ensures.row in
    let line = same_head (line_of c.in_ok-line.line) f.line _ f.others (sym c.in_ok-line.ensures.line ∙ f.line_at) in
    let lt = passes_own c.args.self.now.rows.index.now c.in_ok-place.no c.after_binding-binding.result.0 c.after_binding-binding.result.1 c.after_binding-binding.ensures in
    record {
      way = record {
        policy = c.requires.way.policy;
        universe = c.requires.way.universe;
        reaches = c.requires.way.reaches;
        ready = ready_after c.args.self.now.rows.index.now c.args.self.now.rows.universe.now c.args.self.now.rows.reaches.now c.args.self.now.rows.at c.args.self.now.rows.from c.args.self.now.upto c.next_cell-found.result.0 c.next_cell-found.new.seats c.advance.new.seats c.in_ok-place.place c.in_ok-place.no c.after_binding-binding.result.1 f
            (subst (λ (l : LineView). AreSeated c.args.self.now.rows.index.now l c.args.self.now.rows.reaches.now c.in_ok-place.place c.after_binding-binding.result.1 c.advance.new.seats) line c.advance.ensures.seated);
        runs = rw c.advance.ensures.runs c.next_cell-found.ensures.runs;
        blocks = blocks_here c.args.self.now.rows.index.now c.args.self.now.rows.universe.now c.next_cell-found.result.0 (line_of c.in_ok-line.line) _ c.advance.new.kept c.advance.new.seats c.in_ok-line.ensures.line c.advance.ensures.blocks;
        cluster_wide = c.requires.way.cluster_wide;
        rows = c.requires.way.rows + 1;
        is_returned = omega (arith, c.saturating_add-rows.ensures, c.requires.way.is_returned);
        metered = metered_after c.args.self.now.rows.index.now c.args.self.now.rows.universe.now c.args.self.now.rows.reaches.now c.args.self.now.rows.at c.args.self.now.rows.from c.args.self.now.upto c.next_cell-found.result.0 c.next_cell-found.new.seats c.advance.new.seats c.in_ok-place.place c.in_ok-place.no c.after_binding-binding.result.1 f
            c.args.self.now.rows.start c.args.self.now.rows.sought c.requires.way.rows c.next_cell-found.new.meter c.advance.new.meter (c.next_cell-found.ensures.metered c.args.self.now.rows.start c.args.self.now.rows.sought c.requires.way.rows c.requires.way.metered) lt
            (gains_on c.args.self.now.rows.index.now (line_of c.in_ok-line.line) f.line c.in_ok-place.place c.after_binding-binding.result.1 c.next_cell-found.new.seats c.advance.new.seats c.next_cell-found.new.meter c.advance.new.meter line c.advance.ensures.gains);
      };
      below = passes_below c.args.self.now.rows.index.now c.in_ok-place.no c.after_binding-binding.result.0 c.after_binding-binding.result.1 c.after_binding-binding.ensures;
      within = inr (slice_get_within c.args.self.now.rows.universe.now.targets c.in_ok-place.place f.found.next.hit.target f.found.next.hit.target_at);
    }

pub returns-clause-goes : goal.returns-clause-goes
unfolding pairs_left
returns-clause-goes c =
    let f = rw c.in_ok-place.was at c.next_cell-found.ensures.row in
    let fewer = split_fewer c.args.self.now.rows.index.now (pairs_from c.args.self.now.rows.index.now.held.bindings c.args.self.now.binding (cells_left c.args.self.now.rows.universe.now c.args.self.now.rows.at c.args.self.now.rows.from)) (pairs_from c.args.self.now.rows.index.now.held.bindings c.after_binding-binding.result.0 (cells_left c.args.self.now.rows.universe.now c.next_cell-found.result.0 c.in_ok-place.place)) _ (passes_split c.args.self.now.rows.index.now c.requires.way.policy c.args.self.now.rows.universe.now c.in_ok-place.place c.in_ok-place.no c.after_binding-binding.result.0 c.after_binding-binding.result.1 c.after_binding-binding.ensures c.args.self.now.rows.reaches.now c.args.self.now.rows.at c.args.self.now.rows.from c.args.self.now.upto c.args.self.now.binding c.next_cell-found.result.0 c.next_cell-found.new.seats c.requires.below c.requires.within f) in
    record {
      on = λ _. (returns-clause-going c, tt, fewer);
      keeps = returns-clause-going c;
      rests = λ _. tt;
    }
