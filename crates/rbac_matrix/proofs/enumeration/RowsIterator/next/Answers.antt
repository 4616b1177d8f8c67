use Rattle.std.proofs.Common.{◌≡◌, ◌∙◌, ◌+◌, ap, sym, subst, length, arith}
use Rattle.std.proofs.lemmas.List.{length-map}
use Rattle.std.proofs.lemmas.Option.{same_Some, slice_get_within}
use Rattle.rbac_model.specs.Policies.{GrantView}
use Rattle.rbac_model.specs.Sources.{grant_of}
use Rattle.rbac_model.specs.Universes.{Listed}
use Rattle.rbac_matrix.specs.Lines.{LineView}
use Rattle.rbac_matrix.specs.Shown.{line_of}
use Rattle.rbac_matrix.specs.Passing.{cells_left, row_on}
use Rattle.rbac_matrix.specs.Seats.{AreSeated, AreSeatedAbout}
use Rattle.rbac_matrix.specs.Enumeration.{AreLeft, requests_left}
use Rattle.rbac_matrix.proofs.EnumLemmas.{all_passes, cell_passes}
use Rattle.rbac_matrix.proofs.BlockLemmas.{blocks_here}
use Rattle.rbac_matrix.proofs.LineLemmas.{are_real}
use Rattle.rbac_matrix.proofs.PassLemmas.{same_head}
use Rattle.rbac_matrix.proofs.GoingLemmas.{ended_left, fewer_left, fits_namespace, gains_on, key_is, metered_after, none_given, own_row, ready_after, ready_next, row_given, target_is}
use Rattle.rbac_matrix.proofs.enumeration.RowsIterator.next.Goals as goal

pub returns-in_err-place-clause-steps : goal.returns-in_err-place-clause-steps
unfolding AreLeft
returns-in_err-place-clause-steps c =
    let e = rw c.in_err-place.was at c.next_cell-found.ensures.row in
    rw c.from_residual.ensures (
      none_given c.args.self.now.index.now.held (cells_left c.args.self.now.universe.now c.args.self.now.at c.args.self.now.from)
          (all_passes c.args.self.now.index.now c.args.self.now.universe.now c.args.self.now.reaches.now c.requires.policy c.args.self.now.at c.args.self.now.from c.next_cell-found.result.0 c.next_cell-found.new.seats e),
      ended_left c.args.self.now.index.now.held c.args.self.now.universe.now c.next_cell-found.result.0 c.args.self.now.from e.ended,
    )

pub returns-in_err-place-clause-going : goal.returns-in_err-place-clause-going
returns-in_err-place-clause-going c =
    let e = rw c.in_err-place.was at c.next_cell-found.ensures.row in
    record {
      policy = c.requires.policy;
      universe = c.requires.universe;
      reaches = c.requires.reaches;
      ready = e.ready c.args.self.now.from 0;
      runs = c.next_cell-found.ensures.runs;
      blocks = c.next_cell-found.ensures.blocks;
      cluster_wide = c.requires.cluster_wide;
      rows = c.requires.rows;
      is_returned = c.requires.is_returned;
      metered = c.next_cell-found.ensures.metered c.args.self.now.start c.args.self.now.sought c.requires.rows c.requires.metered;
    }

pub advance-requires-clause-blocks : goal.advance-requires-clause-blocks
advance-requires-clause-blocks c = c.next_cell-found.ensures.blocks (line_of c.in_ok-line.line) _ c.in_ok-line.ensures.line

pub advance-requires-clause-seated : goal.advance-requires-clause-seated
advance-requires-clause-seated c =
    let f = rw c.in_ok-place.was at c.next_cell-found.ensures.row in
    let line = same_head (line_of c.in_ok-line.line) f.line _ f.others (sym c.in_ok-line.ensures.line ∙ f.line_at) in
    let lt = slice_get_within c.args.self.now.index.now.grants c.in_ok-place.no f.found.cursor.grant f.found.cursor.at in
    subst (λ (l : LineView). AreSeatedAbout c.args.self.now.index.now l c.args.self.now.reaches.now c.in_ok-place.place c.len-all.result c.next_cell-found.new.seats) (sym line) (f.found.about c.len-all.result (rw c.len-all.ensures lt))

pub advance-requires-clause-real : goal.advance-requires-clause-real
advance-requires-clause-real c = are_real c.args.self.now.index.now c.args.self.now.universe.now c.args.self.now.reaches.now (line_of c.in_ok-line.line) c.requires.policy c.requires.universe c.requires.reaches c.line_at.ensures.limits.targets

pub advance-requires-clause-stands : goal.advance-requires-clause-stands
advance-requires-clause-stands c =
    let f = rw c.in_ok-place.was at c.next_cell-found.ensures.row in
    let within = slice_get_within c.args.self.now.universe.now.targets c.in_ok-place.place f.found.next.hit.target f.found.next.hit.target_at in
    omega (arith, within, c.line_at.ensures.limits.targets)

pub overflow_add-self : goal.overflow_add-self
overflow_add-self c =
    let f = rw c.in_ok-place.was at c.next_cell-found.ensures.row in
    let within = slice_get_within c.args.self.now.universe.now.targets c.in_ok-place.place f.found.next.hit.target f.found.next.hit.target_at in
    omega (arith, within, c.targets-targets.ensures.few.targets)

pub grant-grant-requires : goal.grant-grant-requires
grant-grant-requires c =
    let f = rw c.in_ok-place.was at c.next_cell-found.ensures.row in
    slice_get_within c.args.self.now.index.now.grants c.in_ok-place.no f.found.next.hit.grant f.found.next.hit.grant_at

pub bounds-targets-place : goal.bounds-targets-place
bounds-targets-place c =
    let f = rw c.in_ok-place.was at c.next_cell-found.ensures.row in
    let within = slice_get_within c.args.self.now.universe.now.targets c.in_ok-place.place f.found.next.hit.target f.found.next.hit.target_at in
    let e = ap length c.targets-targets.ensures.targets in
    omega (arith, within, e, length-map c.args.self.now.universe.now.targets (λ (t : Listed). t.0))

pub row_of-requires : goal.row_of-requires
row_of-requires c =
    let f = rw c.in_ok-place.was at c.next_cell-found.ensures.row in
    let hit = f.found.next.hit in
    own_row f.line (line_of c.in_ok-line.line) c.index-targets-place.result hit.target
    (same_head (line_of c.in_ok-line.line) f.line _ f.others (sym c.in_ok-line.ensures.line ∙ f.line_at))
    (target_is c.args.self.now.universe.now.targets c.targets-targets.result.now c.in_ok-place.place c.index-targets-place.result hit.target c.targets-targets.ensures.targets c.index-targets-place.is hit.target_at)
    (fits_namespace c.args.self.now.universe.now c.requires.universe f.line c.in_ok-place.place hit.target hit.target_at hit.fits)

pub returns-clause-steps : goal.returns-clause-steps
unfolding AreLeft
returns-clause-steps c =
    let f = rw c.in_ok-place.was at c.next_cell-found.ensures.row in
    let hit = f.found.next.hit in
    let line = same_head (line_of c.in_ok-line.line) f.line _ f.others (sym c.in_ok-line.ensures.line ∙ f.line_at) in
    let target = target_is c.args.self.now.universe.now.targets c.targets-targets.result.now c.in_ok-place.place c.index-targets-place.result hit.target c.targets-targets.ensures.targets c.index-targets-place.is hit.target_at in
    let key = key_is f.line (line_of c.in_ok-line.line) c.index-targets-place.result hit.target line target in
    let grant : grant_of c.grant-grant.result ≡ hit.grant = same_Some (grant_of c.grant-grant.result) hit.grant (sym c.grant-grant.ensures.grant ∙ hit.grant_at) in
    record {
      row = row_on c.args.self.now.index.now c.args.self.now.universe.now f.line c.in_ok-place.place c.in_ok-place.no hit;
      shows = record {
        texts = c.row_of.ensures.texts ∙ key;
        binding = c.row_of.ensures.binding ∙ ap (λ (g : GrantView). g.binding) grant;
      };
      on = (f.others, f.line_at);
      left = row_given c.args.self.now.index.now.held (cells_left c.args.self.now.universe.now c.args.self.now.at c.args.self.now.from) (cells_left c.args.self.now.universe.now c.next_cell-found.result.0 (c.in_ok-place.place + 1)) _
          (cell_passes c.args.self.now.index.now c.args.self.now.universe.now c.args.self.now.reaches.now c.requires.policy c.args.self.now.at c.args.self.now.from c.next_cell-found.result.0 c.next_cell-found.new.seats c.in_ok-place.place c.in_ok-place.no f);
    }

pub returns-clause-going : goal.returns-clause-going
returns-clause-going c =
    let f = rw c.in_ok-place.was at c.next_cell-found.ensures.row in
    let line = same_head (line_of c.in_ok-line.line) f.line _ f.others (sym c.in_ok-line.ensures.line ∙ f.line_at) in
    let lt = slice_get_within c.args.self.now.index.now.grants c.in_ok-place.no f.found.cursor.grant f.found.cursor.at in
    let ready = ready_after c.args.self.now.index.now c.args.self.now.universe.now c.args.self.now.reaches.now c.args.self.now.at c.args.self.now.from 0 c.next_cell-found.result.0 c.next_cell-found.new.seats c.advance.new.seats c.in_ok-place.place c.in_ok-place.no c.len-all.result f
    (subst (λ (l : LineView). AreSeated c.args.self.now.index.now l c.args.self.now.reaches.now c.in_ok-place.place c.len-all.result c.advance.new.seats) line c.advance.ensures.seated) in
    record {
      policy = c.requires.policy;
      universe = c.requires.universe;
      reaches = c.requires.reaches;
      ready = ready_next c.args.self.now.index.now c.args.self.now.universe.now c.args.self.now.reaches.now c.next_cell-found.result.0 c.in_ok-place.place c.len-all.result c.advance.new.seats c.len-all.ensures ready;
      runs = rw c.advance.ensures.runs c.next_cell-found.ensures.runs;
      blocks = blocks_here c.args.self.now.index.now c.args.self.now.universe.now c.next_cell-found.result.0 (line_of c.in_ok-line.line) _ c.advance.new.kept c.advance.new.seats c.in_ok-line.ensures.line c.advance.ensures.blocks;
      cluster_wide = c.requires.cluster_wide;
      rows = c.requires.rows + 1;
      is_returned = omega (arith, c.saturating_add-self.ensures, c.requires.is_returned);
      metered = metered_after c.args.self.now.index.now c.args.self.now.universe.now c.args.self.now.reaches.now c.args.self.now.at c.args.self.now.from 0 c.next_cell-found.result.0 c.next_cell-found.new.seats c.advance.new.seats c.in_ok-place.place c.in_ok-place.no c.len-all.result f
          c.args.self.now.start c.args.self.now.sought c.requires.rows c.next_cell-found.new.meter c.advance.new.meter (c.next_cell-found.ensures.metered c.args.self.now.start c.args.self.now.sought c.requires.rows c.requires.metered) (rw c.len-all.ensures lt)
          (gains_on c.args.self.now.index.now (line_of c.in_ok-line.line) f.line c.in_ok-place.place c.len-all.result c.next_cell-found.new.seats c.advance.new.seats c.next_cell-found.new.meter c.advance.new.meter line c.advance.ensures.gains);
    }

pub returns-clause-goes : goal.returns-clause-goes
unfolding requests_left
returns-clause-goes c =
    let f = rw c.in_ok-place.was at c.next_cell-found.ensures.row in
    let fewer = fewer_left c.args.self.now.index.now.held (cells_left c.args.self.now.universe.now c.args.self.now.at c.args.self.now.from) (cells_left c.args.self.now.universe.now c.next_cell-found.result.0 (c.in_ok-place.place + 1)) _
    (cell_passes c.args.self.now.index.now c.args.self.now.universe.now c.args.self.now.reaches.now c.requires.policy c.args.self.now.at c.args.self.now.from c.next_cell-found.result.0 c.next_cell-found.new.seats c.in_ok-place.place c.in_ok-place.no f) in
    record {
      on = λ _. (returns-clause-going c, tt, fewer);
      keeps = returns-clause-going c;
      rests = λ _. tt;
    }
