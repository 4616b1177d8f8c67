use Rattle.std.proofs.Common.{◌≡◌, ◌∷◌, ◌∙◌, ◌+◌, ◌-◌, ◌<◌, ◌≤◌, List, length, ap, sym, subst, refl, arith, rules, inl, inr, ℕ}
use Rattle.std.proofs.lemmas.Bool.{cases_eq}
use Rattle.rbac_model.specs.Policies.{PolicyView, IsPolicy}
use Rattle.rbac_model.specs.Universes.{UniverseView}
use Rattle.rbac_matrix.specs.Cursors.{AreKnownAt, AreRunsOf}
use Rattle.rbac_matrix.specs.Metering.{Skips}
use Rattle.rbac_matrix.specs.VerbPlaces.{LacksPlace}
use Rattle.rbac_matrix.specs.declared.line.Place.{Place}
use Rattle.rbac_matrix.specs.declared.bound_runs.Runs.{Runs}
use Rattle.rbac_matrix.proofs.VerbLemmas.{runs_here, verbs_over}
use Rattle.rbac_matrix.specs.Shown.{line_of}
use Rattle.rbac_matrix.specs.Lines.{IsLineAt, LineView, lines_from, place}
use Rattle.rbac_matrix.proofs.BlockLemmas.{blocks_here}
use Rattle.rbac_matrix.proofs.SeatLemmas.{Costs-then}
use Rattle.rbac_matrix.proofs.LineLemmas.{are_real}
use Rattle.rbac_matrix.proofs.EnumLemmas.{idle_line, skips_line, skips_same, skips_then, unfilled}
use Rattle.rbac_matrix.proofs.WalkLemmas.{known_at, known_moved, known_past, none_bound}
use Rattle.rbac_matrix.proofs.steps.next_line.Goals as goal

nought : (n : ℕ) → n ≤ 0 → n ≡ 0
nought n h = omega arith

pub seat_line-filled-requires-clause-real : goal.seat_line-filled-requires-clause-real
seat_line-filled-requires-clause-real c = are_real c.args.basis.index.now c.args.basis.universe.now c.args.basis.reaches.now (line_of c.in-Some.line) c.requires.policy c.line_at.ensures.universe c.requires.reaches c.line_at.ensures.limits.targets

pub returns-then-filled-gt0-clause-costs : goal.returns-then-filled-gt0-clause-costs
returns-then-filled-gt0-clause-costs c = Costs-then c.args.seats.now c.loop-line.seats c.seat_line-filled.new.seats 0 0 0 0 c.args.meter.now c.loop-line.meter c.seat_line-filled.new.meter c.loop-line.invariant.costs (c.seat_line-filled.ensures.started refl)

pub loop-line-preserved-then-is_empty : goal.loop-line-preserved-then-is_empty
loop-line-preserved-then-is_empty c = record {
  settled = c.settled-at-then-is_empty.ensures.settled;
  skips = skips_then c.args.basis.index.now.held c.args.basis.universe.now c.args.at c.loop-line.at c.settled-at-then-is_empty.result c.loop-line.invariant.skips
      (skips_then c.args.basis.index.now.held c.args.basis.universe.now c.loop-line.at c.past_idle.result c.settled-at-then-is_empty.result c.past_idle.ensures.skips
      (skips_same c.args.basis.index.now.held c.args.basis.universe.now c.past_idle.result c.settled-at-then-is_empty.result c.settled-at-then-is_empty.ensures.same));
  empty = c.loop-line.invariant.empty;
  known = known_moved c.args.basis.index.now c.args.basis.universe.now c.past_idle.result c.settled-at-then-is_empty.result c.renew.new.runs c.settled-at-then-is_empty.ensures.moved
      (known_past c.args.basis.index.now c.args.basis.universe.now c.loop-line.at c.past_idle.result (line_of c.in-Some.line) c.renew.new.runs c.in-Some.ensures.place c.renew.ensures.bare c.renew.ensures.runs.2 c.past_idle.ensures.begins.0 c.past_idle.ensures.begins.1);
  costs = c.loop-line.invariant.costs;
}

pub loop-line-preserved : goal.loop-line-preserved
loop-line-preserved c =
    let real = are_real c.args.basis.index.now c.args.basis.universe.now c.args.basis.reaches.now (line_of c.in-Some.line) c.requires.policy c.line_at.ensures.universe c.requires.reaches c.line_at.ensures.limits.targets in
    let none = sym c.seat_line-filled.ensures.filled ∙ nought c.seat_line-filled.result c.if-filled-gt0.false in
    let line : lines_from c.args.basis.universe.now c.loop-line.at ≡ line_of c.in-Some.line ∷ lines_from c.args.basis.universe.now c.settled-at-else-lack_verb.result =
    c.in-Some.ensures.line ∙ ap (λ (ls : List LineView). line_of c.in-Some.line ∷ ls) (sym (c.settled-at-else-lack_verb.ensures.same ∙ ap (lines_from c.args.basis.universe.now) c.after.ensures)) in
    record {
      settled = c.settled-at-else-lack_verb.ensures.settled;
      skips = skips_then c.args.basis.index.now.held c.args.basis.universe.now c.args.at c.loop-line.at c.settled-at-else-lack_verb.result c.loop-line.invariant.skips
          (skips_line c.args.basis.index.now.held c.args.basis.universe.now c.loop-line.at c.settled-at-else-lack_verb.result (line_of c.in-Some.line) line
          (idle_line c.args.basis.index.now c.args.basis.universe.now c.args.basis.reaches.now (line_of c.in-Some.line) c.seat_line-filled.new.seats c.requires.policy c.line_at.ensures.universe c.requires.reaches c.line_at.ensures.limits.targets real c.seat_line-filled.ensures.seated none));
      known = known_moved c.args.basis.index.now c.args.basis.universe.now c.after.result c.settled-at-else-lack_verb.result c.renew.new.runs c.settled-at-else-lack_verb.ensures.moved
          (rw c.after.ensures (known_at c.args.basis.index.now c.args.basis.universe.now c.loop-line.at (line_of c.in-Some.line) c.renew.new.runs (c.loop-line.at.verb + 1) c.in-Some.ensures.place c.renew.ensures.runs c.renew.ensures.bare));
      empty = unfilled c.args.basis.index.now (line_of c.in-Some.line) c.args.basis.reaches.now 0 0 c.seat_line-filled.new.seats real c.seat_line-filled.ensures.seated none;
      costs = Costs-then c.args.seats.now c.loop-line.seats c.seat_line-filled.new.seats 0 0 0 0 c.args.meter.now c.loop-line.meter c.seat_line-filled.new.meter c.loop-line.invariant.costs (c.seat_line-filled.ensures.started refl);
    }

pub loop-line-init : goal.loop-line-init
loop-line-init c = record {
  settled = c.settled-at.ensures.settled;
  skips = skips_same c.args.basis.index.now.held c.args.basis.universe.now c.args.at c.settled-at.result c.settled-at.ensures.same;
  empty = c.requires.empty;
  known = known_moved c.args.basis.index.now c.args.basis.universe.now c.args.at c.settled-at.result c.args.kept.now.runs c.settled-at.ensures.moved c.requires.known;
  costs = search rules;
}

pub past_idle-requires-clause-idle : goal.past_idle-requires-clause-idle
past_idle-requires-clause-idle c = none_bound c.args.basis.index.now (line_of c.in-Some.line) c.renew.new.runs (c.is_empty.ensures.0 c.if-is_empty.true) c.renew.ensures.runs.0

pub renew-requires-clause-verbs : goal.renew-requires-clause-verbs
renew-requires-clause-verbs c = λ later. c.loop-line.invariant.known.verbs later (line_of c.in-Some.line) c.in-Some.ensures.place

pub renew-requires-clause-bare : goal.renew-requires-clause-bare
renew-requires-clause-bare c = λ later. c.loop-line.invariant.known.bare later c.in-Some.line.principal.now c.in-Some.ensures.place.principal

pub returns-then-filled-gt0-clause-blocks : goal.returns-then-filled-gt0-clause-blocks
returns-then-filled-gt0-clause-blocks c = blocks_here c.args.basis.index.now c.args.basis.universe.now c.loop-line.at (line_of c.in-Some.line) _ (record { runs = c.renew.new.runs; blocks = c.fill.new.self }) c.seat_line-filled.new.seats c.in-Some.ensures.line c.fill.ensures

-- the lines of verbs that no grant has are passed, up to the next verb
passed : (p : PolicyView) (u : UniverseView) → IsPolicy p → (at to : Place) (l : LineView) (runs : Runs) → IsLineAt u at l → AreRunsOf p u l runs → to ≡ place at.principal at.namespace to.verb → at.verb < to.verb → to.verb ≤ length u.verbs → LacksPlace runs.verbs.words.items at.verb → ((v : ℕ) → at.verb < v → v < to.verb → LacksPlace runs.verbs.words.items v) → Skips p.held u at to × (length (lines_from u to) < length (lines_from u at))
passed p u policy at to l runs here are is on within first others =
    let lacks : (w : ℕ) → at.verb ≤ w → w < at.verb + (to.verb - at.verb) → LacksPlace runs.verbs.words.items w = λ w low high. elim (cases_eq w at.verb) [
      | inl e ↦ subst (λ (i : ℕ). LacksPlace runs.verbs.words.items i) (sym e) first
      | inr ne ↦ others w (omega arith) (omega arith)
    ] in
    let over = verbs_over p u l.who l.namespace runs.verbs.words.items are.1 policy at.principal at.namespace here.principal here.namespace (to.verb - at.verb) at.verb (omega arith) lacks in
    let e : at.verb + (to.verb - at.verb) ≡ to.verb = omega arith in
    let skips = subst (λ (i : ℕ). Skips p.held u at (place at.principal at.namespace i)) e over.0 in
    let fewer : length (lines_from u (place at.principal at.namespace to.verb)) < length (lines_from u at) = subst (λ (i : ℕ). length (lines_from u (place at.principal at.namespace i)) < length (lines_from u at)) e (omega (arith, over.1)) in
    (subst (λ (t : Place). Skips p.held u at t) (sym is) skips, subst (λ (t : Place). length (lines_from u t) < length (lines_from u at)) (sym is) fewer)

pub loop-line-preserved-then-lack_verb : goal.loop-line-preserved-then-lack_verb
loop-line-preserved-then-lack_verb c =
    let over = passed c.args.basis.index.now c.args.basis.universe.now c.requires.policy c.loop-line.at c.past_verbs.result (line_of c.in-Some.line) c.renew.new.runs c.in-Some.ensures.place c.renew.ensures.runs c.past_verbs.ensures.place c.past_verbs.ensures.on c.past_verbs.ensures.within (c.lack_verb.ensures.0 c.if-lack_verb.true) c.past_verbs.ensures.lack in
    record {
      settled = c.settled-at-then-lack_verb.ensures.settled;
      skips = skips_then c.args.basis.index.now.held c.args.basis.universe.now c.args.at c.loop-line.at c.settled-at-then-lack_verb.result c.loop-line.invariant.skips
          (skips_then c.args.basis.index.now.held c.args.basis.universe.now c.loop-line.at c.past_verbs.result c.settled-at-then-lack_verb.result over.0
          (skips_same c.args.basis.index.now.held c.args.basis.universe.now c.past_verbs.result c.settled-at-then-lack_verb.result c.settled-at-then-lack_verb.ensures.same));
      empty = c.loop-line.invariant.empty;
      known = known_moved c.args.basis.index.now c.args.basis.universe.now c.past_verbs.result c.settled-at-then-lack_verb.result c.renew.new.runs c.settled-at-then-lack_verb.ensures.moved
          (subst (λ (t : Place). AreKnownAt c.args.basis.index.now c.args.basis.universe.now t c.renew.new.runs) (sym c.past_verbs.ensures.place) (known_at c.args.basis.index.now c.args.basis.universe.now c.loop-line.at (line_of c.in-Some.line) c.renew.new.runs c.past_verbs.result.verb c.in-Some.ensures.place c.renew.ensures.runs c.renew.ensures.bare));
      costs = c.loop-line.invariant.costs;
    }

pub loop-line-smaller-then-lack_verb : goal.loop-line-smaller-then-lack_verb
loop-line-smaller-then-lack_verb c =
    let over = passed c.args.basis.index.now c.args.basis.universe.now c.requires.policy c.loop-line.at c.past_verbs.result (line_of c.in-Some.line) c.renew.new.runs c.in-Some.ensures.place c.renew.ensures.runs c.past_verbs.ensures.place c.past_verbs.ensures.on c.past_verbs.ensures.within (c.lack_verb.ensures.0 c.if-lack_verb.true) c.past_verbs.ensures.lack in
    omega (arith, over.1, ap length c.settled-at-then-lack_verb.ensures.same)

pub returns-then-filled-gt0-clause-runs : goal.returns-then-filled-gt0-clause-runs
returns-then-filled-gt0-clause-runs c = runs_here c.args.basis.index.now c.args.basis.universe.now c.loop-line.at (line_of c.in-Some.line) _ c.renew.new.runs c.in-Some.ensures.line c.renew.ensures.runs c.renew.ensures.bare
