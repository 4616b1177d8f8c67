-- rows of every granting binding that are passed: all of them are repeats
use Rattle.std.proofs.Common.{◌≡◌, ℕ, ◌+◌, ◌<◌, ◌≤◌, ◌⊎◌, List, [], ◌∷◌, Bool, true, false, length, refl, ap, ◌∙◌, sym, arith, subst, inl, inr}
use Rattle.std.specs.Prelude.{◌↔◌, Some, slice_get}
use Rattle.std.proofs.lemmas.Bool.{cases_lt}
use Rattle.std.proofs.lemmas.Option.{same_Some, slice_get_within}
use Rattle.rbac_terms.specs.declared.granting.Binding.{Binding}
use Rattle.rbac_model.specs.Policies.{PolicyView, IsPolicy, GrantView}
use Rattle.rbac_model.specs.Universes.{UniverseView, IsUniverse, Cell, RowView}
use Rattle.rbac_model.proofs.BindingPlaces.{of_some_binding}
use Rattle.rbac_matrix.specs.Enumeration.{GoesOn}
use Rattle.rbac_matrix.specs.EveryLeft.{AreBelow, AreEveryLeft, BeginsBinding, PassesBinding, pairs_from, pairs_left}
use Rattle.rbac_matrix.specs.Lines.{LineView, cells_of_lines, lines_from}
use Rattle.rbac_matrix.specs.Metering.{IsReady}
use Rattle.rbac_matrix.specs.Once.{PassesSome, StaysFirst, is_repeat, repeats_at}
use Rattle.rbac_matrix.specs.Pairs.{AreThose, IsGranted}
use Rattle.rbac_matrix.specs.Passing.{EndsAll, FindsCell, IsNoEarlier, cell_of, cells_left, row_on}
use Rattle.rbac_matrix.specs.declared.every_rows.EveryRows.{EveryRows}
use Rattle.rbac_matrix.proofs.BeginLemmas.{ready_line}
use Rattle.rbac_matrix.proofs.EveryLemmas.{Splits, cells_head, none_left, passes_split, past_left, split_fewer, split_those}
use Rattle.rbac_matrix.proofs.GoingLemmas.{fits_namespace}
use Rattle.rbac_matrix.proofs.LinesLemmas.{drop_at}
use Rattle.rbac_matrix.proofs.NoneLeft.{every_none}
use Rattle.rbac_matrix.proofs.OnceLemmas.{no_repeats, one_repeat}
use Rattle.rbac_matrix.proofs.PairLemmas.{hit_granted, those_first}
use Rattle.rbac_matrix.proofs.PassLemmas.{same_head}

-- the grants before the first grant of a binding are those of the bindings before it
pub begins_below : (p : PolicyView) (number place start : ℕ) → BeginsBinding p number place start → start ≤ number → AreBelow p start place
begins_below p number place start b le n i of =
    let own = b.own n i of in
    let ends = b.ends n i of in
    let own_number = (b.own number place b.of).1 refl in (
      λ lt. elim (cases_lt i place) [
        | inl less ↦ less
        | inr ge ↦ absurd (let early = ends.0 (omega (arith, own_number.1)) in let same = own.1 (omega arith) in omega (arith, same.0))
      ],
      λ less. elim (cases_lt n start) [
        | inl lt ↦ lt
        | inr ge ↦ absurd (let here = ends.1 (omega arith) in let e = own.0 (ge, here) in omega arith)
      ],
    )

pub begins_first : (p : PolicyView) (number place start : ℕ) → BeginsBinding p number place start → start ≤ number
begins_first p number place start b = ((b.own number place b.of).1 refl).0

begins_passes : (p : PolicyView) (number place start : ℕ) (b : BeginsBinding p number place start) → PassesBinding p number (place + 1) b.end
begins_passes p number place start b = record { at = place; start = start; of = b.of; own = b.own; ends = b.ends; is = refl }

-- if the grants below `upto` are those of some bindings, and a grant isn't below it, no grant of
-- the same binding is
pub begins_onward : (p : PolicyView) → IsPolicy p → (number place start upto b : ℕ) → BeginsBinding p number place start → AreBelow p upto b → upto ≤ number → upto ≤ start
begins_onward p policy number place start upto b begins below le = elim (cases_lt start upto) [
  | inl lt ↦
      let low = begins_first p number place start begins in
      let within = slice_get_within p.grants number begins.of.0 begins.of.1 in
      let of = of_some_binding p policy start (omega arith) in
      let early = (below start of.0 of.1).0 lt in
      let late : number < upto = (below number place begins.of).1 (elim (cases_lt place b) [
        | inl less ↦ less
        | inr ge ↦ absurd (let no = (begins_below p number place start begins low start of.0 of.1).1 (omega arith) in omega arith)
      ]) in
      absurd (omega arith)
  | inr ge ↦ ge
]

module _ (s t : EveryRows) (policy : IsPolicy s.rows.index.now) (same : GoesOn s.rows t.rows) (below : AreBelow s.rows.index.now s.upto s.binding) (within : (s.binding ≡ 0) ⊎ (s.rows.from < length s.rows.universe.now.targets)) where
  -- no row is left
  module _ (e : EndsAll s.rows.index.now s.rows.universe.now s.rows.reaches.now s.rows.at s.rows.from s.upto t.rows.at t.rows.seats.now) where
    before_none : AreEveryLeft s []
    unfolding AreEveryLeft
    before_none = none_left s.rows.index.now policy s.rows.universe.now s.rows.reaches.now s.rows.at s.rows.from s.upto s.binding t.rows.at t.rows.seats.now below within e

    after_none : AreEveryLeft t []
    unfolding AreEveryLeft
    after_none = past_left t.rows.index.now t.rows.universe.now t.rows.at t.rows.from t.binding (rw same.universe e.ended)

    pub every_ended : PassesSome (AreEveryLeft s) (AreEveryLeft t)
    every_ended = record {
      passed = [];
      repeats = no_repeats;
      left = λ all. (
        λ a. ([], every_none s all a before_none, after_none),
        λ w. subst (AreEveryLeft s) (sym (w.1 ∙ every_none t w.0 w.2 after_none)) before_none,
      );
    }

    pub every_ended_first : StaysFirst (AreEveryLeft t)
    every_ended_first row others left = let none = every_none t (row ∷ others) left after_none in cc

    pub every_ended_few : pairs_left t ≤ pairs_left s
    unfolding pairs_left
    every_ended_few =
        let e : cells_left t.rows.universe.now t.rows.at t.rows.from ≡ [] = rw same.universe (ap (cells_of_lines s.rows.universe.now t.rows.from) e.ended) in
        rw e (omega arith)

  module _ (no : ℕ) (f : FindsCell s.rows.index.now s.rows.universe.now s.rows.reaches.now s.rows.at s.rows.from s.upto t.rows.at t.rows.seats.now t.rows.from no) (begins : BeginsBinding s.rows.index.now no t.binding t.upto) where
    abbrev p : PolicyView
    p = s.rows.index.now

    abbrev u : UniverseView
    u = s.rows.universe.now

    abbrev bs : List Binding
    bs = p.held.bindings

    abbrev c : Cell
    c = cell_of f.line f.found.next.hit.target

    abbrev row : RowView
    row = row_on p u f.line t.rows.from no f.found.next.hit

    -- the pairs after the row
    abbrev others : List RowView
    others = pairs_from bs (t.binding + 1) (cells_left u t.rows.at t.rows.from)

    splits : Splits p (pairs_from bs s.binding (cells_left u s.rows.at s.rows.from)) others row
    splits = passes_split p policy u t.rows.from no (t.binding + 1) begins.end (begins_passes p no t.binding t.upto begins) s.rows.reaches.now s.rows.at s.rows.from s.upto s.binding t.rows.at t.rows.seats.now below within f

    granted : IsGranted p.held row
    granted = hit_granted p policy u f.line t.rows.from no f.found.next.hit

    cells_here : cells_left u t.rows.at t.rows.from ≡ c ∷ cells_left u t.rows.at (t.rows.from + 1)
    cells_here = cells_head p policy u t.rows.at t.rows.from f.line f.others f.found.next.hit.target f.line_at f.found.next.hit.target_at

    binding_here : slice_get bs t.binding ≡ Some f.found.next.hit.grant.binding
    binding_here = begins.of.2 ∙ ap (λ (g : GrantView). Some g.binding) (same_Some begins.of.0 f.found.next.hit.grant (sym begins.of.1 ∙ f.found.next.hit.grant_at))

    pub every_binding : t.binding < length t.rows.index.now.held.bindings
    every_binding = rw same.index (slice_get_within bs t.binding f.found.next.hit.grant.binding binding_here)

    -- the row is the first pair that is left
    pairs_here_are : pairs_from bs t.binding (cells_left u t.rows.at t.rows.from) ≡ row ∷ others
    pairs_here_are = rw (cells_here, drop_at bs t.binding f.found.next.hit.grant.binding binding_here) refl

    row_first : (all : List RowView) → AreEveryLeft t all ↔ ((rest : List RowView) × (all ≡ row ∷ rest) × AreThose (IsGranted p.held) others rest)
    unfolding AreEveryLeft
    row_first all = rw (same.index, same.universe, pairs_here_are) (those_first (IsGranted p.held) row others all granted)

    same_left : (all : List RowView) → AreEveryLeft s all ↔ AreEveryLeft t all
    unfolding AreEveryLeft
    same_left all =
        let old = split_those p (pairs_from bs s.binding (cells_left u s.rows.at s.rows.from)) others row splits granted all in
        let new = row_first all in
        (λ a. new.1 (old.0 a), λ a. old.1 (new.0 a))

    pub every_come : PassesSome (AreEveryLeft s) (AreEveryLeft t)
    every_come = record {
      passed = [];
      repeats = no_repeats;
      left = λ all. (λ a. (all, refl, (same_left all).0 a), λ w. (same_left all).1 (subst (AreEveryLeft t) (sym w.1) w.2));
    }

    pub every_come_few : pairs_left t ≤ pairs_left s
    unfolding pairs_left
    every_come_few = rw (same.index, same.universe, pairs_here_are) (split_fewer p (pairs_from bs s.binding (cells_left u s.rows.at s.rows.from)) others row splits)

    pub every_within : t.rows.from < length t.rows.universe.now.targets
    every_within = rw same.universe (slice_get_within u.targets t.rows.from f.found.next.hit.target f.found.next.hit.target_at)

    pub every_grant : no < length t.rows.index.now.grants
    every_grant = rw same.index (slice_get_within p.grants no f.found.next.hit.grant f.found.next.hit.grant_at)

    -- the seats are ready for the row's binding
    onward : IsNoEarlier t.rows.from t.upto f.begin f.low
    onward = elim f.found.next.onward [
      | inl lt ↦ inl lt
      | inr there ↦ inr (
        there.0,
        elim f.leads [
          | inl kept ↦ rw (sym kept.2) at (begins_onward p policy no t.binding t.upto s.upto s.binding begins below (rw kept.2 at there.1))
          | inr later ↦ omega (arith, later.1)
        ],
      )
    ]

    pub every_ready : IsReady p u s.rows.reaches.now t.rows.at t.rows.from t.upto t.rows.seats.now
    every_ready = ready_line p u s.rows.reaches.now t.rows.at t.rows.from t.upto t.rows.seats.now f.settled f.line f.others f.line_at (f.found.here t.upto (begins_first p no t.binding t.upto begins) onward)

    module _ (v : EveryRows) (on : GoesOn t.rows v.rows) (at : v.rows.at ≡ t.rows.at) (from : v.rows.from ≡ t.rows.from) (next : v.binding ≡ t.binding + 1) where
      pub every_over : is_repeat row ≡ true → PassesSome (AreEveryLeft t) (AreEveryLeft v)
      unfolding AreEveryLeft
      every_over e = rw (on.index, on.universe, at, from, next, same.index, same.universe) (record { passed = row ∷ []; repeats = one_repeat row e; left = λ all. rw (pairs_here_are) (those_first (IsGranted p.held) row others all granted) })

      pub every_over_fewer : pairs_left v < pairs_left t
      unfolding pairs_left
      every_over_fewer = rw (on.index, on.universe, at, from, next, same.index, same.universe, pairs_here_are) (omega arith)

    -- whether the row is a repeat
    module _ (is : IsUniverse u) (b : Bool) (told : (l : LineView) (ls : List LineView) (g : GrantView) → lines_from t.rows.universe.now t.rows.at ≡ l ∷ ls → slice_get t.rows.index.now.grants no ≡ Some g → b ≡ repeats_at l.namespace g.binding.namespace) where
      pub every_repeat : is_repeat row ≡ b
      every_repeat =
          let hit = f.found.next.hit in
          let same_line : lines_from t.rows.universe.now t.rows.at ≡ f.line ∷ f.others = rw same.universe f.line_at in
          let same_grant : slice_get t.rows.index.now.grants no ≡ Some hit.grant = rw same.index hit.grant_at in
          ap (λ n. repeats_at n hit.grant.binding.namespace) (fits_namespace u is f.line t.rows.from hit.target hit.target_at hit.fits) ∙ sym (told f.line f.others hit.grant same_line same_grant)

      pub every_first : b ≡ false → StaysFirst (AreEveryLeft t)
      every_first none other rest left =
          let w = (row_first (other ∷ rest)).0 left in
          subst (λ (r : RowView). is_repeat r ≡ false) (sym (same_head other row rest w.0 w.1)) (every_repeat ∙ none)
