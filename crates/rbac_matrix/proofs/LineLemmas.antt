-- how the seats of a line's cursors give its rows
use Rattle.std.proofs.Common.{◌≡◌, ℕ, zero, suc, ◌+◌, ◌<◌, ◌≤◌, ◌⊎◌, List, [], ◌∷◌, length, get_or, map, ap, ◌∙◌, sym, arith, subst, inl, inr, Contains, Bool, true, false, IsTrue}
use Rattle.std.specs.Prelude.{Option, Some, None, slice_get}
use Rattle.std.specs.List.Sorted.{IsStrictlyIncreasing}
use Rattle.std.proofs.lemmas.Bool.{cases_lt}
use Rattle.std.proofs.lemmas.List.{get_or_default, get_or_past, length-map}
use Rattle.std.proofs.lemmas.List.Elements.{Contains-get_or}
use Rattle.std.proofs.lemmas.Option.{same_Some, slice_get-get_or, get_or_from_slice_get, slice_get_within}
use Rattle.rbac_terms.specs.Text.{Text}
use Rattle.rbac_terms.specs.Targets.{What, Resource, Url}
use Rattle.rbac_terms.specs.Matching.{TargetOk}
use Rattle.rbac_terms.proofs.Reading.{read_some}
use Rattle.rbac_model.specs.Policies.{PolicyView, IsPolicy, GrantView, Live}
use Rattle.rbac_model.specs.Universes.{UniverseView, IsUniverse, Listed, Fits, LiveForSome}
use Rattle.rbac_matrix.specs.Cells.{AreRowsOf}
use Rattle.rbac_matrix.specs.Lines.{LineView, line_cells_from}
use Rattle.rbac_matrix.specs.Cursors.{IsCursorAt}
use Rattle.rbac_reaches.specs.Reaches.{AreReaches, IsReachAt}
use Rattle.rbac_matrix.specs.Passing.{EndsLine, FindsRow, IsNoEarlier, IsHit, cell_of}
use Rattle.rbac_matrix.specs.declared.seat.Seat.{Seat}
use Rattle.rbac_matrix.specs.Seats.{AreReal, AreSeated, AreSeatedAbout, ComesFirst, IsLeastSeat, IsSeated, past_all, reach_at, seat_at, start_at}
use Rattle.rbac_matrix.proofs.SeekLemmas.{ascends}
use Rattle.rbac_matrix.proofs.SeatLemmas.{stands_within}
use Rattle.rbac_matrix.proofs.LoopLemmas.{cursor_within}
use Rattle.rbac_matrix.proofs.HitLemmas.{from_next, from_then, from_zero, next_from, rowless}

-- ---- where a binding is live, for requests that fit

live_for_some : (own : Option Text) (namespace : Text) (t : What) → Live own namespace t → LiveForSome own namespace
live_for_some None namespace t live = live
live_for_some (Some own) namespace (Resource group text name) live = live
live_for_some (Some own) namespace (Url path) live = absurd live

live_where_fits : (u : UniverseView) → IsUniverse u → (l : LineView) (own : Option Text) (t : What) (b : Bool) → Contains u.targets (t, b) → Fits (cell_of l (t, b)) → LiveForSome own l.namespace → Live own l.namespace t
live_where_fits u is l None t b w fits live = live
live_where_fits u is l (Some own) (Resource group text name) b w fits live = live
live_where_fits u is l (Some own) (Url path) true w fits live = absurd (is.urls path w)
live_where_fits u is l (Some own) (Url path) false w (inl e) live = cc
live_where_fits u is l (Some own) (Url path) false w (inr e) live = absurd (live.0 e)

-- ---- a seat and its reach

seat_place_in : (r : List ℕ) (from : ℕ) (s : Seat) → IsSeated r from s → s.place < past_all → Contains r s.place
seat_place_in r from s h real =
    let lt : s.position < length r = stands_within r from s h real in
    (s.position, lt, get_or_default r s.position s.place past_all lt ∙ sym h.place)

-- the reach has no place from `from` up to the seat's place
none_between : (r : List ℕ) (from u : ℕ) (s : Seat) → IsStrictlyIncreasing r → IsSeated r from s → from ≤ u → u < s.place → Contains r u → ⊥
none_between r from u s up h low high (k, lt, e) =
    let at : get_or r k 0 ≡ u = get_or_default r k 0 u lt ∙ e in
    elim (cases_lt k s.position) [
      | inl before ↦ omega (arith, h.passed k before)
      | inr after ↦
          let here : get_or r s.position past_all ≡ get_or r s.position 0 = get_or_default r s.position past_all 0 (omega arith) in
          elim (cases_lt s.position k) [
            | inl later ↦ omega (arith, ascends r up s.position k later lt, h.place)
            | inr same ↦ let e2 : s.position ≡ k = omega arith in let at2 : get_or r s.position 0 ≡ u = rw e2 at in omega (arith, h.place)
          ]
    ]

pub mapped_at : (ts : List Listed) (place : ℕ) (t : Listed) → slice_get ts place ≡ Some t → slice_get (map (λ (x : Listed). x.0) ts) place ≡ Some t.0
mapped_at [] place t e = cc
mapped_at (x ∷ ts) zero t e = let same : x ≡ t = same_Some x t e in ap (λ (y : Listed). Some y.0) same
mapped_at (x ∷ ts) (suc place) t e = mapped_at ts place t e

pub flag_at : (ts : List Listed) (place : ℕ) (t : Listed) (b : Bool) → slice_get ts place ≡ Some t → slice_get (map (λ (x : Listed). x.1) ts) place ≡ Some b → t.1 ≡ b
flag_at [] place t b e f = cc
flag_at (x ∷ ts) zero t b e f = let same : x ≡ t = same_Some x t e in let flag : x.1 ≡ b = same_Some x.1 b f in ap (λ (y : Listed). y.1) (sym same) ∙ flag
flag_at (x ∷ ts) (suc place) t b e f = flag_at ts place t b e f

length_map_targets : (ts : List Listed) → length (map (λ (x : Listed). x.0) ts) ≡ length ts
length_map_targets ts = length-map ts (λ (x : Listed). x.0)

-- the grant of a hit is a cursor
pub hit_cursor : (p : PolicyView) (u : UniverseView) (l : LineView) (place k : ℕ) → IsHit p u l place k → IsCursorAt p l k
hit_cursor p u l place k h = record { grant = h.grant; at = h.grant_at; is = (h.allows.2.0, h.allows.1, live_for_some h.grant.binding.namespace l.namespace h.target.0 h.allows.0) }

-- a line without cursors has no row
pub no_cursors : (p : PolicyView) (u : UniverseView) (l : LineView) → IsPolicy p → ((k : ℕ) → IsCursorAt p l k → ⊥) → AreRowsOf p.held (line_cells_from u 0 l) []
no_cursors p u l policy none = rowless p u l policy (λ q k h from. none k (hit_cursor p u l q k h))

module _ (p : PolicyView) (u : UniverseView) (rs : List (List ℕ)) (l : LineView) (policy : IsPolicy p) (is : IsUniverse u) (reaches : AreReaches p u rs) where
  reach_of : (k : ℕ) → IsCursorAt p l k → IsReachAt p u k (reach_at rs k)
  reach_of k c =
      let lt : k < length rs = omega (arith, cursor_within p l k c, reaches.len) in
      reaches.each k (reach_at rs k) (slice_get-get_or rs k [] lt)

  pub reach_up : (k : ℕ) → IsCursorAt p l k → IsStrictlyIncreasing (reach_at rs k)
  reach_up k c = (reach_of k c).2.ascending

  -- each entry is the place of a target
  pub entry_within : (k i : ℕ) → i < length (reach_at rs k) → get_or (reach_at rs k) i 0 < length u.targets
  entry_within k i lt = elim (cases_lt k (length rs)) [
    | inl within ↦
        let of = reaches.each k (reach_at rs k) (slice_get-get_or rs k [] within) in
        let w : Contains (reach_at rs k) (get_or (reach_at rs k) i 0) = Contains-get_or (reach_at rs k) i 0 lt in
        let m = (of.2.exact (get_or (reach_at rs k) i 0)).0 w in
        let high = slice_get_within (map (λ (x : Listed). x.0) u.targets) (get_or (reach_at rs k) i 0) m.0 m.1 in
        omega (arith, length_map_targets u.targets)
    | inr past ↦
        let e : reach_at rs k ≡ [] = get_or_past rs k [] past in
        absurd (omega (arith, ap length e))
  ]

  listed_at : (place : ℕ) (t : Listed) → slice_get u.targets place ≡ Some t → slice_get (map (λ (x : Listed). x.0) u.targets) place ≡ Some t.0
  listed_at place t at = mapped_at u.targets place t at

  -- a cursor's reach has exactly the places of targets that its rule matches
  pub matches_in : (k place : ℕ) (t : Listed) (c : IsCursorAt p l k) → slice_get u.targets place ≡ Some t → TargetOk c.grant.rule.rule t.0 → Contains (reach_at rs k) place
  matches_in k place t c at ok =
      let of = reach_of k c in
      let same : c.grant ≡ of.0 = same_Some c.grant of.0 (sym c.at ∙ of.1) in
      (of.2.exact place).1 (t.0, listed_at place t at, subst (λ (g : GrantView). TargetOk g.rule.rule t.0) same ok)

  pub in_matches : (k place : ℕ) (t : Listed) (c : IsCursorAt p l k) → slice_get u.targets place ≡ Some t → Contains (reach_at rs k) place → TargetOk c.grant.rule.rule t.0
  in_matches k place t c at w =
      let of = reach_of k c in
      let same : of.0 ≡ c.grant = same_Some of.0 c.grant (sym of.1 ∙ c.at) in
      let m = (of.2.exact place).0 w in
      let target : m.0 ≡ t.0 = same_Some m.0 t.0 (sym m.1 ∙ listed_at place t at) in
      subst (λ (g : GrantView). TargetOk g.rule.rule t.0) same (subst (λ (x : What). TargetOk of.0.rule.rule x) target m.2)

  pub place_within : (k place : ℕ) → IsCursorAt p l k → Contains (reach_at rs k) place → place < length u.targets
  place_within k place c w =
      let m = ((reach_of k c).2.exact place).0 w in
      let lt = slice_get_within (map (λ (x : Listed). x.0) u.targets) place m.0 m.1 in
      omega (arith, length_map_targets u.targets)

  -- a hit's place is in the reach of its grant; and each place there is a hit, if its request fits
  pub hit_in : (place k : ℕ) → IsHit p u l place k → Contains (reach_at rs k) place
  unfolding hit_cursor
  hit_in place k h = matches_in k place h.target (hit_cursor p u l place k h) h.target_at h.allows.2.1

  pub hit_of : (place k : ℕ) (t : Listed) (c : IsCursorAt p l k) → slice_get u.targets place ≡ Some t → Fits (cell_of l t) → Contains (reach_at rs k) place → IsHit p u l place k
  hit_of place k t c at fits w =
      let in_universe : Contains u.targets t = (place, slice_get_within u.targets place t at, get_or_from_slice_get u.targets place t t at) in
      record {
        target = t;
        grant = c.grant;
        target_at = at;
        grant_at = c.at;
        fits = fits;
        allows = (live_where_fits u is l c.grant.binding.namespace t.0 t.1 in_universe fits c.is.2, c.is.1, (c.is.0, in_matches k place t c at w));
      }

  module _ (from upto : ℕ) (seats : List Seat) (seated : AreSeated p l rs from upto seats) where
    pub seat_of : (k : ℕ) → IsCursorAt p l k → IsSeated (reach_at rs k) (start_at from upto k) (seat_at seats k)
    seat_of k c = elim (seated.each k (omega (arith, cursor_within p l k c, seated.count))) [
      | inl s ↦ s.1
      | inr e ↦ absurd (e.0 c)
    ]

    -- a hit from a place and a number on is among the remaining entries of its grant
    started : (q k : ℕ) → IsNoEarlier q k from upto → start_at from upto k ≤ q
    started q k (inl lt) = omega arith
    started q k (inr same) = omega (arith, same.0, same.1)

    -- the seat of a cursor is no further than the cursor's next hit
    pub seat_first : (q k : ℕ) → IsHit p u l q k → IsNoEarlier q k from upto → (seat_at seats k).place ≤ q
    seat_first q k h f =
        let c = hit_cursor p u l q k h in
        elim (cases_lt q (seat_at seats k).place) [
          | inl lt ↦ absurd (none_between (reach_at rs k) (start_at from upto k) q (seat_at seats k) (reach_up k c) (seat_of k c) (started q k f) lt (hit_in q k h))
          | inr ge ↦ ge
        ]

    pub ends_line : length u.targets ≤ 1000000 → ((k : ℕ) → IsCursorAt p l k → past_all ≤ (seat_at seats k).place) → EndsLine p u rs l from upto seats
    ends_line few past = record {
      none = λ q k h f.
          let low = seat_first q k h f in
          let high = past k (hit_cursor p u l q k h) in
          let within = slice_get_within u.targets q h.target h.target_at in
          omega arith;
      reached = from;
      low = upto;
      seated = seated;
      past = record {
        each = λ k lt. elim (seated.each k lt) [
          | inl s ↦ past k s.0
          | inr e ↦ rw e.1 (omega arith)
        ];
      };
    }

    module _ (place number : ℕ) (least : IsLeastSeat p l seats place number) where
      in_reach : Contains (reach_at rs number) place
      in_reach = subst (λ (x : ℕ). Contains (reach_at rs number) x) least.at (seat_place_in (reach_at rs number) (start_at from upto number) (seat_at seats number) (seat_of number least.cursor) (rw least.at least.real))

      least_start : start_at from upto number ≤ place
      least_start = let low = (seat_of number least.cursor).ahead in omega (arith, least.at)

      pub least_onward : from ≤ place
      least_onward = let low = least_start in omega arith

      pub least_within : place < length u.targets
      least_within = place_within number place least.cursor in_reach

      pub least_from : IsNoEarlier place number from upto
      least_from = let low = least_start in elim (cases_lt from place) [
        | inl lt ↦ inl lt
        | inr ge ↦ inr (omega arith, omega arith)
      ]

      -- no hit comes before the least seat
      pub least_first : (q k : ℕ) → IsHit p u l q k → IsNoEarlier q k from upto → IsNoEarlier q k place number
      least_first q k h f =
          let order = least.least k (hit_cursor p u l q k h) in
          let at = seat_first q k h f in
          elim (cases_lt place q) [
            | inl lt ↦ inl lt
            | inr ge ↦ inr (omega (arith, order.least), order.first (omega (arith, order.least)) least.real)
          ]

      about_each : (end k : ℕ) → number < end → ComesFirst place number (seat_at seats k).place k → IsSeated (reach_at rs k) (start_at from upto k) (seat_at seats k)
          → IsSeated (reach_at rs k) place (seat_at seats k) ⊎ ((k < end) × IsSeated (reach_at rs k) (place + 1) (seat_at seats k))
      about_each end k lt order s = let low = least_start in elim (cases_lt place (start_at from upto k)) [
        | inl past ↦
            let e : start_at from upto k ≡ place + 1 = omega arith in
            inr (omega arith, rw e at s)
        | inr near ↦ inl (record {
          within = s.within;
          place = s.place;
          passed = λ j before. omega (arith, s.passed j before);
          ahead = order.least;
        })
      ]

      -- the seats are those about the place: at it, or past it
      pub least_about : (end : ℕ) → number < end → AreSeatedAbout p l rs place end seats
      least_about end lt = record {
        count = seated.count;
        each = λ k within. elim (seated.each k within) [
          | inl s ↦ inl (s.0, about_each end k lt (least.least k s.0) s.1)
          | inr e ↦ inr e
        ];
      }

      -- the grants below `low` are past the place, since they have passed it or have no entry there
      here_each : (low k : ℕ) → low ≤ number → IsNoEarlier place low from upto → ComesFirst place number (seat_at seats k).place k → IsSeated (reach_at rs k) (start_at from upto k) (seat_at seats k)
          → IsSeated (reach_at rs k) (start_at place low k) (seat_at seats k)
      here_each low k le onward order s = record {
        within = s.within;
        place = s.place;
        passed = λ j before. let h = s.passed j before in elim onward [ inl lt ↦ omega arith | inr same ↦ omega (arith, same.0, same.1) ];
        ahead = elim (cases_lt place (seat_at seats k).place) [
          | inl past ↦ omega arith
          | inr near ↦ let late = order.first near least.real in omega (arith, order.least)
        ];
      }

      pub seats_here : (low : ℕ) → low ≤ number → IsNoEarlier place low from upto → AreSeated p l rs place low seats
      seats_here low le onward = record {
        count = seated.count;
        each = λ k within. elim (seated.each k within) [
          | inl s ↦ inl (s.0, here_each low k le onward (least.least k s.0) s.1)
          | inr e ↦ inr e
        ];
      }

      -- if the least seat isn't before the first bound, it isn't before the current bound either
      from_here : (low first last : ℕ) → ((from ≡ first) × (upto ≡ last)) ⊎ (upto ≡ 0) → IsNoEarlier place low first last → IsNoEarlier place low from upto
      from_here low first last (inl same) onward = rw (same.0, same.1) onward
      from_here low first last (inr none) onward = from_zero place low from upto none least_onward

      module _ (first last : ℕ) (onward : IsNoEarlier from upto first last) (before : (q k : ℕ) → IsHit p u l q k → IsNoEarlier q k first last → IsNoEarlier q k from upto) (b : Bool) (flag : slice_get (map (λ (x : Listed). x.1) u.targets) place ≡ Some b) where
        pub finds_row : ((from ≡ first) × (upto ≡ last)) ⊎ (upto ≡ 0) → (IsTrue b ⊎ (l.namespace ≡ [])) → FindsRow p u rs l first last seats place number
        finds_row moved fits =
            let t = read_some u.targets place least_within in
            let fit : Fits (cell_of l t.0) = subst (λ (x : Bool). (IsTrue x) ⊎ (l.namespace ≡ [])) (sym (flag_at u.targets place t.0 b t.1 flag)) fits in
            record {
              next = record {
                hit = hit_of place number t.0 least.cursor t.1 fit in_reach;
                onward = from_then place number from upto first last least_from onward;
                first = λ q k h f. least_first q k h (before q k h f);
              };
              cursor = least.cursor;
              stands = least.at;
              about = least_about;
              here = λ low le later. seats_here low le (from_here low first last moved later);
            }

        -- if the request at the least seat doesn't fit, each hit is at a later place
        pub passes_unfit : (IsTrue b ⊎ (l.namespace ≡ []) → ⊥) → (q k : ℕ) → IsHit p u l q k → IsNoEarlier q k first last → IsNoEarlier q k (place + 1) 0
        passes_unfit unfit q k h f = elim (least_first q k h (before q k h f)) [
          | inl lt ↦ from_next q k place lt
          | inr same ↦ absurd (unfit (subst (λ (x : Bool). (IsTrue x) ⊎ (l.namespace ≡ []))
              (flag_at u.targets place h.target b (subst (λ (x : ℕ). slice_get u.targets x ≡ Some h.target) (sym same.0) h.target_at) flag) h.fits))
        ]

        pub unfit_onward : IsNoEarlier (place + 1) 0 first last
        unfit_onward = from_then (place + 1) 0 place number first last (next_from place number) (from_then place number from upto first last least_from onward)

-- if the grants below `end` are past a place, and these are all grants, the seats are those for the
-- next place
pub all_past : (p : PolicyView) (l : LineView) (rs : List (List ℕ)) (place end : ℕ) (seats : List Seat) → end ≡ length p.grants → AreSeated p l rs place end seats → AreSeated p l rs (place + 1) 0 seats
all_past p l rs place end seats all h = record {
  count = h.count;
  each = λ k lt. elim (h.each k lt) [
    | inl s ↦
        let e : start_at place end k ≡ start_at (place + 1) 0 k = omega (arith, h.count) in
        inl (s.0, subst (λ (x : ℕ). IsSeated (reach_at rs k) x (seat_at seats k)) e s.1)
    | inr none ↦ inr none
  ];
}

pub ends_from : (p : PolicyView) (u : UniverseView) (rs : List (List ℕ)) (l : LineView) (first last from upto : ℕ) (seats : List Seat) → ((q k : ℕ) → IsHit p u l q k → IsNoEarlier q k first last → IsNoEarlier q k from upto) → EndsLine p u rs l from upto seats → EndsLine p u rs l first last seats
ends_from p u rs l first last from upto seats before h = record {
  none = λ q k hit f. h.none q k hit (before q k hit f);
  reached = h.reached;
  low = h.low;
  seated = h.seated;
  past = h.past;
}

-- the entries of reaches are less than `past_all`, because there are at most a million targets
pub are_real : (p : PolicyView) (u : UniverseView) (rs : List (List ℕ)) (l : LineView) → IsPolicy p → IsUniverse u → AreReaches p u rs → length u.targets ≤ 1000000 → AreReal rs
are_real p u rs l policy is reaches few k i lt = omega (arith, entry_within p u rs l policy is reaches k i lt)
