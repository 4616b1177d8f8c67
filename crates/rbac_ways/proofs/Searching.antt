-- the search, level by level
use Rattle.std.proofs.Common.{◌≡◌, ◌+◌, ◌<◌, [], ℕ, zero, suc, List, Option, Some, None, IsSome, Contains, MatchOption, length, replicate, inl, inr, refl, sym, ap, ◌∙◌, subst, arith}
use Rattle.std.proofs.Math.ListN.{get_or-eq_default}
use Rattle.std.proofs.lemmas.Bool.{cases_eq, cases_lt}
use Rattle.std.proofs.lemmas.List.{get_or-replicate, length-replicate}
use Rattle.std.proofs.lemmas.Option.{same_Some}
use Rattle.std.specs.List.Sorted.{IsStrictlyIncreasing}
use Rattle.rbac_ways.proofs.Meets.{either, is_some_of, none_some, some_of}
use Rattle.rbac_ways.proofs.Edges.{in_none, stop_within}
use Rattle.rbac_ways.specs.Meeting.{IsAfterLeast, IsMetTo, IsNextTo, IsFirstStop, MeetsNodes, stop_behind, stop_at, unmet}
use Rattle.rbac_ways.specs.Ways.{AreStops, GraphView, IsEdge, IsLeastBefore, IsNearest, IsStop, IsReachedIn}
use Rattle.rbac_ways.specs.declared.graph.Stop.{Stop}

-- nothing was met yet
pub all_unmet : (n : ℕ) → unmet (replicate n None) ≡ n
all_unmet zero = refl
all_unmet (suc n) = let rest = all_unmet n in omega (arith, rest)

none_met : (n j : ℕ) → stop_at (replicate n None) j ≡ None
none_met n j = elim (cases_lt j n) [
  | inl l ↦ get_or-replicate n j None None l
  | inr le ↦ get_or-eq_default (replicate n None) None (let nothing : Option Stop = None in let len = length-replicate n nothing in omega (arith, le, len))
]

-- the starts are the first level
module _ (g : GraphView) (starts : List ℕ) (stops : List (Option Stop)) (level : List ℕ)
    (meets : MeetsNodes (Contains starts) (IsFirstStop starts) (replicate (length g.takes) None) stops [] level) where
  not_met : (j : ℕ) → stop_at (replicate (length g.takes) None) j ≡ None
  not_met j = none_met (length g.takes) j

  len : length stops ≡ length g.takes
  len = meets.len ∙ length-replicate (length g.takes) None

  start_stop : (j : ℕ) (s : Stop) → stop_at stops j ≡ Some s → IsFirstStop starts j s
  start_stop j s e = meets.may j s (not_met j) e

  pub met_first : IsStrictlyIncreasing level → IsMetTo g starts 0 stops level
  met_first up = record {
    len = len;
    sound = λ j s e. (let is = start_stop j s e in
        let low : j < length g.takes = let within = stop_within stops j s e in omega (arith, within, len) in
        subst (λ (t : Stop). IsStop g starts j t × (t.edges < 1)) (sym is.1)
        (record { nearest = record { leads = (is.0, low); fewest = λ k less way. absurd (omega (arith, less)) }; before = refl }, omega arith));
    all = λ n j less way. led n j less way;
    last = λ j. (
      λ h. (elim ((meets.joins j).0 h) [
        | inl w ↦ absurd (in_none [] j refl w)
        | inr w ↦ (let s = some_of (stop_at stops j) w.1 in (s.0, s.1, ap (λ (t : Stop). t.edges) (start_stop j s.0 s.1).1))
      ]),
      λ h. (meets.joins j).1 (inr (not_met j, is_some_of (stop_at stops j) h.0 h.1)),
    );
    ordered = up;
  }
    where
      led : (n j : ℕ) → n < 1 → IsReachedIn g starts n j → (s : Stop) × (stop_at stops j ≡ Some s) × (s.edges < n + 1)
      led zero j less way =
          let s = some_of (stop_at stops j) (meets.due j way.0 (let l = way.1 in let nothing : Option Stop = None in let same = length-replicate (length g.takes) nothing in omega (arith, l, same))) in
          (s.0, s.1, let e = ap (λ (t : Stop). t.edges) (start_stop j s.0 s.1).1 in omega (arith, e))
      led (suc n) j less way = absurd (omega (arith, less))

-- the next level
module _ (g : GraphView) (starts : List ℕ) (edges : ℕ) (stops new : List (Option Stop)) (level next : List ℕ)
    (met : IsMetTo g starts edges stops level) (meets : MeetsNodes (IsNextTo g level) (IsAfterLeast g level (edges + 1)) stops new [] next) where
  -- a node to which that many edges lead, and no fewer, is in the level
  in_level : (i : ℕ) → IsNearest g starts edges i → Contains level i
  in_level i near =
      let w = met.all edges i (omega arith) near.leads in
      let is = met.sound i w.0 w.1 in
      (met.last i).1 (
        w.0,
        w.1,
        elim (cases_lt w.0.edges edges) [
          | inl less ↦ absurd (near.fewest w.0.edges less is.0.nearest.leads)
          | inr le ↦ (let low = w.2 in omega (arith, le, low))
        ],
      )

  near_level : (i : ℕ) → Contains level i → IsNearest g starts edges i
  near_level i has = let w = (met.last i).0 has in subst (λ (n : ℕ). IsNearest g starts n i) w.2 (met.sound i w.0 w.1).0.nearest

  unled : (j : ℕ) → stop_at stops j ≡ None → (k : ℕ) → k < edges + 1 → IsReachedIn g starts k j → ⊥
  unled j none k less way = let w = met.all k j less way in none_some (stop_at stops j) none (is_some_of (stop_at stops j) w.0 w.1)

  new_stop : (j : ℕ) (s : Stop) → stop_at stops j ≡ None → stop_at new j ≡ Some s → IsStop g starts j (stop_behind (edges + 1) s.before)
  new_stop j s none e =
      let after = meets.may j s none e in
      let near = near_level s.before after.before in
      let one : suc edges ≡ edges + 1 = omega arith in
      record {
        nearest = record {
          leads = subst (λ (n : ℕ). IsReachedIn g starts n j) one (s.before, near.leads, after.next.0);
          fewest = λ k less way. unled j none k less way;
        };
        before = subst (λ (n : ℕ). IsLeastBefore g starts n j s.before) one (near, after.next.0, λ i less is edge. after.least i less (in_level i is) edge);
      }

  sound_next : (j : ℕ) (s : Stop) → stop_at new j ≡ Some s → IsStop g starts j s × (s.edges < edges + 1 + 1)
  sound_next j s e = elim (either (stop_at stops j)) [
    | inl none ↦ (let after = meets.may j s none e in
        subst (λ (t : Stop). IsStop g starts j t × (t.edges < edges + 1 + 1)) (sym after.next.1) (new_stop j s none e, omega arith))
    | inr w ↦ (let same : w.0 ≡ s = same_Some w.0 s (sym (meets.kept j w.0 w.1) ∙ e) in
        let is = met.sound j w.0 w.1 in
        subst (λ (t : Stop). IsStop g starts j t × (t.edges < edges + 1 + 1)) same (is.0, let low = is.1 in omega (arith, low)))
  ]

  -- a node that an edge leads to from a node that was met
  led_next : (j i : ℕ) (s : Stop) → stop_at stops i ≡ Some s → IsEdge g i j → IsSome (stop_at new j)
  led_next j i s e edge = elim (cases_eq s.edges edges) [
    | inl same ↦ meets.due j (i, (met.last i).1 (s, e, same), edge) (let node = edge.node in let len = met.len in omega (arith, node, len))
    | inr ne ↦
        let is = met.sound i s e in
        let w = met.all (s.edges + 1) j (let low = is.1 in omega (arith, low, ne)) (longer (s.edges) is.0.nearest.leads) in
        is_some_of (stop_at new j) w.0 (meets.kept j w.0 w.1)
  ]
    where
      longer : (n : ℕ) → IsReachedIn g starts n i → IsReachedIn g starts (n + 1) j
      longer n way = subst (λ (k : ℕ). IsReachedIn g starts k j) (let one : suc n ≡ n + 1 = omega arith in one) (i, way, edge)

  pub met_next : IsStrictlyIncreasing next → IsMetTo g starts (edges + 1) new next
  met_next up = record {
    len = meets.len ∙ met.len;
    sound = sound_next;
    all = all;
    last = λ j. (
      λ h. elim ((meets.joins j).0 h) [
        | inl w ↦ absurd (in_none [] j refl w)
        | inr w ↦ (let s = some_of (stop_at new j) w.1 in (s.0, s.1, ap (λ (t : Stop). t.edges) (meets.may j s.0 w.0 s.1).next.1))
      ],
      λ h. (meets.joins j).1 (inr (was_none j h.0 h.1 h.2, is_some_of (stop_at new j) h.0 h.1)),
    );
    ordered = up;
  }
    where
      was_none : (j : ℕ) (s : Stop) → stop_at new j ≡ Some s → s.edges ≡ edges + 1 → stop_at stops j ≡ None
      was_none j s e same = elim (either (stop_at stops j)) [
        | inl none ↦ none
        | inr w ↦ absurd (let is = met.sound j w.0 w.1 in
            let low = is.1 in
            let one : w.0.edges ≡ s.edges = ap (λ (t : Stop). t.edges) (same_Some w.0 s (sym (meets.kept j w.0 w.1) ∙ e)) in omega (arith, low, one, same))
      ]

      soon : (n j : ℕ) → n < edges + 1 → IsReachedIn g starts n j → (s : Stop) × (stop_at new j ≡ Some s) × (s.edges < n + 1)
      soon n j less way = let w = met.all n j less way in (w.0, meets.kept j w.0 w.1, w.2)

      later : (n j : ℕ) → n ≡ edges + 1 → IsReachedIn g starts n j → (s : Stop) × (stop_at new j ≡ Some s) × (s.edges < n + 1)
      later zero j same way = absurd (omega (arith, same))
      later (suc n) j same way =
          let before = met.all n way.0 (omega (arith, same)) way.1 in
          let s = some_of (stop_at new j) (led_next j way.0 before.0 before.1 way.2) in
          (s.0, s.1, let low = (sound_next j s.0 s.1).1 in omega (arith, low, same))

      all : (n j : ℕ) → n < edges + 1 + 1 → IsReachedIn g starts n j → (s : Stop) × (stop_at new j ≡ Some s) × (s.edges < n + 1)
      all n j less way = elim (cases_lt n (edges + 1)) [
        | inl low ↦ soon n j low way
        | inr le ↦ later n j (omega (arith, less, le)) way
      ]

-- nothing is left to be met
module _ (g : GraphView) (starts : List ℕ) (edges : ℕ) (stops : List (Option Stop)) (met : IsMetTo g starts edges stops []) where
  led : (n j : ℕ) → IsReachedIn g starts n j → IsSome (stop_at stops j)
  led zero j way = let w = met.all 0 j (omega arith) way in is_some_of (stop_at stops j) w.0 w.1
  led (suc n) j way =
      let i = way.0 in
      let s = some_of (stop_at stops i) (led n i way.1) in
      let is = met.sound i s.0 s.1 in
      elim (cases_eq s.0.edges edges) [
        | inl same ↦ absurd (in_none [] i refl ((met.last i).1 (s.0, s.1, same)))
        | inr ne ↦
            let w = met.all (suc s.0.edges) j (let low = is.1 in omega (arith, low, ne)) (i, is.0.nearest.leads, way.2) in
            is_some_of (stop_at stops j) w.0 w.1
      ]

  each : (j : ℕ) (o : Option Stop) → stop_at stops j ≡ o → MatchOption o ((n : ℕ) → IsReachedIn g starts n j → ⊥) (IsStop g starts j)
  each j None e = λ n way. none_some (stop_at stops j) e (led n j way)
  each j (Some s) e = (met.sound j s e).0

  pub met_all : AreStops g starts stops
  met_all = record { len = met.len; each = λ j low. each j (stop_at stops j) refl }
