-- Ascending places, kept as runs of neighbours.
use Rattle.std.specs.Prelude.{◌≡◌, ℕ, ◌+◌, ◌-◌, ◌<◌, ◌≤◌, List, [], ◌∷◌, ◌++◌, zero, suc}
use Rattle.std.specs.List.Sorted.{IsStrictlyIncreasing}
use Rattle.rbac_reaches.specs.declared.spans.Span.{Span}
use Rattle.rbac_model.specs.Universes.{most_targets}

-- that many places from `start` on
abbrev pub places_from : ℕ → ℕ → List ℕ
places_from start zero = []
places_from start (suc count) = start ∷ places_from (start + 1) count

-- the places of runs, one run after the other
abbrev pub span_places : List Span → List ℕ
span_places [] = []
span_places (s ∷ ss) = places_from s.start (s.end - s.start) ++ span_places ss

-- each run has the count of the places before it, which is `before` for the first run; `len` is
-- this count after the last run, and each place is below a million
abbrev pub IsCounted : ℕ → List Span → ℕ → Type 0
IsCounted before [] len = before ≡ len
IsCounted before (s ∷ ss) len = (s.before ≡ before) × (s.start < s.end) × (s.end ≤ most_targets)
    × IsCounted (before + (s.end - s.start)) ss len

-- runs of `len` places, at most a million, each once and ascending
pub record AreSpans (spans : List Span) (len : ℕ) : Type 0 where
  pub counted : IsCounted 0 spans len
  pub ascending : IsStrictlyIncreasing (span_places spans)
  pub few : len ≤ most_targets

-- new is old with one more run at the end, joined to the last one or not: the places are old's and
-- then the run's, and all are counted
pub record AddsSpan (old : List Span) (span : Span) (new : List Span) : Type 0 where
  pub counted : IsCounted 0 new (span.before + (span.end - span.start))
  pub places : span_places new ≡ span_places old ++ places_from span.start (span.end - span.start)
