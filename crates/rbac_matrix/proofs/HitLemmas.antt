-- the hits of a line, by place and grant number, and the rows that they give
use Rattle.std.proofs.Common.{◌≡◌, ℕ, ◌+◌, ◌-◌, ◌<◌, ◌≤◌, List, [], ◌∷◌, length, refl, ap, ◌∙◌, arith, subst, inl, inr}
use Rattle.std.specs.Prelude.{Some, slice_get}
use Rattle.std.proofs.lemmas.Bool.{cases_lt}
use Rattle.std.proofs.lemmas.Option.{slice_get-get_or, get_or_from_slice_get, slice_get_within}
use Rattle.rbac_terms.specs.declared.granting.Binding.{Binding}
use Rattle.rbac_model.specs.Policies.{PolicyView, IsPolicy, GrantView, Allows}
use Rattle.rbac_model.specs.Universes.{UniverseView, Listed, Cell}
use Rattle.rbac_model.proofs.GrantNumbers.{some_grant, first_grant}
use Rattle.rbac_matrix.specs.Cells.{AreRowsOf, HasRow}
use Rattle.rbac_matrix.specs.Lines.{LineView, line_cells_from}
use Rattle.rbac_matrix.specs.Passing.{HasNoHit, IsNoEarlier, IsHit, IsNextHit, Passes, cell_of, row_on}
use Rattle.rbac_matrix.proofs.PassLemmas.{line_over, passes_none, passes_over, passes_rows, row_passes}

-- ---- the order of places and numbers

pub from_itself : (q k : ℕ) → IsNoEarlier q k q k
from_itself q k = inr (refl, omega arith)

pub from_then : (q k place number from upto : ℕ) → IsNoEarlier q k place number → IsNoEarlier place number from upto → IsNoEarlier q k from upto
from_then q k place number from upto (inl a) (inl b) = inl (omega arith)
from_then q k place number from upto (inl a) (inr b) = inl (omega (arith, b.0))
from_then q k place number from upto (inr a) (inl b) = inl (omega (arith, a.0))
from_then q k place number from upto (inr a) (inr b) = inr (omega (arith, a.0, b.0), omega (arith, a.1, b.1))

-- a later place isn't before the next place
pub from_next : (q k place : ℕ) → place < q → IsNoEarlier q k (place + 1) 0
from_next q k place lt = elim (cases_lt (place + 1) q) [
  | inl more ↦ inl more
  | inr same ↦ inr (omega arith, omega arith)
]

pub next_from : (place number : ℕ) → IsNoEarlier (place + 1) 0 place number
next_from place number = inl (omega arith)

pub from_zero : (q k from upto : ℕ) → upto ≡ 0 → from ≤ q → IsNoEarlier q k from upto
from_zero q k from upto e le = elim (cases_lt from q) [
  | inl lt ↦ inl lt
  | inr ge ↦ inr (omega arith, omega arith)
]

module _ (p : PolicyView) (u : UniverseView) (l : LineView) (policy : IsPolicy p) where
  -- each row has a hit
  pub row_hit : (place : ℕ) (t : Listed) (b : Binding) → slice_get u.targets place ≡ Some t → HasRow p.held (cell_of l t) b → (k : ℕ) × IsHit p u l place k
  row_hit place t b at has =
      let first = has.1 in
      let allows : Allows p.held l.who l.namespace l.verb t.0 = (first.0, b, slice_get_within p.held.bindings first.0 b first.1.here, get_or_from_slice_get p.held.bindings first.0 b b first.1.here, first.1.holds) in
      let g = some_grant p.held p.grants l.who l.namespace l.verb t.0 policy.0 policy.1 allows in (
        g.0,
        record {
          target = t;
          grant = g.1;
          target_at = at;
          grant_at = slice_get-get_or p.grants g.0 g.1 g.2 ∙ ap (λ (v : GrantView). Some v) g.3;
          fits = has.0;
          allows = g.4;
        },
      )

  -- the first hit at its place gives the row
  pub hit_row : (place number : ℕ) (h : IsHit p u l place number) → ((k : ℕ) → k < number → IsHit p u l place k → ⊥) → HasRow p.held (cell_of l h.target) h.grant.binding
  hit_row place number h none = (
    h.fits,
    first_grant p.held p.grants l.who l.namespace l.verb h.target.0 policy.0 policy.1 number h.grant (record {
      here = h.grant_at;
      holds = h.allows;
      none_before = λ k g lt read allows. none k lt (record { target = h.target; grant = g; target_at = h.target_at; grant_at = read; fits = h.fits; allows = allows });
    }),
  )

  -- without a hit there is no row
  pub passes_to : (from to : ℕ) → from ≤ to → to ≤ length u.targets → ((q k : ℕ) → IsHit p u l q k → from ≤ q → q < to → ⊥) → Passes p.held (line_cells_from u from l) (line_cells_from u to l) []
  passes_to from to low high none =
      let e : from + (to - from) ≡ to = omega arith in
      rw e at (passes_over u l p.held from (to - from) (omega arith) (λ at t ge lt read b has. let h = row_hit at t b read has in none at h.0 h.1 ge (omega arith)))

  pub none_passes : (from : ℕ) → HasNoHit p u l from 0 → Passes p.held (line_cells_from u from l) [] []
  none_passes from none = elim (cases_lt from (length u.targets)) [
    | inl lt ↦ subst (λ (cs : List Cell). Passes p.held (line_cells_from u from l) cs []) (line_over u l (length u.targets) (omega arith))
        (passes_to from (length u.targets) (omega arith) (omega arith) (λ q k h ge below. none q k h (from_zero q k from 0 refl ge)))
    | inr ge ↦ subst (λ (cs : List Cell). Passes p.held (line_cells_from u from l) cs []) (line_over u l from ge) (passes_none p.held (line_cells_from u from l))
  ]

  pub rowless : HasNoHit p u l 0 0 → AreRowsOf p.held (line_cells_from u 0 l) []
  rowless none = passes_rows p.held (line_cells_from u 0 l) [] [] [] (none_passes 0 none) refl

  module _ (from upto place number : ℕ) (next : IsNextHit p u l from upto place number) where
    pub next_within : place < length u.targets
    next_within = slice_get_within u.targets place next.hit.target next.hit.target_at

    pub next_onward : from ≤ place
    next_onward = elim next.onward [ inl lt ↦ omega arith | inr same ↦ omega (arith, same.0) ]

    -- no hit is before the place of the next one
    pub next_first : (q k : ℕ) → IsHit p u l q k → IsNoEarlier q k from upto → q < place → ⊥
    next_first q k h f lt = elim (next.first q k h f) [ inl above ↦ omega arith | inr same ↦ omega (arith, same.0) ]

  module _ (from upto place number : ℕ) (next : IsNextHit p u l from upto place number) (zero : upto ≡ 0) where
    -- there is no row before the place of the next hit
    pub next_before : Passes p.held (line_cells_from u from l) (line_cells_from u place l) []
    next_before =
        passes_to from place (next_onward from upto place number next) (let w = next_within from upto place number next in omega arith)
        (λ q k h ge lt. next_first from upto place number next q k h (from_zero q k from upto zero ge) lt)

    -- the next hit gives a row
    pub next_row : Passes p.held (line_cells_from u place l) (line_cells_from u (place + 1) l) (row_on p u l place number next.hit ∷ [])
    next_row =
        row_passes u l p.held place next.hit.target next.hit.grant.binding next.hit.target_at
        (hit_row place number next.hit (λ k lt h. elim (next.first place k h (from_zero place k from upto zero (next_onward from upto place number next))) [
          | inl above ↦ omega arith
          | inr same ↦ omega (arith, same.1)
        ]))
