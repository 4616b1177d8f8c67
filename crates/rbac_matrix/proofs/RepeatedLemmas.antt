-- repeated lines, and what is passed over them
use Rattle.std.proofs.Common.{◌≡◌, ◌≢◌, ℕ, ◌+◌, ◌-◌, ◌<◌, ◌≤◌, ◌⊎◌, List, [], ◌∷◌, ◌++◌, length, map, true, false, Bool, IsTrue, Contains, refl, ap, ◌∙◌, sym, arith, append_assoc, subst, inl, inr, ◌↔◌}
use Rattle.std.specs.Prelude.{Option, Some, None, is_none, slice_get}
use Rattle.std.specs.List.{flat_map}
use Rattle.std.specs.List.Sorted.{IsPartitionPoint}
use Rattle.std.specs.declared.cmp.Ordering.TheVariants.{Less}
use Rattle.std.proofs.lemmas.Bool.{cases_lt}
use Rattle.std.proofs.lemmas.List.Elements.{Contains-append_cases}
use Rattle.std.proofs.lemmas.Option.{get_or_from_slice_get, same_Some, slice_get_within}
use Rattle.rbac_terms.specs.declared.granting.Binding.{Binding}
use Rattle.rbac_terms.specs.Principals.{Who}
use Rattle.rbac_terms.specs.Text.{Text, text_cmp}
use Rattle.rbac_model.specs.Policies.{PolicyView, IsPolicy, GrantView, IsOfBinding}
use Rattle.rbac_model.specs.Universes.{UniverseView, IsUniverse, Listed, LiveForSome}
use Rattle.rbac_subjects.specs.Bound.{IsNamedIn}
use Rattle.rbac_model.proofs.BindingPlaces.{of_some_binding}
use Rattle.rbac_subjects.proofs.LivingLemmas.{cluster_first}
use Rattle.rbac_universe.proofs.Flattened.{flat_contains, map_contains}
use Rattle.rbac_reaches.specs.Reaches.{AreReaches}
use Rattle.rbac_matrix.specs.RepeatedLines.{AreClusterWide, HasRepeats, HasRepeatsAt, HasRepeatsFrom, HasRepeatsLeft, IsRepeated, PassesRepeated, PassesLines}
use Rattle.rbac_matrix.specs.Cells.{AreRowsOf}
use Rattle.rbac_matrix.specs.Cursors.{AreKnownAt, AreRunsOf, IsCursorAt}
use Rattle.rbac_matrix.specs.Lines.{IsLineAt, LineView, line_cells_from, lines_from, next_verb}
use Rattle.rbac_matrix.specs.Metering.{IsMetered, Skips}
use Rattle.rbac_matrix.specs.Once.{repeats_at}
use Rattle.rbac_matrix.specs.Passing.{IsHit, cell_of}
use Rattle.rbac_matrix.specs.Seats.{AreEmpty, AreSeated, Costs, past_all, seat_at}
use Rattle.rbac_matrix.specs.Blocks.{AreBlocks, block_at}
use Rattle.rbac_matrix.specs.Unnamed.{IsFrom, PassesUnnamed}
use Rattle.rbac_matrix.specs.declared.blocks.Block.{Block}
use Rattle.rbac_matrix.specs.declared.bound_runs.Runs.{Runs}
use Rattle.rbac_matrix.specs.declared.line.Place.{Place}
use Rattle.rbac_matrix.specs.declared.seat.Seat.{Seat}
use Rattle.rbac_matrix.proofs.GoingLemmas.{fits_namespace}
use Rattle.rbac_matrix.proofs.HitLemmas.{from_zero}
use Rattle.rbac_matrix.proofs.LineLemmas.{flag_at, hit_cursor, seat_first}
use Rattle.rbac_matrix.proofs.LoopLemmas.{cursor_within}
use Rattle.rbac_matrix.proofs.PairLemmas.{granted_hit, rowless_pairs}
use Rattle.rbac_matrix.proofs.TouchLemmas.{metered_end, metered_on, metered_skip}
use Rattle.rbac_matrix.proofs.WalkLemmas.{known_at}

repeats_somewhere : (namespace : Text) → namespace ≢ [] → repeats_at namespace None ≡ true
repeats_somewhere [] some = absurd (some refl)
repeats_somewhere (c ∷ namespace) some = refl

-- a repeat has a namespace
pub repeat_somewhere : (namespace : Text) (own : Option Text) → repeats_at namespace own ≡ true → namespace ≢ []
repeat_somewhere [] own e none = cc
repeat_somewhere (c ∷ namespace) own e none = cc

-- the grants of the bindings before the first RoleBinding belong to ClusterRoleBindings
pub cluster_below : (p : PolicyView) → IsPolicy p → (count end : ℕ) → IsPartitionPoint (λ (b : Binding). is_none b.namespace ≡ true) (λ (b : Binding). is_none b.namespace ≡ false) p.held.bindings count
    → 0 < count → ((n at : ℕ) → IsOfBinding p n at → (n < end) ↔ (at ≤ count - 1)) → AreClusterWide p end
cluster_below p policy count end parted some upto k g at lt =
    let of = of_some_binding p policy k (slice_get_within p.grants k g at) in
    let early = (upto k of.0 of.1).0 lt in
    let same : of.1.0 ≡ g = same_Some of.1.0 g (sym of.1.1 ∙ at) in
    let there : slice_get p.held.bindings of.0 ≡ Some g.binding = of.1.2 ∙ ap (λ (h : GrantView). Some h.binding) same in
    (cluster_first p.held.bindings count parted of.0 g.binding there).0 (omega arith)

pub repeated_line : (p : PolicyView) (first : ℕ) → AreClusterWide p first → (l : LineView) → l.namespace ≢ [] → ((k : ℕ) → first ≤ k → IsCursorAt p l k → ⊥) → IsRepeated p l
repeated_line p first cluster l some none = record {
  some = some;
  cursors = λ k c. elim (cases_lt k first) [
    | inl lt ↦ cluster k c.grant c.at lt
    | inr ge ↦ absurd (none k ge c)
  ];
}

-- in a namespace where no RoleBinding names the principal, each line is repeated
bound_nowhere : (own : Option Text) (namespace : Text) → LiveForSome own namespace → (own ≡ Some namespace → ⊥) → own ≡ None
bound_nowhere None namespace live other = refl
bound_nowhere (Some n) namespace live other = absurd (other (ap (λ (t : Text). Some t) live.1))

module _ (p : PolicyView) where
  pub unnamed_line : (l : LineView) → l.namespace ≢ [] → (IsNamedIn p l.who l.namespace → ⊥) → IsRepeated p l
  unnamed_line l some unnamed = record {
    some = some;
    cursors = λ k c. bound_nowhere c.grant.binding.namespace l.namespace c.is.2 (λ e. unnamed (k, c.grant, c.at, c.is.1, e));
  }

later_some : (from x : Text) → from ≢ [] → IsFrom from x → x ≢ []
later_some from x some (inl same) none = some (sym same ∙ none)
later_some [] x some (inr less) none = some refl
later_some (c ∷ cs) x some (inr less) none = let before : text_cmp (c ∷ cs) [] ≡ Less = subst (λ (t : Text). text_cmp (c ∷ cs) t ≡ Less) none less in cc

-- so each line that is passed as unnamed is repeated, if its namespace isn't empty
pub repeated_from : (p : PolicyView) (u : UniverseView) (asking : Who) (from : Text) (at to : Place) → from ≢ [] → PassesUnnamed p u asking from at to → PassesRepeated p u at to
repeated_from p u asking from at to some passes = record {
  between = passes.between;
  whole = passes.whole;
  repeated = λ l w.
      let is = passes.unnamed l w in
      unnamed_line p l (later_some from l.namespace some is.later) (λ named. is.unnamed (subst (λ (who : Who). IsNamedIn p who l.namespace) is.who named));
}

module _ (p : PolicyView) (u : UniverseView) where
  pub repeated_none : (at to : Place) → lines_from u to ≡ lines_from u at → PassesRepeated p u at to
  repeated_none at to e = record { between = []; whole = sym e; repeated = λ l w. absurd (omega (arith, w.1)) }

  pub repeated_then : (a b c : Place) → PassesRepeated p u a b → PassesRepeated p u b c → PassesRepeated p u a c
  repeated_then a b c q r = record {
    between = q.between ++ r.between;
    whole = q.whole ∙ ap (λ (ls : List LineView). q.between ++ ls) r.whole ∙ sym (append_assoc q.between r.between (lines_from u c));
    repeated = λ l w. elim (Contains-append_cases q.between r.between l w) [ inl v ↦ q.repeated l v | inr v ↦ r.repeated l v ];
  }

-- ---- the pairs of lines that are passed

module _ (p : PolicyView) (policy : IsPolicy p) (u : UniverseView) where
  -- if each hit is by a ClusterRoleBinding, each granted pair is a repeat
  pub hits_repeat : IsUniverse u → (l : LineView) → l.namespace ≢ [] → (q : ℕ) → ((k : ℕ) → IsHit p u l q k → (c : IsCursorAt p l k) → c.grant.binding.namespace ≡ None) → HasRepeatsAt p u l q
  hits_repeat is l some q cluster at t b read bound granted =
      let h = granted_hit p policy u l q at t b read bound granted in
      let cursor = hit_cursor p u l q h.0 h.1 in
      let same : h.2.0 ≡ cursor.grant = same_Some h.2.0 cursor.grant (sym h.2.1 ∙ cursor.at) in
      let binding : b ≡ cursor.grant.binding = same_Some b cursor.grant.binding (sym bound ∙ h.2.2 ∙ ap (λ (g : GrantView). Some g.binding) same) in
      let none : b.namespace ≡ None = ap (λ (x : Binding). x.namespace) binding ∙ cluster h.0 h.1 cursor in
      rw (fits_namespace u is l q t read granted.0, none) (repeats_somewhere l.namespace some)

  -- if no RoleBinding has a cursor on the line, each granted pair of the line is a repeat
  pub lines_repeat : IsUniverse u → (l : LineView) → IsRepeated p l → HasRepeats p u l
  lines_repeat is l repeated q = hits_repeat is l repeated.some q (λ k hit. repeated.cursors k)

  -- a request that isn't namespaced doesn't fit in a namespace
  unfit_flag : (flag : Bool) (namespace : Text) → flag ≡ false → namespace ≢ [] → IsTrue flag ⊎ (namespace ≡ []) → ⊥
  unfit_flag flag namespace none some (inl fits) = cc
  unfit_flag flag namespace none some (inr bare) = some bare

  pub past_unfit : (l : LineView) → l.namespace ≢ [] → (from place : ℕ) → slice_get (map (λ (t : Listed). t.1) u.targets) place ≡ Some false → HasRepeatsFrom p u l from place → HasRepeatsFrom p u l from (place + 1)
  past_unfit l some from place told before q low high = elim (cases_lt q place) [
    | inl lt ↦ before q low lt
    | inr ge ↦ λ at t b read bound granted. absurd (
        let same : q ≡ place = omega (arith, ge, high) in
        unfit_flag t.1 l.namespace (flag_at u.targets place t false (subst (λ (n : ℕ). slice_get u.targets n ≡ Some t) same read) told) some granted.0)
  ]

  -- before the least place where a seat of a RoleBinding may be, there are only repeats
  module _ (rs : List (List ℕ)) (l : LineView) (is : IsUniverse u) (reaches : AreReaches p u rs) (some : l.namespace ≢ []) (from upto : ℕ) (none : upto ≡ 0) (seats : List Seat) (seated : AreSeated p l rs from upto seats) (runs : Runs) (bs : List Block) (blocks : AreBlocks p l runs seats bs) (count : ℕ) (cluster : AreClusterWide p count) where
    pub repeats_before : (to : ℕ) → to ≤ past_all → ((i : ℕ) → i < length bs → count < (block_at bs i).end → to ≤ (block_at bs i).place) → HasRepeatsFrom p u l from to
    repeats_before to top least q low high = hits_repeat is l some q (λ k hit c.
        let at : (seat_at seats k).place ≤ q = seat_first p u rs l policy is reaches from upto seats seated q k hit (from_zero q k from upto none low) in
        let of = blocks.all k (omega (arith, cursor_within p l k c, seated.count)) (omega arith) in
        elim (cases_lt k count) [
          | inl lt ↦ cluster k c.grant c.at lt
          | inr ge ↦ absurd (let own = (blocks.each of.0 of.1).least k of.2.0 of.2.1 in omega (arith, own.least, of.2.1, least of.0 of.1 (omega (arith, of.2.1))))
        ])

  -- a line without rows has only repeats
  pub rowless_repeats : (ls : List LineView) → AreRowsOf p.held (flat_map (line_cells_from u 0) ls) [] → (l : LineView) → Contains ls l → HasRepeats p u l
  unfolding line_cells_from
  rowless_repeats ls none l w q at t b read bound granted = absurd (
      rowless_pairs p policy (flat_map (line_cells_from u 0) ls) none (cell_of l t) b
      (flat_contains (line_cells_from u 0) ls l (cell_of l t) w (map_contains (cell_of l) u.targets t (q, slice_get_within u.targets q t read, get_or_from_slice_get u.targets q t t read)))
      (at, slice_get_within p.held.bindings at b bound, get_or_from_slice_get p.held.bindings at b b bound) granted)

  pub passes_lines : IsUniverse u → (at next past to : Place) (l : LineView) (from : ℕ) → lines_from u at ≡ l ∷ lines_from u next → HasRepeatsLeft p u l from → PassesRepeated p u next past → Skips p.held u past to → PassesLines p u at from to
  passes_lines is at next past to l from e rest passes skips = record {
    line = l;
    more = passes.between ++ skips.between;
    whole = e ∙ ap (λ (ls : List LineView). l ∷ ls) (passes.whole ∙ ap (λ (ls : List LineView). passes.between ++ ls) skips.whole ∙ sym (append_assoc passes.between skips.between (lines_from u to)));
    rest = rest;
    repeats = λ m w. elim (Contains-append_cases passes.between skips.between m w) [
      | inl x ↦ lines_repeat is m (passes.repeated m x)
      | inr x ↦ rowless_repeats skips.between skips.none m x
    ];
  }

-- what is known of the runs of a line that is left, once they are marked as those of its namespace
-- alone
pub known_here : (p : PolicyView) (u : UniverseView) (at next : Place) (l : LineView) (old runs : Runs) → IsLineAt u at l → AreRunsOf p u l old → runs ≡ record old { is_bare = false } → (next ≡ next_verb at) ⊎ (next.verb ≡ 0) → AreKnownAt p u next runs
known_here p u at next l old runs here are e (inl same) = rw (same, e) (known_at p u at l (record old { is_bare = false }) (at.verb + 1) here are (λ bare. cc))
known_here p u at next l old runs here are e (inr first) = record {
  verbs = λ later. absurd (omega (arith, first, later));
  bare = λ later who there. rw e (λ bare. cc);
  told = rw e are.2;
}

-- the meter's bounds still hold after a line is left and lines are passed
pub metered_lines : (p : PolicyView) (u : UniverseView) (rs : List (List ℕ)) (start : Place) (sought given : ℕ) (at next past to : Place) (l : LineView) (from upto : ℕ) (old empty seats : List Seat) (m m' : ℕ) → IsPolicy p → IsUniverse u → AreReaches p u rs
    → lines_from u at ≡ l ∷ lines_from u next → AreSeated p l rs from upto old → AreEmpty p empty → PassesRepeated p u next past → Skips p.held u past to → Costs 0 0 empty seats m m' → IsMetered p u start sought at old given m → IsMetered p u start sought to seats given m'
metered_lines p u rs start sought given at next past to l from upto old empty seats m m' policy is reaches e seated none passes skips costs h =
    let over = metered_end p u start sought rs at next l from upto old empty given m policy is reaches e seated none h in
    let passed = metered_skip p u start sought next past empty given m passes.between passes.whole over in
    let on = metered_on p u start sought past empty seats given m m' passed costs in
    metered_skip p u start sought past to seats given m' skips.between skips.whole on
