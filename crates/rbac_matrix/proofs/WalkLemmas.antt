-- walks along runs
use Rattle.std.proofs.Common.{◌≡◌, ℕ, length, ◌+◌, ◌<◌, ◌≤◌, ◌⊎◌, refl, ◌∙◌, sym, arith, inl, inr, subst, ap, Bool, List, [], ◌∷◌}
use Rattle.std.specs.Prelude.{Option, Some, None, IsTrue, not, slice_get, drop, true, false}
use Rattle.std.proofs.lemmas.Bool.{cases_eq, cases_lt}
use Rattle.std.proofs.lemmas.List.{drop_all}
use Rattle.std.proofs.lemmas.Option.{get_or_from_slice_get, same_Some, slice_get_within}
use Rattle.rbac_terms.specs.Text.{Text}
use Rattle.rbac_terms.specs.Principals.{Who}
use Rattle.rbac_terms.specs.Matching.{VerbOk}
use Rattle.rbac_model.specs.Policies.{PolicyView, GrantView, BindingNames, IsPolicy}
use Rattle.rbac_model.specs.Universes.{LiveForSome, UniverseView}
use Rattle.rbac_model.proofs.BindingPlaces.{of_some_binding}
use Rattle.rbac_subjects.specs.Bound.{HasRoleBindings, IsBoundTo, IsNextRun, AreRunsFrom}
use Rattle.rbac_subjects.specs.declared.first_runs.Run.{Run}
use Rattle.rbac_matrix.specs.Lines.{IsLineAt, IsMoved, LineView, line, place}
use Rattle.rbac_matrix.specs.Cursors.{AreKnownAt, AreRuns, AreRunsOf, AreRunsOn, AreVerbs, ServeBare, IsAhead, IsBoundOn, IsCursorAt, ComesTo, IsNextBound, IsNextRunOn, IsWithin, KeepGrantVerbs, steps_left}
use Rattle.rbac_matrix.specs.declared.line.Place.{Place}
use Rattle.rbac_matrix.specs.declared.bound_runs.Runs.{Runs}
use Rattle.rbac_matrix.specs.declared.walk.Walk.{Walk}

pub bound_grant : (p : PolicyView) (l : LineView) (k : ℕ) → IsBoundOn p l k → (g : GrantView) × (slice_get p.grants k ≡ Some g) × BindingNames g.binding l.who × LiveForSome g.binding.namespace l.namespace
unfolding IsBoundOn
bound_grant p l k b = b

pub bound_within : (p : PolicyView) (l : LineView) (k : ℕ) → IsBoundOn p l k → k < length p.grants
bound_within p l k b = let g = bound_grant p l k b in slice_get_within p.grants k g.0 g.1

run_bound : (p : PolicyView) (l : LineView) (from start end : ℕ) → IsNextRun p l.who l.namespace from start end → (number : ℕ) → start ≤ number → number < end → IsBoundOn p l number
unfolding IsBoundOn
run_bound p l from start end run = run.bound

run_first : (p : PolicyView) (l : LineView) (from start end : ℕ) → IsNextRun p l.who l.namespace from start end → (number : ℕ) → from ≤ number → number < start → IsBoundOn p l number → ⊥
unfolding IsBoundOn
run_first p l from start end run = run.none_before

module _ (p : PolicyView) (l : LineView) (runs : Runs) (old : Walk) (within : IsWithin p l runs old) where
  -- a walk goes on in its run
  pub next_in_run : (w : Walk) → w ≡ old → old.next < old.end → IsNextBound p l old (record { next = w.next + 1; end = w.end; later = w.later; steps = w.steps }) w.next
  next_in_run w e lt = subst (λ (v : Walk). IsNextBound p l old (record { next = v.next + 1; end = v.end; later = v.later; steps = v.steps }) v.next) (sym e) (
    record {
      on = omega arith;
      passed = refl;
      first = λ other low high. absurd (omega arith);
    },
    within.bound old.next (omega arith) lt,
  )

  pub within_run : (w : Walk) → w ≡ old → old.next < old.end → IsWithin p l runs (record { next = w.next + 1; end = w.end; later = w.later; steps = w.steps })
  within_run w e lt = subst (λ (v : Walk). IsWithin p l runs (record { next = v.next + 1; end = v.end; later = v.later; steps = v.steps })) (sym e) (record {
    order = omega arith;
    bound = λ number low high. within.bound number (omega arith) high;
    later = within.later;
  })

  module _ (w mid : Walk) (run : Run) (e : w ≡ record { next = run.start; end = run.end; later = mid.later; steps = mid.steps }) (over : old.end ≤ old.next) (is : IsNextRunOn p l runs old mid run) where
    -- a walk comes to a new run
    pub next_in_new : IsNextBound p l old (record { next = w.next + 1; end = w.end; later = w.later; steps = w.steps }) w.next
    next_in_new = subst (λ (v : Walk). IsNextBound p l old (record { next = v.next + 1; end = v.end; later = v.later; steps = v.steps }) v.next) (sym e) (
      record {
        on = omega (arith, within.order, is.next.after);
        passed = refl;
        first = λ other low high. run_first p l old.end run.start run.end is.next other (omega (arith, within.order)) high;
      },
      run_bound p l old.end run.start run.end is.next run.start (omega arith) is.next.some,
    )

    pub within_new : IsWithin p l runs (record { next = w.next + 1; end = w.end; later = w.later; steps = w.steps })
    within_new = subst (λ (v : Walk). IsWithin p l runs (record { next = v.next + 1; end = v.end; later = v.later; steps = v.steps })) (sym e) (record {
      order = omega (arith, is.next.some);
      bound = λ number low high. run_bound p l old.end run.start run.end is.next number (omega arith) high;
      later = is.later;
    })

-- `IsBoundOn` holds for each cursor
pub cursor_bound : (p : PolicyView) (l : LineView) (k : ℕ) → IsCursorAt p l k → IsBoundOn p l k
unfolding IsBoundOn
cursor_bound p l k c = (c.grant, c.at, c.is.1, c.is.2)

-- each cursor that was ahead is this grant, or is still ahead
pub comes_on : (p : PolicyView) (l : LineView) (w v : Walk) (here : ℕ) → ComesTo p l w v here → (other : ℕ) → IsAhead p l w other → (other ≡ here) ⊎ IsAhead p l v other
comes_on p l w v here step other a = elim (cases_lt other here) [
  | inl lt ↦ absurd (step.first other a.1 lt (cursor_bound p l other a.0))
  | inr ge ↦ elim (cases_eq other here) [
    | inl e ↦ inl e
    | inr ne ↦ inr (a.0, omega (arith, step.passed))
  ]
]

-- where a walk comes to doesn't depend on the line's verb
pub other_verb : (p : PolicyView) (l : LineView) (verb : Text) (w v : Walk) (number : ℕ) → ComesTo p l w v number → ComesTo p (line l.who l.namespace verb) w v number
unfolding IsBoundOn
other_verb p l verb w v number step = record { on = step.on; passed = step.passed; first = step.first }

pub bound_of_verb : (p : PolicyView) (l : LineView) (verb : Text) (k : ℕ) → IsBoundOn p (line l.who l.namespace verb) k → IsBoundOn p l k
unfolding IsBoundOn
bound_of_verb p l verb k bound = bound

-- a walk with no further bound grant has no cursor ahead
pub none_ahead : (p : PolicyView) (l : LineView) (w : Walk) → ((k : ℕ) → w.next ≤ k → k < length p.grants → IsBoundOn p l k → ⊥) → (k : ℕ) → IsAhead p l w k → ⊥
none_ahead p l w none k a = let bound = cursor_bound p l k a.0 in none k a.1 (bound_within p l k bound) bound

module _ (p : PolicyView) (l : LineView) (w v : Walk) (no : ℕ) (step : IsNextBound p l w v no) where
  pub bound_on : (other : ℕ) → IsAhead p l w other → (other ≡ no) ⊎ IsAhead p l v other
  bound_on = comes_on p l w v no step.0

  pub bound_ends : steps_left p v < steps_left p w
  bound_ends = let lt = bound_within p l no step.1 in omega (arith, step.0.on, step.0.passed)

  module _ (g : GrantView) (at : slice_get p.grants no ≡ Some g) where
    -- a bound grant is a cursor exactly if its rule has the verb
    pub bound_cursor : VerbOk g.rule.rule l.verb → IsCursorAt p l no
    bound_cursor ok =
        let b = bound_grant p l no step.1 in
        let same : b.0 ≡ g = same_Some b.0 g (sym b.1 ∙ at) in
        record { grant = g; at = at; is = (ok, subst (λ (h : GrantView). BindingNames h.binding l.who) same b.2, subst (λ (h : GrantView). LiveForSome h.binding.namespace l.namespace) same b.3) }

    module _ (old : Walk) (ahead : (k : ℕ) → IsAhead p l old k → w.next ≤ k) where
      pub bound_others : (other : ℕ) → IsAhead p l old other → (other ≡ no) ⊎ IsAhead p l v other
      bound_others other a = bound_on other (a.0, ahead other a)

      pub bound_passes : (VerbOk g.rule.rule l.verb → ⊥) → (k : ℕ) → IsAhead p l old k → v.next ≤ k
      bound_passes other_verb k a = elim (bound_others k a) [
        | inl e ↦
            let same : a.0.grant ≡ g = same_Some a.0.grant g (sym a.0.at ∙ (rw e at)) in
            absurd (other_verb (subst (λ (h : GrantView). VerbOk h.rule.rule l.verb) same a.0.is.0))
        | inr later ↦ later.1
      ]

-- past the kept runs, there are other runs only if the kept ones aren't all
module _ (p : PolicyView) (l : LineView) (runs : Runs) (at : ℕ) (past : length runs.kept.items ≤ at) where
  none_kept : drop at runs.kept.items ≡ []
  none_kept = drop_all at runs.kept.items past

  pub none_later : (from : ℕ) → AreRunsOn p l runs from (drop at runs.kept.items) → IsTrue runs.are_all → (k : ℕ) → from ≤ k → IsBoundOn p l k → ⊥
  unfolding IsBoundOn
  none_later from later all = subst (AreRunsOn p l runs from) none_kept later all

  pub some_later : (from : ℕ) → runs.are_all ≡ false → AreRunsOn p l runs from (drop at runs.kept.items)
  some_later from e = subst (AreRunsOn p l runs from) (sym none_kept) (λ all. cc)

-- if there are no runs, no grant is bound
pub none_bound : (p : PolicyView) (l : LineView) (runs : Runs) → (runs.kept.items ≡ []) × IsTrue runs.are_all → AreRuns p l runs → (k : ℕ) → IsBoundOn p l k → ⊥
unfolding IsBoundOn
none_bound p l runs none are k bound = subst (AreRunsOn p l runs 0) none.0 are none.1 k (omega arith) bound

-- a binding that may be live in a namespace and isn't one of its RoleBindings may be live in every
-- namespace
lives_elsewhere : (o : Option Text) (a b : Text) → (o ≡ Some a → ⊥) → LiveForSome o a → LiveForSome o b
lives_elsewhere None a b ne lives = tt
lives_elsewhere (Some n) a b ne lives = absurd (ne (ap (λ (t : Text). Some t) lives.1))

module _ (p : PolicyView) (ok : IsPolicy p) (who : Who) (a b : Text) (bare : ¬ HasRoleBindings p.held a) where
  bound_elsewhere : (k : ℕ) → IsBoundTo p who a k → IsBoundTo p who b k
  bound_elsewhere k bound =
      let g = bound.0 in
      let of = of_some_binding p ok k (slice_get_within p.grants k g bound.1) in
      let same : of.1.0 ≡ g = same_Some of.1.0 g (sym of.1.1 ∙ bound.1) in
      let there : slice_get p.held.bindings of.0 ≡ Some g.binding = of.1.2 ∙ ap (λ (h : GrantView). Some h.binding) same in
      let ne : g.binding.namespace ≡ Some a → ⊥ = λ e. bare (of.0, g.binding, slice_get_within p.held.bindings of.0 g.binding there, get_or_from_slice_get p.held.bindings of.0 g.binding g.binding there, e) in
      (g, bound.1, bound.2, lives_elsewhere g.binding.namespace a b ne bound.3)

-- a principal has the same runs in any two namespaces without a RoleBinding
module _ (p : PolicyView) (ok : IsPolicy p) (who : Who) (a b : Text) (bare : ¬ HasRoleBindings p.held a) (other : ¬ HasRoleBindings p.held b) where
  next_elsewhere : (from start end : ℕ) → IsNextRun p who a from start end → IsNextRun p who b from start end
  next_elsewhere from start end is = record {
    after = is.after;
    some = is.some;
    bound = λ n low high. bound_elsewhere p ok who a b bare n (is.bound n low high);
    none_before = λ n low high bound. is.none_before n low high (bound_elsewhere p ok who b a other n bound);
    whole = is.whole;
  }

  runs_elsewhere : (are_all : Bool) (from : ℕ) (runs : List Run) → AreRunsFrom p who a are_all from runs → AreRunsFrom p who b are_all from runs
  runs_elsewhere are_all from [] are = λ all n low bound. are all n low (bound_elsewhere p ok who b a other n bound)
  runs_elsewhere are_all from (run ∷ runs) are = (next_elsewhere from run.start run.end are.0, runs_elsewhere are_all run.end runs are.1)

-- so the principal's cursors have the same verbs in both
verbs_elsewhere : (p : PolicyView) (u : UniverseView) → IsPolicy p → (who : Who) (a b : Text) (words : List ℕ) → (¬ HasRoleBindings p.held b) → AreVerbs p u who a words → AreVerbs p u who b words
unfolding IsBoundOn
verbs_elsewhere p u ok who a b words other are at verb is lacks k c =
    let h = bound_elsewhere p ok who b a other k (cursor_bound p (line who b verb) k c) in
    let same : h.0 ≡ c.grant = same_Some h.0 c.grant (sym h.1 ∙ c.at) in
    are at verb is lacks k (record { grant = h.0; at = h.1; is = (subst (λ (g : GrantView). VerbOk g.rule.rule verb) (sym same) c.is.0, h.2, h.3) })

pub serve_bare : (p : PolicyView) (u : UniverseView) → IsPolicy p → (l : LineView) (runs : Runs) → ((IsTrue runs.is_bare) → HasRoleBindings p.held l.namespace → ⊥) → AreRunsOf p u l runs → ServeBare p u l.who runs
serve_bare p u ok l runs bare are = λ is namespace verb other. (
  runs_elsewhere p ok l.who l.namespace namespace (bare is) other runs.are_all 0 runs.kept.items are.0,
  verbs_elsewhere p u ok l.who l.namespace namespace runs.verbs.words.items other are.1,
  are.2,
)

-- what is known of a line's runs at another line of the same namespace: they are that line's runs
-- too
pub known_at : (p : PolicyView) (u : UniverseView) (at : Place) (l : LineView) (runs : Runs) (verb : ℕ) → IsLineAt u at l → AreRunsOf p u l runs → ServeBare p u l.who runs → AreKnownAt p u (place at.principal at.namespace verb) runs
known_at p u at l runs verb here are bare = record {
  verbs = λ later m there.
      let who : l.who ≡ m.who = same_Some l.who m.who (sym here.principal ∙ there.principal) in
      let namespace : l.namespace ≡ m.namespace = same_Some l.namespace m.namespace (sym here.namespace ∙ there.namespace) in
      let same : AreRunsOf p u (line l.who l.namespace m.verb) runs = are in
      subst (λ (n : Text). AreRunsOf p u (line m.who n m.verb) runs) namespace (subst (λ (w : Who). AreRunsOf p u (line w l.namespace m.verb) runs) who same);
  bare = λ later who there. subst (λ (w : Who). ServeBare p u w runs) (same_Some l.who who (sym here.principal ∙ there)) bare;
  told = are.2;
}

pub known_moved : (p : PolicyView) (u : UniverseView) (at to : Place) (runs : Runs) → IsMoved at to → AreKnownAt p u at runs → AreKnownAt p u to runs
known_moved p u at to runs (inl e) known = subst (λ (t : Place). AreKnownAt p u t runs) (sym e) known
known_moved p u at to runs (inr (none, inl first)) known = record {
  verbs = λ later. absurd (omega (arith, none, later));
  bare = λ later. elim later [ inl l ↦ absurd (omega (arith, first, l)) | inr l ↦ absurd (omega (arith, none, l)) ];
  told = known.told;
}
known_moved p u at to runs (inr (none, inr same)) known = record {
  verbs = λ later. absurd (omega (arith, none, later));
  bare = λ later who there. known.bare (inr same.1) who (subst (λ (n : ℕ). slice_get u.principals n ≡ Some who) same.0 there);
  told = known.told;
}

-- what is known of a line's runs at the first line of another namespace, or of another principal
pub known_past : (p : PolicyView) (u : UniverseView) (at to : Place) (l : LineView) (runs : Runs) → IsLineAt u at l → ServeBare p u l.who runs → KeepGrantVerbs p u runs → to.verb ≡ 0 → (to.namespace ≡ 0) ⊎ (to.principal ≡ at.principal) → AreKnownAt p u to runs
known_past p u at to l runs here bare told none (inl first) = record {
  verbs = λ later. absurd (omega (arith, none, later));
  bare = λ later. elim later [ inl n ↦ absurd (omega (arith, first, n)) | inr n ↦ absurd (omega (arith, none, n)) ];
  told = told;
}
known_past p u at to l runs here bare told none (inr same) = record {
  verbs = λ later. absurd (omega (arith, none, later));
  bare = λ later who there. subst (λ (w : Who). ServeBare p u w runs) (same_Some l.who who (sym here.principal ∙ subst (λ (n : ℕ). slice_get u.principals n ≡ Some who) same there)) bare;
  told = told;
}

pub not_both : (b : Bool) → IsTrue (not b) → IsTrue b → ⊥
not_both true t u = cc
not_both false t u = cc
