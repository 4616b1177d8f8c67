-- namespaces where no RoleBinding names the principal
use Rattle.std.proofs.Common.{◌≡◌, ◌≢◌, ◌+◌, ◌<◌, ◌≤◌, ◌⊎◌, ◌∷◌, ◌++◌, ◌∙◌, [], ℕ, List, Contains, ap, append_assoc, arith, drop, inl, inr, length, refl, slice_get, subst, subst₂, suc, sym}
use Rattle.std.specs.Prelude.{None, Option, Some}
use Rattle.std.specs.Cmp.Lexicographic.{slice_cmp}
use Rattle.std.specs.List.{flat_map}
use Rattle.std.specs.declared.cmp.Ordering.TheVariants.{Less}
use Rattle.std.proofs.lemmas.Bool.{cases_eq}
use Rattle.std.proofs.lemmas.Cmp.{nat_list_cmp_total, tied_itself}
use Rattle.std.proofs.lemmas.List.Elements.{Contains-append_cases}
use Rattle.std.proofs.lemmas.Option.{get_or_from_slice_get, same_Some, slice_get_within}
use Rattle.rbac_terms.specs.Principals.{Who}
use Rattle.rbac_terms.specs.Text.{Text, text_cmp}
use Rattle.rbac_terms.proofs.Orderings.{less_alone}
use Rattle.rbac_terms.proofs.Reading.{read_some}
use Rattle.rbac_model.specs.Policies.{BindingNames, Held, IsPolicy, PolicyView}
use Rattle.rbac_model.specs.Universes.{IsUniverse, LiveForSome, UniverseView}
use Rattle.rbac_subjects.specs.Bound.{AnswersNextNamespace, IsNamedIn}
use Rattle.rbac_universe.proofs.Flattened.{contains_map, here as first}
use Rattle.rbac_matrix.specs.Cells.{AreRowsOf}
use Rattle.rbac_matrix.specs.Cursors.{IsBoundOn, IsCursorAt}
use Rattle.rbac_matrix.specs.Lines.{IsLineAt, LineView, line, line_cells_from, lines_from, place, verb_lines}
use Rattle.rbac_matrix.specs.Metering.{Skips}
use Rattle.rbac_matrix.specs.Unnamed.{BeginsFrom, IsFrom, IsUnnamed, PassesUnnamed}
use Rattle.rbac_matrix.specs.declared.line.Place.{Place}
use Rattle.rbac_matrix.proofs.IdleLemmas.{fewer_after_namespace, namespace_over}
use Rattle.rbac_matrix.proofs.LineLemmas.{no_cursors}
use Rattle.rbac_matrix.proofs.RowLemmas.{rows_append}

-- lists of one word compare as their words do
one_word : (x y : Text) → slice_cmp text_cmp (x ∷ []) (y ∷ []) ≡ Less → text_cmp x y ≡ Less
one_word x y l = less_alone (text_cmp x y) l

-- from a namespace on, and before the next one where a RoleBinding names the principal, no
-- RoleBinding does
unnamed_after : (x from : Text) → text_cmp x from ≡ Less → IsFrom from x → ⊥
unnamed_after x from less (inl same) = let tied = tied_itself nat_list_cmp_total from in let both : text_cmp from from ≡ Less = subst (λ (t : Text). text_cmp t from ≡ Less) same less in cc
unnamed_after x from less (inr greater) = let tied = tied_itself nat_list_cmp_total from in let both : text_cmp from from ≡ Less = nat_list_cmp_total.trans from x from greater less in cc

unnamed_before : (p : PolicyView) (asking : Who) (from x : Text) (o : Option Text) → AnswersNextNamespace p asking from o → ((found : Text) → o ≡ Some found → text_cmp x found ≡ Less) → IsFrom from x → IsNamedIn p asking x → ⊥
unnamed_before p asking from x None none before on named = unnamed_after x from (none x named) on
unnamed_before p asking from x (Some found) next before on named = unnamed_after x from (next.none_before x named (before found refl)) on

-- a later namespace of a universe comes after an earlier one
namespace_on : (u : UniverseView) → IsUniverse u → (i j : ℕ) (x y : Text) → i ≤ j → slice_get u.namespaces i ≡ Some x → slice_get u.namespaces j ≡ Some y → IsFrom x y
namespace_on u is i j x y le mine theirs = elim (cases_eq i j) [
  | inl same ↦ inl (same_Some y x (sym theirs ∙ ap (slice_get u.namespaces) (sym same) ∙ mine))
  | inr differ ↦
      let less = is.namespaces i j x (omega (arith, le, differ)) (slice_get_within u.namespaces j y theirs) in
      inr (one_word x y (subst₂ (λ (a b : Text). slice_cmp text_cmp (a ∷ []) (b ∷ []) ≡ Less) (get_or_from_slice_get u.namespaces i x x mine) (get_or_from_slice_get u.namespaces j y x theirs) less))
]

module _ (u : UniverseView) (is : IsUniverse u) (at : Place) (l : LineView) (here : IsLineAt u at l) where
  pub begins_at : BeginsFrom u at l.who l.namespace
  begins_at = record {
    principal = here.principal;
    verb = slice_get_within u.verbs at.verb l.verb here.verb;
    later = λ j x le there. namespace_on u is at.namespace j l.namespace x le here.namespace there;
  }

  pub begins_after : BeginsFrom u (place at.principal (at.namespace + 1) 0) l.who l.namespace
  begins_after = record {
    principal = here.principal;
    verb = omega (arith, slice_get_within u.verbs at.verb l.verb here.verb);
    later = λ j x le there. namespace_on u is at.namespace j l.namespace x (omega (arith, le)) here.namespace there;
  }

-- from one place up to another place of the principal, there are only lines of namespaces where no
-- RoleBinding names the principal
pub record PassesNamespaces (p : PolicyView) (u : UniverseView) (asking : Who) (from : Text) (at past : Place) : Type 0 where
  pub principal : past.principal ≡ at.principal
  pub passes : PassesUnnamed p u asking from at past
  pub moved : (past ≡ at) ⊎ ((past.verb ≡ 0) × (at.namespace < past.namespace) × (length (lines_from u past) < length (lines_from u at)))

module _ (p : PolicyView) (u : UniverseView) (asking : Who) (from : Text) (at : Place) where
  pub none_passed : PassesNamespaces p u asking from at at
  none_passed = record { principal = refl; passes = record { between = []; whole = refl; unnamed = λ l w. absurd (omega (arith, w.1)) }; moved = inl refl }

  module _ (past : Place) (passed : PassesNamespaces p u asking from at past) where
    pub passed_same : past.namespace ≡ at.namespace → past ≡ at
    passed_same e = elim passed.moved [ inl same ↦ same | inr on ↦ absurd (omega (arith, on.1, e)) ]

    pub passed_moved : (past ≡ at) ⊎ (past.verb ≡ 0)
    passed_moved = elim passed.moved [ inl same ↦ inl same | inr on ↦ inr on.0 ]

    pub passed_fewer : past.namespace ≢ at.namespace → length (lines_from u past) < length (lines_from u at)
    passed_fewer other = elim passed.moved [ inl same ↦ absurd (other (ap (λ (to : Place). to.namespace) same)) | inr on ↦ on.2 ]

    module _ (begins : BeginsFrom u at asking from) (x : Text) (there : slice_get u.namespaces past.namespace ≡ Some x) where
      still_on : at.namespace ≤ past.namespace
      still_on = elim passed.moved [ inl same ↦ rw same (omega arith) | inr on ↦ omega (arith, on.1) ]

      some_line : (verb : Text) × IsLineAt u past (line asking x verb)
      some_line =
          let low : past.verb < length u.verbs = elim passed.moved [ inl same ↦ rw same begins.verb | inr on ↦ omega (arith, on.0, begins.verb) ] in
          let verb = read_some u.verbs past.verb low in
          (verb.0, record { principal = ap (slice_get u.principals) passed.principal ∙ begins.principal; namespace = there; verb = verb.1 })

      pub passed_more : (o : Option Text) → AnswersNextNamespace p asking from o → ((found : Text) → o ≡ Some found → text_cmp x found ≡ Less) → PassesNamespaces p u asking from at (place past.principal (past.namespace + 1) 0)
      passed_more o next before =
          let some_verb = some_line in
          let own = line asking x some_verb.0 in
          let to = place past.principal (past.namespace + 1) 0 in
          let later = begins.later past.namespace x still_on there in
          let over = namespace_over u past own some_verb.1 in
          let fewer = fewer_after_namespace u past own some_verb.1 in
          let lines = verb_lines u asking past.verb x in
          record {
            principal = passed.principal;
            passes = record {
              between = passed.passes.between ++ lines;
              whole = passed.passes.whole ∙ ap (λ (ls : List LineView). passed.passes.between ++ ls) over ∙ sym (append_assoc passed.passes.between lines (lines_from u to));
              unnamed = λ m w. elim (Contains-append_cases passed.passes.between lines m w) [
                | inl v ↦ passed.passes.unnamed m v
                | inr v ↦
                    let f = contains_map (line asking x) (drop past.verb u.verbs) m v in
                    subst (IsUnnamed p asking from) f.2 (record { who = refl; later = later; unnamed = unnamed_before p asking from x o next before later })
              ];
            };
            moved = elim passed.moved [
              | inl same ↦ inr (refl, omega (arith, ap (λ (q : Place). q.namespace) same), omega (arith, fewer, ap (λ (q : Place). length (lines_from u q)) same))
              | inr on ↦ inr (refl, omega (arith, on.1), omega (arith, fewer, on.2))
            ];
          }

-- if a principal has no grants that may be live in one namespace, it has none in a namespace where
-- no RoleBinding names it
rowless_each : (h : Held) (u : UniverseView) (ls : List LineView) → ((l : LineView) → Contains ls l → AreRowsOf h (line_cells_from u 0 l) []) → AreRowsOf h (flat_map (line_cells_from u 0) ls) []
rowless_each h u [] each = refl
rowless_each h u (l ∷ ls) each = rows_append h (line_cells_from u 0 l) (flat_map (line_cells_from u 0) ls) [] [] (each l (first l ls)) (rowless_each h u ls (λ m w. each m (suc w.0, omega (arith, w.1), w.2)))

live_or_here : (own : Option Text) (namespace : Text) → LiveForSome own namespace → (own ≡ None) ⊎ (own ≡ Some namespace)
live_or_here None namespace live = inl refl
live_or_here (Some n) namespace live = inr (ap (λ (t : Text). Some t) live.1)

bound_by_cluster : (p : PolicyView) (l m : LineView) (k : ℕ) (c : IsCursorAt p m k) → m.who ≡ l.who → c.grant.binding.namespace ≡ None → IsBoundOn p l k
unfolding IsBoundOn
bound_by_cluster p l m k c same none = (c.grant, c.at, subst (BindingNames c.grant.binding) same c.is.1, subst (λ (o : Option Text). LiveForSome o l.namespace) (sym none) tt)

pub skips_unnamed : (p : PolicyView) → IsPolicy p → (u : UniverseView) (from : Text) (at to : Place) (l : LineView) → ((k : ℕ) → IsBoundOn p l k → ⊥) → PassesUnnamed p u l.who from at to → Skips p.held u at to
skips_unnamed p policy u from at to l idle passes = record {
  between = passes.between;
  whole = passes.whole;
  none = rowless_each p.held u passes.between (λ m w. no_cursors p u m policy (λ k c.
      let is = passes.unnamed m w in
      elim (live_or_here c.grant.binding.namespace m.namespace c.is.2) [
        | inl none ↦ idle k (bound_by_cluster p l m k c is.who none)
        | inr own ↦ is.unnamed (k, c.grant, c.at, subst (BindingNames c.grant.binding) is.who c.is.1, own)
      ]));
}
