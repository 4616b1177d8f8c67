-- verbs that no cursor of a principal in a namespace has
use Rattle.std.proofs.Common.{◌≡◌, ℕ, zero, suc, ◌+◌, ◌<◌, ◌≤◌, ◌⊎◌, ◌↔◌, List, [], ◌∷◌, length, refl, ◌∙◌, sym, ap, arith, subst, inl, inr}
use Rattle.std.specs.Prelude.{Any, Some, codes, slice_get}
use Rattle.std.proofs.lemmas.Bool.{cases_lt}
use Rattle.std.proofs.lemmas.Cmp.{nat_list_cmp_total}
use Rattle.std.proofs.lemmas.Option.{get_or_from_slice_get, same_Some, slice_get-get_or, slice_get_within}
use Rattle.rbac_terms.specs.Text.{Text, text_cmp}
use Rattle.rbac_terms.specs.Principals.{Who}
use Rattle.rbac_terms.specs.Matching.{VerbOk, WordMatches}
use Rattle.rbac_terms.specs.declared.matching.Rule.{Rule}
use Rattle.rbac_terms.proofs.Reading.{read_some}
use Rattle.rbac_model.specs.Lists.{IsAscendingBy}
use Rattle.rbac_model.specs.Policies.{GrantView, PolicyView, IsPolicy}
use Rattle.rbac_model.specs.Universes.{UniverseView}
use Rattle.rbac_matrix.specs.Lines.{LineView, line, lines_from, place}
use Rattle.rbac_matrix.specs.Cursors.{AreRunsAt, AreRunsOf, AreVerbs, IsCursorAt, IsNextBound, ServeBare}
use Rattle.rbac_matrix.specs.Starting.{IsFoundAt, IsGapAt}
use Rattle.rbac_model.specs.Graphs.{HasPlace}
use Rattle.rbac_matrix.specs.VerbPlaces.{AddsVerbs, IsRoom, LacksPlace}
use Rattle.rbac_matrix.specs.declared.bound_runs.Runs.{Runs}
use Rattle.rbac_matrix.specs.declared.line.Place.{Place}
use Rattle.rbac_matrix.specs.declared.walk.Walk.{Walk}
use Rattle.rbac_matrix.specs.Metering.{Skips}
use Rattle.rbac_matrix.proofs.LineLemmas.{no_cursors}
use Rattle.rbac_matrix.proofs.LinesLemmas.{line_here}
use Rattle.rbac_matrix.proofs.PassLemmas.{same_head}
use Rattle.rbac_matrix.proofs.EnumLemmas.{skips_line, skips_same, skips_then}
use Rattle.rbac_matrix.proofs.SearchLemmas.{by_text, found_alone, gap_absent}
use Rattle.rbac_matrix.proofs.WalkLemmas.{comes_on, other_verb}

module _ (p : PolicyView) (u : UniverseView) (who : Who) (namespace : Text) (words : List ℕ) (are : AreVerbs p u who namespace words) where
  module _ (policy : IsPolicy p) (at n : ℕ) (who_at : slice_get u.principals at ≡ Some who) (namespace_at : slice_get u.namespaces n ≡ Some namespace) where
    one : (v : ℕ) → v < length u.verbs → LacksPlace words v → Skips p.held u (place at n v) (place at n (v + 1)) × (length (lines_from u (place at n v)) ≡ length (lines_from u (place at n (v + 1))) + 1)
    one v within lacks =
        let verb = read_some u.verbs v within in
        let e = line_here u (place at n v) (line who namespace verb.0) (record { principal = who_at; namespace = namespace_at; verb = verb.1 }) in
        (skips_line p.held u (place at n v) (place at n (v + 1)) (line who namespace verb.0) e (no_cursors p u (line who namespace verb.0) policy (are v verb.0 verb.1 lacks)), let few = ap length e in omega arith)

    -- the lines of verbs that the set lacks have no rows
    pub verbs_over : (m v : ℕ) → v + m ≤ length u.verbs → ((w : ℕ) → v ≤ w → w < v + m → LacksPlace words w) → Skips p.held u (place at n v) (place at n (v + m)) × (length (lines_from u (place at n v)) ≡ length (lines_from u (place at n (v + m))) + m)
    verbs_over zero v within lacks = let e : v + 0 ≡ v = omega arith in rw e (skips_same p.held u (place at n v) (place at n v) refl, omega arith)
    verbs_over (suc m) v within lacks =
        let e : v + suc m ≡ v + m + 1 = omega arith in
        let first = verbs_over m v (omega arith) (λ w low high. lacks w low (omega arith)) in
        let last = one (v + m) (omega arith) (lacks (v + m) (omega arith) (omega arith)) in
        rw e (skips_then p.held u (place at n v) (place at n (v + m)) (place at n (v + m + 1)) first.0 last.0, omega (arith, first.1, last.1))

-- the runs of a line at its place
pub runs_here : (p : PolicyView) (u : UniverseView) (at : Place) (l : LineView) (ls : List LineView) (runs : Runs) → lines_from u at ≡ l ∷ ls → AreRunsOf p u l runs → ServeBare p u l.who runs → AreRunsAt p u at runs
runs_here p u at l ls runs here are bare m ms other = subst (λ (x : LineView). AreRunsOf p u x runs × ServeBare p u x.who runs) (same_head l m ls ms (sym here ∙ other)) (are, bare)

-- the new set also has the verbs of the first `n` words of a rule
pub record AddsFirst (n : ℕ) (ws verbs : List Text) (old new : List ℕ) : Type 0 where
  pub room : length new ≡ length old
  pub kept : (place : ℕ) → IsRoom old place → HasPlace old place → HasPlace new place
  pub more : (place k : ℕ) (verb w : Text) → IsRoom old place → slice_get verbs place ≡ Some verb → k < n → slice_get ws k ≡ Some w → WordMatches w verb → HasPlace new place

module _ (ws verbs : List Text) (old : List ℕ) where
  pub adds_none : AddsFirst 0 ws verbs old old
  adds_none = record { room = refl; kept = λ place within has. has; more = λ place k verb w within at lt. absurd (omega (arith, lt)) }

  -- all words were added
  pub adds_all : (r : Rule) (n : ℕ) (new : List ℕ) → ws ≡ r.verbs → length ws ≤ n → AddsFirst n ws verbs old new → AddsVerbs r verbs old new
  adds_all r n new is all adds = record {
    room = omega (arith, adds.room);
    kept = λ place within has. adds.kept place (omega (arith, within, adds.room)) has;
    more = λ place verb within at ok.
        let here = subst (λ (l : List Text). Any (λ w. WordMatches w verb) l) (sym is) ok in
        adds.more place here.0 verb here.1 (omega (arith, within, adds.room)) at (omega (arith, here.2)) (slice_get-get_or ws here.0 here.1 here.2 ∙ ap (λ (t : Text). Some t) here.3) here.4;
  }

  module _ (up : IsAscendingBy (λ w. w ∷ []) verbs) (n : ℕ) (mid new : List ℕ) (adds : AddsFirst n ws verbs old mid) (w : Text) (at_n : slice_get ws n ≡ Some w) (plain : w ≡ codes "*" → ⊥) where
    same : (k : ℕ) (verb v : Text) → k < n + 1 → n ≤ k → slice_get ws k ≡ Some v → WordMatches v verb → verb ≡ w
    same k verb v lt here at_k ok =
        let e : k ≡ n = omega arith in
        let word : v ≡ w = same_Some v w (sym (rw e at at_k) ∙ at_n) in
        elim ok [ inl star ↦ absurd (plain (sym word ∙ star)) | inr is ↦ sym is ∙ word ]

    -- one more word is added: a verb of the universe, at this place
    pub adds_found : (i : ℕ) → IsFoundAt text_cmp (λ x. x) verbs w i → ((place : ℕ) → IsRoom mid place → HasPlace new place ↔ ((place ≡ i) ⊎ HasPlace mid place)) → length new ≡ length mid → AddsFirst (n + 1) ws verbs old new
    adds_found i found is room = record {
      room = room ∙ adds.room;
      kept = λ place within has. (is place (omega (arith, within, adds.room))).1 (inr (adds.kept place within has));
      more = λ place k verb v within at lt at_k ok. (is place (omega (arith, within, adds.room))).1 (elim (cases_lt k n) [
        | inl before ↦ inr (adds.more place k verb v within at before at_k ok)
        | inr here ↦ inl (found_alone text_cmp nat_list_cmp_total (λ x. x) verbs (by_text (λ x. x) verbs up) w i found place verb at (same k verb v lt here at_k ok))
      ]);
    }

    -- one more word is no verb of the universe
    pub adds_other : (i : ℕ) → IsGapAt text_cmp (λ x. x) verbs w i → AddsFirst (n + 1) ws verbs old mid
    adds_other i gap = record {
      room = adds.room;
      kept = adds.kept;
      more = λ place k verb v within at lt at_k ok. elim (cases_lt k n) [
        | inl before ↦ adds.more place k verb v within at before at_k ok
        | inr here ↦ absurd (gap_absent text_cmp nat_list_cmp_total (λ x. x) verbs (by_text (λ x. x) verbs up) w i gap verb (place, slice_get_within verbs place verb at, get_or_from_slice_get verbs place verb verb at) (same k verb v lt here at_k ok))
      ];
    }

-- a place that the set didn't lack isn't lacking later
pub still_had : (r : Rule) (verbs : List Text) (old new : List ℕ) → AddsVerbs r verbs old new → (before after : ℕ) → ((at : ℕ) → at < before → LacksPlace old at → ⊥) → ((at : ℕ) → before ≤ at → at < after → LacksPlace new at → ⊥) → (at : ℕ) → at < after → LacksPlace new at → ⊥
still_had r verbs old new adds before after had later at lt lacks = elim (cases_lt at before) [
  | inl first ↦ had at first (omega (arith, lacks.0, adds.room), λ has. lacks.1 (adds.kept at lacks.0 has))
  | inr from ↦ later at from lt lacks
]

-- one more grant of the line was looked at: what the set lacks now it lacked before, and the grant
-- doesn't have that verb
pub passes_grant : (p : PolicyView) (u : UniverseView) (l : LineView) (old new : List ℕ) (w v : Walk) (number : ℕ) (g : GrantView) → IsNextBound p l w v number → slice_get p.grants number ≡ Some g → AddsVerbs g.rule.rule u.verbs old new
    → ((at : ℕ) (verb : Text) → slice_get u.verbs at ≡ Some verb → LacksPlace old at → (k : ℕ) → IsCursorAt p (line l.who l.namespace verb) k → w.next ≤ k)
    → (at : ℕ) (verb : Text) → slice_get u.verbs at ≡ Some verb → LacksPlace new at → (k : ℕ) → IsCursorAt p (line l.who l.namespace verb) k → v.next ≤ k
passes_grant p u l old new w v number g step at_number adds before at verb is lacks k c =
    let here = before at verb is (omega (arith, lacks.0, adds.room), λ has. lacks.1 (adds.kept at lacks.0 has)) k c in
    elim (comes_on p (line l.who l.namespace verb) w v number (other_verb p l verb w v number step.0) k (c, here)) [
      | inl e ↦
          let same : c.grant ≡ g = same_Some c.grant g (sym (rw e at c.at) ∙ at_number) in
          absurd (lacks.1 (adds.more at verb lacks.0 is (subst (λ (x : GrantView). VerbOk x.rule.rule verb) same c.is.0)))
      | inr later ↦ later.1
    ]
