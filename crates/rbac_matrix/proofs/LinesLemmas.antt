-- the lines of a universe from a place on
use Rattle.std.proofs.Common.{◌≡◌, ℕ, ◌+◌, ◌<◌, ◌≤◌, List, [], ◌∷◌, ◌++◌, length, get_or, drop, refl, ap, ◌∙◌, sym, arith, inl, inr, add-one}
use Rattle.std.specs.Prelude.{Some, slice_get}
use Rattle.std.specs.List.{flat_map}
use Rattle.std.proofs.Math.Seq.{drop-cons}
use Rattle.std.proofs.lemmas.List.{drop_all}
use Rattle.std.proofs.lemmas.Bool.{cases_lt}
use Rattle.std.proofs.lemmas.Option.{get_or_from_slice_get, slice_get-get_or, slice_get_within}
use Rattle.rbac_terms.specs.Text.{Text}
use Rattle.rbac_terms.specs.Principals.{Who}
use Rattle.rbac_terms.proofs.Reading.{read_some}
use Rattle.rbac_model.specs.Universes.{UniverseView}
use Rattle.rbac_matrix.specs.declared.line.Place.{Place}
use Rattle.rbac_matrix.specs.Lines.{IsLineAt, IsSettled, LineView, line, lines_from, namespace_lines, next_verb, onward, place, verb_lines}

pub drop_at : {A : Type 0} (xs : List A) (i : ℕ) (x : A) → slice_get xs i ≡ Some x → drop i xs ≡ x ∷ drop (i + 1) xs
drop_at xs i x at =
    let lt : i < length xs = slice_get_within xs i x at in
    let e : get_or xs i x ≡ x = get_or_from_slice_get xs i x x at in
    rw (add-one, drop-cons xs i x lt, e) refl

-- an element that is read at a place within a list is the element there
pub read : {X : Type 0} (xs ys : List X) (i : ℕ) (x : X) → xs ≡ ys → i < length xs → ((d : X) → x ≡ get_or xs i d) → slice_get ys i ≡ Some x
read {X} xs ys i x e lt at = ap (λ (l : List X). slice_get l i) (sym e) ∙ slice_get-get_or xs i x lt ∙ ap (λ (y : X). Some y) (sym (at x))

module _ {A B : Type 0} where
  pub onward_whole : (g : A → List B) (xs : List A) → onward g g xs ≡ flat_map g xs
  onward_whole g [] = refl
  onward_whole g (x ∷ xs) = refl

  pub onward_at : (f g : A → List B) (xs : List A) (i : ℕ) (x : A) → slice_get xs i ≡ Some x → onward f g (drop i xs) ≡ f x ++ onward g g (drop (i + 1) xs)
  onward_at f g xs i x at = rw (drop_at xs i x at) (ap (λ (l : List B). f x ++ l) (sym (onward_whole g (drop (i + 1) xs))))

  pub onward_over : (f g : A → List B) (xs : List A) (i : ℕ) → length xs ≤ i → onward f g (drop i xs) ≡ []
  onward_over f g xs i h = rw (drop_all i xs h) refl

  flat_none : (g : A → List B) → ((x : A) → g x ≡ []) → (xs : List A) → flat_map g xs ≡ []
  flat_none g none [] = refl
  flat_none g none (x ∷ xs) = rw (none x) (flat_none g none xs)

  pub onward_none : (f g : A → List B) → ((x : A) → f x ≡ []) → ((x : A) → g x ≡ []) → (xs : List A) → onward f g xs ≡ []
  onward_none f g first whole [] = refl
  onward_none f g first whole (x ∷ xs) = rw (first x) (flat_none g whole xs)

module _ (u : UniverseView) where
  pub verbs_at : (who : Who) (ns : Text) (v : ℕ) (verb : Text) → slice_get u.verbs v ≡ Some verb → verb_lines u who v ns ≡ line who ns verb ∷ verb_lines u who (v + 1) ns
  verbs_at who ns v verb at = rw (drop_at u.verbs v verb at) refl

  pub verbs_over : (who : Who) (ns : Text) (v : ℕ) → length u.verbs ≤ v → verb_lines u who v ns ≡ []
  verbs_over who ns v h = rw (drop_all v u.verbs h) refl

  pub namespaces_at : (who : Who) (n v : ℕ) (ns : Text) → slice_get u.namespaces n ≡ Some ns → namespace_lines u n v who ≡ verb_lines u who v ns ++ namespace_lines u (n + 1) 0 who
  namespaces_at who n v ns at = onward_at (verb_lines u who v) (verb_lines u who 0) u.namespaces n ns at

  pub namespaces_over : (who : Who) (n v : ℕ) → length u.namespaces ≤ n → namespace_lines u n v who ≡ []
  namespaces_over who n v h = onward_over (verb_lines u who v) (verb_lines u who 0) u.namespaces n h

  pub lines_of_principal : (p n v : ℕ) (who : Who) → slice_get u.principals p ≡ Some who → lines_from u (place p n v) ≡ namespace_lines u n v who ++ lines_from u (place (p + 1) 0 0)
  unfolding lines_from
  lines_of_principal p n v who at = onward_at (namespace_lines u n v) (namespace_lines u 0 0) u.principals p who at

  pub lines_over : (p n v : ℕ) → length u.principals ≤ p → lines_from u (place p n v) ≡ []
  unfolding lines_from
  lines_over p n v h = onward_over (namespace_lines u n v) (namespace_lines u 0 0) u.principals p h

  -- the line at a place comes first, then the lines from the next verb on
  pub line_first : (p n v : ℕ) (who : Who) (ns verb : Text) → slice_get u.principals p ≡ Some who → slice_get u.namespaces n ≡ Some ns → slice_get u.verbs v ≡ Some verb → lines_from u (place p n v) ≡ line who ns verb ∷ lines_from u (place p n (v + 1))
  line_first p n v who ns verb a b c =
      let now : namespace_lines u n v who ≡ line who ns verb ∷ namespace_lines u n (v + 1) who =
      namespaces_at who n v ns b ∙ ap (λ (l : List LineView). l ++ namespace_lines u (n + 1) 0 who) (verbs_at who ns v verb c) ∙ ap (λ (l : List LineView). line who ns verb ∷ l) (sym (namespaces_at who n (v + 1) ns b)) in
      lines_of_principal p n v who a ∙ ap (λ (l : List LineView). l ++ lines_from u (place (p + 1) 0 0)) now ∙ ap (λ (l : List LineView). line who ns verb ∷ l) (sym (lines_of_principal p n (v + 1) who a))

  pub line_here : (at : Place) (l : LineView) → IsLineAt u at l → lines_from u at ≡ l ∷ lines_from u (next_verb at)
  line_here at l here = line_first at.principal at.namespace at.verb l.who l.namespace l.verb here.principal here.namespace here.verb

  -- past the last verb, the lines are those of the next namespace; past the last namespace, those
  -- of the next principal
  pub after_verbs_same : (p n v : ℕ) → n < length u.namespaces → length u.verbs ≤ v → lines_from u (place p (n + 1) 0) ≡ lines_from u (place p n v)
  after_verbs_same p n v lt over = elim (cases_lt p (length u.principals)) [
    | inl within ↦
        let who = read_some u.principals p within in
        let ns = read_some u.namespaces n lt in
        let now : namespace_lines u n v who.0 ≡ namespace_lines u (n + 1) 0 who.0 =
        namespaces_at who.0 n v ns.0 ns.1 ∙ ap (λ (l : List LineView). l ++ namespace_lines u (n + 1) 0 who.0) (verbs_over who.0 ns.0 v over) in
        lines_of_principal p (n + 1) 0 who.0 who.1 ∙ ap (λ (l : List LineView). l ++ lines_from u (place (p + 1) 0 0)) (sym now) ∙ sym (lines_of_principal p n v who.0 who.1)
    | inr past ↦ lines_over p (n + 1) 0 past ∙ sym (lines_over p n v past)
  ]

  pub after_namespaces_same : (p n v : ℕ) → p < length u.principals → length u.namespaces ≤ n → lines_from u (place (p + 1) 0 0) ≡ lines_from u (place p n v)
  after_namespaces_same p n v lt over =
      let who = read_some u.principals p lt in
      sym (lines_of_principal p n v who.0 who.1 ∙ ap (λ (l : List LineView). l ++ lines_from u (place (p + 1) 0 0)) (namespaces_over who.0 n v over))

  -- without namespaces or verbs there are no lines
  pub no_verbs : (at : Place) → length u.verbs ≤ 0 → lines_from u at ≡ []
  unfolding lines_from
  no_verbs at e =
      let none : (who : Who) (v : ℕ) (ns : Text) → verb_lines u who v ns ≡ [] = λ who v ns. verbs_over who ns v (omega arith) in
      let each : (n v : ℕ) (who : Who) → namespace_lines u n v who ≡ [] = λ n v who. onward_none (verb_lines u who v) (verb_lines u who 0) (none who v) (none who 0) (drop n u.namespaces) in
      onward_none (namespace_lines u at.namespace at.verb) (namespace_lines u 0 0) (each at.namespace at.verb) (each 0 0) (drop at.principal u.principals)

  pub no_namespaces : (at : Place) → length u.namespaces ≤ 0 → lines_from u at ≡ []
  unfolding lines_from
  no_namespaces at e =
      let each : (n v : ℕ) (who : Who) → namespace_lines u n v who ≡ [] = λ n v who. namespaces_over who n v (omega arith) in
      onward_none (namespace_lines u at.namespace at.verb) (namespace_lines u 0 0) (each at.namespace at.verb) (each 0 0) (drop at.principal u.principals)

  pub settled_place : (p n v : ℕ) → (p < length u.principals → (n < length u.namespaces) × (v < length u.verbs)) → IsSettled u (place p n v)
  settled_place p n v within = elim (cases_lt p (length u.principals)) [
    | inl lt ↦ let w = within lt in inl (lt, w.0, w.1)
    | inr past ↦ inr (lines_over p n v past)
  ]
