-- where the requests after a key begin, and their rows
use Rattle.std.proofs.Common.{◌≡◌, ℕ, ◌+◌, Bool, true, false, List, [], ◌∷◌, ◌++◌, map, take, drop, Contains, filter, Less, Equal, Greater, Ordering, refl, ap, ◌∙◌, sym, arith, subst, inl, inr, append_assoc}
use Rattle.std.specs.Prelude.{Option, Some, None, slice_get}
use Rattle.std.specs.List.{flat_map}
use Rattle.std.specs.Ordering.{is_gt}
use Rattle.std.specs.Cmp.Lexicographic.{slice_cmp}
use Rattle.std.proofs.lemmas.Grind.{flat_map-append}
use Rattle.std.proofs.lemmas.List.{map-append, take-append-drop}
use Rattle.std.proofs.lemmas.Option.{slice_get_within}
use Rattle.std.proofs.lemmas.List.Elements.{Contains-append_cases, Contains-append_left, Contains-append_right, filter-append}
use Rattle.std.proofs.lemmas.Map.Lookups.{exact_bytes}
use Rattle.rbac_terms.specs.Text.{Text, text_cmp}
use Rattle.rbac_terms.specs.Principals.{Who, who_key}
use Rattle.rbac_terms.specs.Keys.{KeyTexts, key_cmp, texts}
use Rattle.rbac_model.specs.Policies.{Held}
use Rattle.rbac_model.specs.Universes.{UniverseView, IsUniverse, Cell, RowView, cell_key, rows_after, target_texts}
use Rattle.rbac_universe.proofs.Flattened.{contains_flat, contains_map, here, there}
use Rattle.rbac_matrix.specs.Cells.{AreRowsOf, cell_at, cells_of, line_cells, namespace_cells, principal_cells}
use Rattle.rbac_matrix.specs.Lines.{IsSettled, LineView, cells_of_lines, line, line_cells_from, lines_from, namespace_lines, place, verb_lines}
use Rattle.rbac_matrix.specs.Passing.{cells_left}
use Rattle.rbac_matrix.specs.Starting.{IsAfter, IsFoundAt, IsGapAt, IsOwnLine, IsOwnPlace, IsStart, IsTargetPlace, cell_name, target_part}
use Rattle.rbac_matrix.specs.declared.line.Place.{Place}
use Rattle.rbac_matrix.proofs.Orders.{first_greater, first_less, first_tied, greater, is_greater, not_greater}
use Rattle.rbac_matrix.proofs.Product.{in_cells, in_line, in_namespace, in_principal, key_texts}
use Rattle.rbac_matrix.proofs.RowLemmas.{rows_sound, rows_split}
use Rattle.rbac_matrix.proofs.LinesLemmas.{drop_at, line_first, lines_of_principal, namespaces_at, onward_whole}

-- ---- the rows after a key

is_false : (b : Bool) → (b ≡ true → ⊥) → b ≡ false
is_false true h = absurd (h refl)
is_false false h = refl

pub filter_none : {X : Type 0} (q : X → Bool) (xs : List X) → ((x : X) → Contains xs x → q x ≡ true → ⊥) → filter q xs ≡ []
filter_none q [] none = refl
filter_none q (x ∷ xs) none = rw (is_false (q x) (none x (here x xs))) (filter_none q xs (λ y w. none y (there x xs y w)))

pub filter_all : {X : Type 0} (q : X → Bool) (xs : List X) → ((x : X) → Contains xs x → q x ≡ true) → filter q xs ≡ xs
filter_all q [] all = refl
filter_all {X} q (x ∷ xs) all = rw (all x (here x xs)) (ap (λ (rest : List X). x ∷ rest) (filter_all q xs (λ y w. all y (there x xs y w))))

-- a row comes after the key if its request does
abbrev pub RowAfter : Option KeyTexts → RowView → Type 0
RowAfter None r = Unit {0}
RowAfter (Some k) r = is_gt (key_cmp (cell_key r.cell) k) ≡ true

pub after_row : (k : Option KeyTexts) (r : RowView) → texts (cell_key r.cell) ≡ cell_name r.cell → IsAfter k r.cell → RowAfter k r
after_row None r e after = tt
after_row (Some k) r e after = is_greater (key_cmp (cell_key r.cell) k) (ap (λ (n : List Text). slice_cmp text_cmp n (texts k)) e ∙ after)

pub row_after : (k : Option KeyTexts) (r : RowView) → texts (cell_key r.cell) ≡ cell_name r.cell → RowAfter k r → IsAfter k r.cell
row_after None r e after = tt
row_after (Some k) r e after = ap (λ (n : List Text). slice_cmp text_cmp n (texts k)) (sym e) ∙ greater (key_cmp (cell_key r.cell) k) after

all_rows : (k : Option KeyTexts) (rs ss : List RowView) → ((r : RowView) → Contains rs r → RowAfter k r → ⊥) → ((r : RowView) → Contains ss r → RowAfter k r) → rows_after k (rs ++ ss) ≡ ss
all_rows None [] ss early late = refl
all_rows None (r ∷ rs) ss early late = absurd (early r (here r rs) tt)
all_rows (Some k) rs ss early late =
    let q : RowView → Bool = λ row. is_gt (key_cmp (cell_key row.cell) k) in
    filter-append q rs ss ∙ rw (filter_none q rs early, filter_all q ss late) refl

-- the rows of the requests that are left from the start are the rows after the key
pub start_rows : (h : Held) (u : UniverseView) → IsUniverse u → (k : Option KeyTexts) (at : Place) (from : ℕ) (rows : List RowView) → IsStart u k at from → AreRowsOf h (cells_of u) rows → AreRowsOf h (cells_left u at from) (rows_after k rows)
start_rows h u is k at from rows s are =
    let left = cells_left u at from in
    let split = rows_split h s.before left rows (subst (λ (cs : List Cell). AreRowsOf h cs rows) s.whole are) in
    let same : rows_after k rows ≡ split.1 = ap (rows_after k) split.4 ∙ all_rows k split.0 split.1
    (λ r w after.
    let has = rows_sound h s.before split.0 split.2 r w in
    let name = key_texts u r.cell is (in_cells u r.cell (rw s.whole (Contains-append_left s.before left r.cell has.0))) has.1.0 in
    s.early r.cell has.0 (row_after k r name after))
    (λ r w.
    let has = rows_sound h left split.1 split.3 r w in
    let name = key_texts u r.cell is (in_cells u r.cell (rw s.whole (Contains-append_right s.before left r.cell has.0))) has.1.0 in
    after_row k r name (s.late r.cell has.0)) in
    subst (λ (rs : List RowView). AreRowsOf h left rs) (sym same) split.3

-- ---- requests before and after a cut

pub record Cut (O : Cell → Ordering) (cs before left : List Cell) : Type 0 where
  pub whole : cs ≡ before ++ left
  pub early : (c : Cell) → Contains before c → O c ≡ Greater → ⊥
  pub late : (c : Cell) → Contains left c → O c ≡ Greater

module _ {X : Type 0} (O : Cell → Ordering) (f : X → List Cell) (xs : List X) where
  pub cut_gap : (i : ℕ) → ((x : X) → Contains (take i xs) x → (c : Cell) → Contains (f x) c → O c ≡ Less) → ((x : X) → Contains (drop i xs) x → (c : Cell) → Contains (f x) c → O c ≡ Greater) → Cut O (flat_map f xs) (flat_map f (take i xs)) (flat_map f (drop i xs))
  cut_gap i below above = record {
    whole = ap (flat_map f) (sym (take-append-drop i xs)) ∙ flat_map-append f (take i xs) (drop i xs);
    early = λ c w. let r = contains_flat f (take i xs) c w in not_greater (O c) (below r.0 r.1 c r.2);
    late = λ c w. let r = contains_flat f (drop i xs) c w in above r.0 r.1 c r.2;
  }

  pub whole_found : (i : ℕ) (x : X) (before left : List Cell) → slice_get xs i ≡ Some x → f x ≡ before ++ left → flat_map f xs ≡ (flat_map f (take i xs) ++ before) ++ (left ++ flat_map f (drop (i + 1) xs))
  whole_found i x before left at whole =
      let parts : flat_map f xs ≡ flat_map f (take i xs) ++ flat_map f (drop i xs) = ap (flat_map f) (sym (take-append-drop i xs)) ∙ flat_map-append f (take i xs) (drop i xs) in
      let rest : flat_map f (drop i xs) ≡ f x ++ flat_map f (drop (i + 1) xs) = ap (flat_map f) (drop_at xs i x at) in
      parts ∙ ap (λ (cs : List Cell). flat_map f (take i xs) ++ cs) (rest ∙ ap (λ (cs : List Cell). cs ++ flat_map f (drop (i + 1) xs)) whole ∙ append_assoc before left (flat_map f (drop (i + 1) xs)))
      ∙ sym (append_assoc (flat_map f (take i xs)) before (left ++ flat_map f (drop (i + 1) xs)))

  pub cut_found : (P : Cell → Ordering) (i : ℕ) (x : X) (before left : List Cell) → slice_get xs i ≡ Some x → ((y : X) → Contains (take i xs) y → (c : Cell) → Contains (f y) c → O c ≡ Less) → ((y : X) → Contains (drop (i + 1) xs) y → (c : Cell) → Contains (f y) c → O c ≡ Greater) → ((c : Cell) → Contains (f x) c → O c ≡ P c) → Cut P (f x) before left → Cut O (flat_map f xs) (flat_map f (take i xs) ++ before) (left ++ flat_map f (drop (i + 1) xs))
  cut_found P i x before left at below above same cut = record {
    whole = whole_found i x before left at cut.whole;
    early = λ c w. elim (Contains-append_cases (flat_map f (take i xs)) before c w) [
      | inl a ↦ let r = contains_flat f (take i xs) c a in not_greater (O c) (below r.0 r.1 c r.2)
      | inr b ↦ λ g. cut.early c b (sym (same c (rw cut.whole (Contains-append_left before left c b))) ∙ g)
    ];
    late = λ c w. elim (Contains-append_cases left (flat_map f (drop (i + 1) xs)) c w) [
      | inl a ↦ same c (rw cut.whole (Contains-append_right before left c a)) ∙ cut.late c a
      | inr b ↦ let r = contains_flat f (drop (i + 1) xs) c b in above r.0 r.1 c r.2
    ];
  }

-- ---- how requests compare to a key: whole, and from the namespace, verb or target on

module _ (k : KeyTexts) where
  abbrev pub by_all : Cell → Ordering
  by_all c = slice_cmp text_cmp (cell_name c) (texts k)

  abbrev pub by_namespace : Cell → Ordering
  by_namespace c = slice_cmp text_cmp (c.namespace ∷ c.verb ∷ target_texts c.target) (k.namespace ∷ k.verb ∷ target_part k)

  abbrev pub by_verb : Cell → Ordering
  by_verb c = slice_cmp text_cmp (c.verb ∷ target_texts c.target) (k.verb ∷ target_part k)

  abbrev pub by_target : Cell → Ordering
  by_target c = slice_cmp text_cmp (target_texts c.target) (target_part k)

-- ---- the requests that are left, by principal, namespace, verb and target

flat_same : {X Y : Type 0} (f g : X → List Y) → ((x : X) → f x ≡ g x) → (xs : List X) → flat_map f xs ≡ flat_map g xs
flat_same f g e [] = refl
flat_same f g e (x ∷ xs) = rw (e x, flat_same f g e xs) refl

flat_flat : {X Y Z : Type 0} (g : Y → List Z) (f : X → List Y) (xs : List X) → flat_map g (flat_map f xs) ≡ flat_map (λ x. flat_map g (f x)) xs
flat_flat g f [] = refl
flat_flat g f (x ∷ xs) = rw (flat_map-append g (f x) (flat_map f xs), flat_flat g f xs) refl

flat_of_map : {X Y Z : Type 0} (g : Y → List Z) (f : X → Y) (xs : List X) → flat_map g (map f xs) ≡ flat_map (λ x. g (f x)) xs
flat_of_map g f [] = refl
flat_of_map g f (x ∷ xs) = rw (flat_of_map g f xs) refl

module _ (u : UniverseView) where
  abbrev whole : LineView → List Cell
  whole = line_cells_from u 0

  pub verbs_flat : (who : Who) (ns : Text) (v : ℕ) → flat_map (line_cells_from u 0) (verb_lines u who v ns) ≡ flat_map (line_cells u who ns) (drop v u.verbs)
  unfolding line_cells_from
  verbs_flat who ns v = flat_of_map (line_cells_from u 0) (λ (w : Text). record { who = who; namespace = ns; verb = w }) (drop v u.verbs)

  pub names_flat : (who : Who) (n : ℕ) → flat_map (line_cells_from u 0) (namespace_lines u n 0 who) ≡ flat_map (namespace_cells u who) (drop n u.namespaces)
  names_flat who n =
      ap (flat_map (line_cells_from u 0)) (onward_whole (verb_lines u who 0) (drop n u.namespaces))
      ∙ flat_flat (line_cells_from u 0) (verb_lines u who 0) (drop n u.namespaces)
      ∙ flat_same (λ (ns : Text). flat_map (line_cells_from u 0) (verb_lines u who 0 ns)) (namespace_cells u who) (λ ns. verbs_flat who ns 0) (drop n u.namespaces)

  pub all_flat : (p : ℕ) → flat_map (line_cells_from u 0) (lines_from u (place p 0 0)) ≡ flat_map (principal_cells u) (drop p u.principals)
  unfolding lines_from
  all_flat p =
      ap (flat_map (line_cells_from u 0)) (onward_whole (namespace_lines u 0 0) (drop p u.principals))
      ∙ flat_flat (line_cells_from u 0) (namespace_lines u 0 0) (drop p u.principals)
      ∙ flat_same (λ (who : Who). flat_map (line_cells_from u 0) (namespace_lines u 0 0 who)) (principal_cells u) (λ who. names_flat who 0) (drop p u.principals)

  -- the requests from a principal, a namespace, a verb or a target on
  left_of_principal : (p : ℕ) → cells_left u (place p 0 0) 0 ≡ flat_map (principal_cells u) (drop p u.principals)
  left_of_principal p = onward_whole (line_cells_from u 0) (lines_from u (place p 0 0)) ∙ all_flat p

  left_of_namespace : (p n : ℕ) (who : Who) → slice_get u.principals p ≡ Some who → cells_left u (place p n 0) 0 ≡ flat_map (namespace_cells u who) (drop n u.namespaces) ++ flat_map (principal_cells u) (drop (p + 1) u.principals)
  left_of_namespace p n who a =
      onward_whole (line_cells_from u 0) (lines_from u (place p n 0)) ∙ ap (flat_map (line_cells_from u 0)) (lines_of_principal u p n 0 who a)
      ∙ flat_map-append (line_cells_from u 0) (namespace_lines u n 0 who) (lines_from u (place (p + 1) 0 0))
      ∙ rw (names_flat who n, all_flat (p + 1)) refl

  later_names : (p n v : ℕ) (who : Who) (ns : Text) → slice_get u.namespaces n ≡ Some ns → flat_map (line_cells_from u 0) (namespace_lines u n v who ++ lines_from u (place (p + 1) 0 0)) ≡ (flat_map (line_cells u who ns) (drop v u.verbs) ++ flat_map (namespace_cells u who) (drop (n + 1) u.namespaces)) ++ flat_map (principal_cells u) (drop (p + 1) u.principals)
  later_names p n v who ns b =
      flat_map-append (line_cells_from u 0) (namespace_lines u n v who) (lines_from u (place (p + 1) 0 0))
      ∙ ap (λ (cs : List Cell). cs ++ flat_map (line_cells_from u 0) (lines_from u (place (p + 1) 0 0)))
      (ap (flat_map (line_cells_from u 0)) (namespaces_at u who n v ns b) ∙ flat_map-append (line_cells_from u 0) (verb_lines u who v ns) (namespace_lines u (n + 1) 0 who))
      ∙ rw (verbs_flat who ns v, names_flat who (n + 1), all_flat (p + 1)) refl

  left_of_verb : (p n v : ℕ) (who : Who) (ns : Text) → slice_get u.principals p ≡ Some who → slice_get u.namespaces n ≡ Some ns → cells_left u (place p n v) 0 ≡ (flat_map (line_cells u who ns) (drop v u.verbs) ++ flat_map (namespace_cells u who) (drop (n + 1) u.namespaces)) ++ flat_map (principal_cells u) (drop (p + 1) u.principals)
  left_of_verb p n v who ns a b =
      onward_whole (line_cells_from u 0) (lines_from u (place p n v)) ∙ ap (flat_map (line_cells_from u 0)) (lines_of_principal u p n v who a) ∙ later_names p n v who ns b

  line_cells_are : (from : ℕ) (l : LineView) → line_cells_from u from l ≡ map (cell_at l.who l.namespace l.verb) (drop from u.targets)
  unfolding line_cells_from
  line_cells_are from l = refl

  pub left_of_target : (p n v from : ℕ) (who : Who) (ns verb : Text) → slice_get u.principals p ≡ Some who → slice_get u.namespaces n ≡ Some ns → slice_get u.verbs v ≡ Some verb → cells_left u (place p n v) from ≡ ((map (cell_at who ns verb) (drop from u.targets) ++ flat_map (line_cells u who ns) (drop (v + 1) u.verbs)) ++ flat_map (namespace_cells u who) (drop (n + 1) u.namespaces)) ++ flat_map (principal_cells u) (drop (p + 1) u.principals)
  left_of_target p n v from who ns verb a b c =
      ap (cells_of_lines u from) (line_first u p n v who ns verb a b c)
      ∙ ap (λ (cs : List Cell). line_cells_from u from (line who ns verb) ++ cs) (ap (flat_map (line_cells_from u 0)) (lines_of_principal u p n (v + 1) who a) ∙ later_names p n (v + 1) who ns b)
      ∙ rw (line_cells_are from (line who ns verb)) (
      sym (append_assoc (map (cell_at who ns verb) (drop from u.targets)) (flat_map (line_cells u who ns) (drop (v + 1) u.verbs) ++ flat_map (namespace_cells u who) (drop (n + 1) u.namespaces)) (flat_map (principal_cells u) (drop (p + 1) u.principals)))
      ∙ ap (λ (cs : List Cell). cs ++ flat_map (principal_cells u) (drop (p + 1) u.principals)) (sym (append_assoc (map (cell_at who ns verb) (drop from u.targets)) (flat_map (line_cells u who ns) (drop (v + 1) u.verbs)) (flat_map (namespace_cells u who) (drop (n + 1) u.namespaces))))
      )

  -- ---- the cuts

  module _ (k : KeyTexts) where
    at_who : (x : Who) (c : Cell) (o : Ordering) → Contains (principal_cells u x) c → text_cmp (who_key x) k.principal ≡ o → text_cmp (who_key c.who) k.principal ≡ o
    at_who x c o w e = rw ((in_principal u x c w).0) e

    at_namespace : (who : Who) (x : Text) (c : Cell) (o : Ordering) → Contains (namespace_cells u who x) c → text_cmp x k.namespace ≡ o → text_cmp c.namespace k.namespace ≡ o
    at_namespace who x c o w e = rw ((in_namespace u who x c w).1) e

    at_verb : (who : Who) (ns x : Text) (c : Cell) (o : Ordering) → Contains (line_cells u who ns x) c → text_cmp x k.verb ≡ o → text_cmp c.verb k.verb ≡ o
    at_verb who ns x c o w e = rw ((in_line u who ns x c w).2) e

    pub cut_targets : (who : Who) (ns verb : Text) (from : ℕ) → IsTargetPlace u k from → Cut (by_target k) (line_cells u who ns verb) (map (cell_at who ns verb) (take from u.targets)) (map (cell_at who ns verb) (drop from u.targets))
    cut_targets who ns verb from t = record {
      whole = ap (map (cell_at who ns verb)) (sym (take-append-drop from u.targets)) ∙ map-append (cell_at who ns verb) (take from u.targets) (drop from u.targets);
      early = λ c w. let r = contains_map (cell_at who ns verb) (take from u.targets) c w in subst (λ (x : Cell). by_target k x ≡ Greater → ⊥) r.2 (t.below r.0 r.1);
      late = λ c w. let r = contains_map (cell_at who ns verb) (drop from u.targets) c w in subst (λ (x : Cell). by_target k x ≡ Greater) r.2 (t.above r.0 r.1);
    }

    pub cut_verb_gap : (who : Who) (ns : Text) (v : ℕ) → IsGapAt text_cmp (λ w. w) u.verbs k.verb v → Cut (by_verb k) (namespace_cells u who ns) (flat_map (line_cells u who ns) (take v u.verbs)) (flat_map (line_cells u who ns) (drop v u.verbs))
    cut_verb_gap who ns v g = cut_gap (by_verb k) (line_cells u who ns) u.verbs v
        (λ x w c b. first_less (text_cmp c.verb k.verb) _ (at_verb who ns x c Less b (g.below x w)))
        (λ x w c b. first_greater (text_cmp c.verb k.verb) _ (at_verb who ns x c Greater b (g.above x w)))

    pub cut_verb : (who : Who) (ns : Text) (v : ℕ) (before left : List Cell) (f : IsFoundAt text_cmp (λ w. w) u.verbs k.verb v) → Cut (by_target k) (line_cells u who ns f.here.0) before left → Cut (by_verb k) (namespace_cells u who ns) (flat_map (line_cells u who ns) (take v u.verbs) ++ before) (left ++ flat_map (line_cells u who ns) (drop (v + 1) u.verbs))
    cut_verb who ns v before left f cut = cut_found (by_verb k) (line_cells u who ns) u.verbs (by_target k) v f.here.0 before left f.here.1
        (λ x w c b. first_less (text_cmp c.verb k.verb) _ (at_verb who ns x c Less b (f.below x w)))
        (λ x w c b. first_greater (text_cmp c.verb k.verb) _ (at_verb who ns x c Greater b (f.above x w)))
        (λ c b. first_tied (text_cmp c.verb k.verb) _ (at_verb who ns f.here.0 c Equal b f.here.2))
        cut

    pub cut_namespace_gap : (who : Who) (n : ℕ) → IsGapAt text_cmp (λ w. w) u.namespaces k.namespace n → Cut (by_namespace k) (principal_cells u who) (flat_map (namespace_cells u who) (take n u.namespaces)) (flat_map (namespace_cells u who) (drop n u.namespaces))
    cut_namespace_gap who n g = cut_gap (by_namespace k) (namespace_cells u who) u.namespaces n
        (λ x w c b. first_less (text_cmp c.namespace k.namespace) _ (at_namespace who x c Less b (g.below x w)))
        (λ x w c b. first_greater (text_cmp c.namespace k.namespace) _ (at_namespace who x c Greater b (g.above x w)))

    pub cut_namespace : (who : Who) (n : ℕ) (before left : List Cell) (f : IsFoundAt text_cmp (λ w. w) u.namespaces k.namespace n) → Cut (by_verb k) (namespace_cells u who f.here.0) before left → Cut (by_namespace k) (principal_cells u who) (flat_map (namespace_cells u who) (take n u.namespaces) ++ before) (left ++ flat_map (namespace_cells u who) (drop (n + 1) u.namespaces))
    cut_namespace who n before left f cut = cut_found (by_namespace k) (namespace_cells u who) u.namespaces (by_verb k) n f.here.0 before left f.here.1
        (λ x w c b. first_less (text_cmp c.namespace k.namespace) _ (at_namespace who x c Less b (f.below x w)))
        (λ x w c b. first_greater (text_cmp c.namespace k.namespace) _ (at_namespace who x c Greater b (f.above x w)))
        (λ c b. first_tied (text_cmp c.namespace k.namespace) _ (at_namespace who f.here.0 c Equal b f.here.2))
        cut

    pub cut_principal_gap : (p : ℕ) → IsGapAt text_cmp who_key u.principals k.principal p → Cut (by_all k) (cells_of u) (flat_map (principal_cells u) (take p u.principals)) (flat_map (principal_cells u) (drop p u.principals))
    cut_principal_gap p g = cut_gap (by_all k) (principal_cells u) u.principals p
        (λ x w c b. first_less (text_cmp (who_key c.who) k.principal) _ (at_who x c Less b (g.below x w)))
        (λ x w c b. first_greater (text_cmp (who_key c.who) k.principal) _ (at_who x c Greater b (g.above x w)))

    pub cut_principal : (p : ℕ) (before left : List Cell) (f : IsFoundAt text_cmp who_key u.principals k.principal p) → Cut (by_namespace k) (principal_cells u f.here.0) before left → Cut (by_all k) (cells_of u) (flat_map (principal_cells u) (take p u.principals) ++ before) (left ++ flat_map (principal_cells u) (drop (p + 1) u.principals))
    cut_principal p before left f cut = cut_found (by_all k) (principal_cells u) u.principals (by_namespace k) p f.here.0 before left f.here.1
        (λ x w c b. first_less (text_cmp (who_key c.who) k.principal) _ (at_who x c Less b (f.below x w)))
        (λ x w c b. first_greater (text_cmp (who_key c.who) k.principal) _ (at_who x c Greater b (f.above x w)))
        (λ c b. first_tied (text_cmp (who_key c.who) k.principal) _ (at_who f.here.0 c Equal b f.here.2))
        cut

    -- a cut of all requests gives the start
    start_of_cut : (at : Place) (from : ℕ) (before left : List Cell) → Cut (by_all k) (cells_of u) before left → cells_left u at from ≡ left → IsStart u (Some k) at from
    start_of_cut at from before left cut e = record {
      before = before;
      whole = cut.whole ∙ ap (λ (cs : List Cell). before ++ cs) (sym e);
      early = cut.early;
      late = λ c w. cut.late c (subst (λ (cs : List Cell). Contains cs c) e w);
    }

    pub start_principal_gap : (p : ℕ) → IsGapAt text_cmp who_key u.principals k.principal p → IsStart u (Some k) (place p 0 0) 0
    start_principal_gap p g = start_of_cut (place p 0 0) 0 _ _ (cut_principal_gap p g) (left_of_principal p)

    pub start_namespace_gap : (p n : ℕ) (f : IsFoundAt text_cmp who_key u.principals k.principal p) → IsGapAt text_cmp (λ w. w) u.namespaces k.namespace n → IsStart u (Some k) (place p n 0) 0
    start_namespace_gap p n f g = start_of_cut (place p n 0) 0 _ _ (cut_principal p _ _ f (cut_namespace_gap f.here.0 n g)) (left_of_namespace p n f.here.0 f.here.1)

    pub start_verb_gap : (p n v : ℕ) (f : IsFoundAt text_cmp who_key u.principals k.principal p) (g : IsFoundAt text_cmp (λ w. w) u.namespaces k.namespace n) → IsGapAt text_cmp (λ w. w) u.verbs k.verb v → IsStart u (Some k) (place p n v) 0
    start_verb_gap p n v f g h = start_of_cut (place p n v) 0 _ _ (cut_principal p _ _ f (cut_namespace f.here.0 n _ _ g (cut_verb_gap f.here.0 g.here.0 v h))) (left_of_verb p n v f.here.0 g.here.0 f.here.1 g.here.1)

    module _ (at : Place) (own : IsOwnPlace u k at) where
      abbrev who : Who
      who = own.principal.here.0

      abbrev namespace : Text
      namespace = own.namespace.here.0

      abbrev verb : Text
      verb = own.verb.here.0

      pub start_found : (from : ℕ) → IsTargetPlace u k from → IsStart u (Some k) at from
      start_found from t = start_of_cut at from _ _
          (cut_principal at.principal _ _ own.principal (cut_namespace who at.namespace _ _ own.namespace (cut_verb who namespace at.verb _ _ own.verb (cut_targets who namespace verb from t))))
          (left_of_target at.principal at.namespace at.verb from who namespace verb own.principal.here.1 own.namespace.here.1 own.verb.here.1)

      -- some requests come before a target's place, and then those that are left
      pub own_suffix : (from : ℕ) → (before : List Cell) × (cells_of u ≡ before ++ cells_left u at from)
      own_suffix from =
          let targets : line_cells u who namespace verb ≡ map (cell_at who namespace verb) (take from u.targets) ++ map (cell_at who namespace verb) (drop from u.targets) =
          ap (map (cell_at who namespace verb)) (sym (take-append-drop from u.targets)) ∙ map-append (cell_at who namespace verb) (take from u.targets) (drop from u.targets) in
          let t0 : List Cell = map (cell_at who namespace verb) (take from u.targets) in
          let t1 : List Cell = map (cell_at who namespace verb) (drop from u.targets) in
          let v0 : List Cell = flat_map (line_cells u who namespace) (take at.verb u.verbs) ++ t0 in
          let v1 : List Cell = t1 ++ flat_map (line_cells u who namespace) (drop (at.verb + 1) u.verbs) in
          let n0 : List Cell = flat_map (namespace_cells u who) (take at.namespace u.namespaces) ++ v0 in
          let n1 : List Cell = v1 ++ flat_map (namespace_cells u who) (drop (at.namespace + 1) u.namespaces) in
          let p0 : List Cell = flat_map (principal_cells u) (take at.principal u.principals) ++ n0 in
          let verbs = whole_found (λ _. Equal) (line_cells u who namespace) u.verbs at.verb verb t0 t1 own.verb.here.1 targets in
          let names = whole_found (λ _. Equal) (namespace_cells u who) u.namespaces at.namespace namespace v0 v1 own.namespace.here.1 verbs in
          let all = whole_found (λ _. Equal) (principal_cells u) u.principals at.principal who n0 n1 own.principal.here.1 names in
          (p0, all ∙ ap (λ (cs : List Cell). p0 ++ cs) (sym (left_of_target at.principal at.namespace at.verb from who namespace verb own.principal.here.1 own.namespace.here.1 own.verb.here.1)))

      pub own_settled : IsSettled u at
      own_settled = inl (slice_get_within u.principals at.principal who own.principal.here.1, slice_get_within u.namespaces at.namespace namespace own.namespace.here.1, slice_get_within u.verbs at.verb verb own.verb.here.1)

      pub own_line : IsOwnLine u k at
      own_line = (
        line who namespace verb,
        lines_from u (place at.principal at.namespace (at.verb + 1)),
        line_first u at.principal at.namespace at.verb who namespace verb own.principal.here.1 own.namespace.here.1 own.verb.here.1,
        exact_bytes (who_key who) k.principal own.principal.here.2,
        exact_bytes namespace k.namespace own.namespace.here.2,
        exact_bytes verb k.verb own.verb.here.2,
      )

  -- if two places have the same lines, the requests after the key begin at both or at neither
  pub start_same : (k : Option KeyTexts) (at to : Place) → lines_from u at ≡ lines_from u to → IsStart u k to 0 → IsStart u k at 0
  start_same k at to e s =
      let left : cells_left u at 0 ≡ cells_left u to 0 = ap (cells_of_lines u 0) e in
      record {
        before = s.before;
        whole = s.whole ∙ ap (λ (cs : List Cell). s.before ++ cs) (sym left);
        early = s.early;
        late = λ c w. s.late c (subst (λ (cs : List Cell). Contains cs c) left w);
      }

  -- without a key, the requests begin with the first line
  pub start_first : IsStart u None (place 0 0 0) 0
  start_first = record { before = []; whole = sym (left_of_principal 0); early = λ c w after. absurd (omega (arith, w.1)); late = λ c w. tt }
