-- targets of one group and resource text stand together
use Rattle.std.proofs.Common.{◌≡◌, ℕ, ◌-◌, ◌<◌, ◌≤◌, List, [], ◌∷◌, length, get_or, slice_get, map, ap, sym, ◌∙◌, refl, subst, arith, inl, inr, true, false, ◌↔◌, Any, Contains, drop, ◌++◌, ◌+◌, Bor, add-one, drop-cons}
use Rattle.std.specs.Prelude.{Option, Some, None, IfSome, option_copied}
use Rattle.std.specs.Slice.{IsItemAt}
use Rattle.std.specs.Ordering.{ordering_index, ordering_then, ordering_reverse, is_le}
use Rattle.std.specs.List.Sorted.{IsNonDecreasingBy, IsPartitionPoint, IsPartitionedBy, IsSorted}
use Rattle.std.specs.Cmp.Lexicographic.{slice_cmp}
use Rattle.std.specs.declared.cmp.Ordering.{Ordering}
use Rattle.std.specs.declared.cmp.Ordering.TheVariants.{Less, Equal, Greater}
use Rattle.std.proofs.lemmas.Bool.{cases_eq, cases_lt}
use Rattle.std.proofs.lemmas.Cmp.{nat_list_cmp_total, tied_itself}
use Rattle.std.proofs.lemmas.List.{get_or-map, length-map, drop_all}
use Rattle.std.proofs.lemmas.List.Sorted.{searchable_from_sorted}
use Rattle.std.proofs.lemmas.Map.Lookups.{exact_bytes}
use Rattle.std.proofs.lemmas.Option.{slice_get_within, get_or_from_slice_get, same_Some, slice_get-get_or, slice_get_past, slice_get_read}
use Rattle.rbac_terms.specs.Text.{Text, text_cmp}
use Rattle.rbac_terms.specs.Targets.{What, Resource, Url, group_of, text_of, name_of, IsResource, IsUrl}
use Rattle.rbac_terms.specs.Matching.{TargetOk, WordMatches, ResourceWordMatches}
use Rattle.rbac_terms.specs.declared.matching.Rule.{Rule}
use Rattle.rbac_terms.proofs.Orderings.{le_back, less_alone}
use Rattle.rbac_terms.proofs.Reading.{read_some}
use Rattle.rbac_model.specs.Lists.{IsAscendingBy}
use Rattle.rbac_model.specs.Universes.{Listed, target_texts}
use Rattle.rbac_reaches.specs.Matched.{what_texts, IsBetween, IsLaterOfStem, AreOfStem, AreStemEnds, IsByName, AreOneStem, IsWhole}
use Rattle.rbac_index.specs.Requested.{StemOk}
use Rattle.rbac_reaches.specs.Reaches.{MatchesAt}

-- the targets of a universe are in order
pub targets_ordered : (us : List Listed) → IsAscendingBy target_texts us → IsAscendingBy what_texts (map (λ t. t.0) us)
targets_ordered us up i j d lt within =
    let first : Listed → What = λ t. t.0 in
    let short : j < length us = omega (arith, within, length-map {A = Listed} {B = What} us first) in
    rw (get_or-map first us i (d, false) d (omega (arith, lt, short)), get_or-map first us j (d, false) d short) (up i j (d, false) lt short)

pinched_then : (o p q : Ordering) → ordering_then o p ≡ Less → ordering_then (ordering_reverse o) q ≡ Less → (o ≡ Equal) × (p ≡ Less) × (q ≡ Less)
pinched_then Less p q e f = cc
pinched_then Equal p q e f = (refl, e, f)
pinched_then Greater p q e f = cc

-- what stands between two that begin alike begins so
pinched : (a b : Text) (p q : Ordering) → ordering_then (text_cmp a b) p ≡ Less → ordering_then (text_cmp b a) q ≡ Less → (b ≡ a) × (p ≡ Less) × (q ≡ Less)
pinched a b p q e f =
    let both = pinched_then (text_cmp a b) p q e (subst (λ (o : Ordering). ordering_then o q ≡ Less) (nat_list_cmp_total.antisymm b a) f) in
    (sym (exact_bytes a b both.0), both.1, both.2)

before_too : (before : Option Text) (x y : Text) → text_cmp x y ≡ Less → IfSome before (λ m. text_cmp y m ≡ Less) → IfSome before (λ m. text_cmp x m ≡ Less)
before_too None x y l is = tt
before_too (Some m) x y l is = nat_list_cmp_total.trans x y m l is

-- what stands between a target and a later one of its stem is a later one too
later_between : (before : Option Text) (t u w : What) → slice_cmp text_cmp (what_texts t) (what_texts u) ≡ Less → slice_cmp text_cmp (what_texts u) (what_texts w) ≡ Less → IsLaterOfStem before t w → IsLaterOfStem before t u
later_between before t u w low high of =
    let back : slice_cmp text_cmp (what_texts u) (group_of t ∷ text_of t ∷ name_of w ∷ []) ≡ Less = subst (λ (g : Text). slice_cmp text_cmp (what_texts u) (g ∷ text_of t ∷ name_of w ∷ []) ≡ Less) of.group (subst (λ (x : Text). slice_cmp text_cmp (what_texts u) (group_of w ∷ x ∷ name_of w ∷ []) ≡ Less) of.text high) in
    let groups = pinched (group_of t) (group_of u) _ _ low back in
    let texts = pinched (text_of t) (text_of u) _ _ groups.1 groups.2 in
    record {
      group = groups.0;
      text = texts.0;
      name = (less_alone (text_cmp (name_of t) (name_of u)) texts.1, before_too before (name_of u) (name_of w) (less_alone (text_cmp (name_of u) (name_of w)) texts.2) of.name.1);
    }

-- where the last of them is a later one of the stem of the first, all between are
pub of_stem : (before : Option Text) (ts : List What) (at end : ℕ) (t w : What) → IsAscendingBy what_texts ts → slice_get ts at ≡ Some t → slice_get ts (end - 1) ≡ Some w → IsLaterOfStem before t w → AreOfStem before ts at end
of_stem before ts at end t w up there last of n x u low high read_x read_u =
    let same : t ≡ x = same_Some t x (sym there ∙ read_x) in
    subst (λ (v : What). IsLaterOfStem before v u) same (elim (cases_eq n (end - 1)) [
      | inl e ↦ subst (IsLaterOfStem before t) (same_Some w u (sym last ∙ ap (slice_get ts) (sym e) ∙ read_u)) of
      | inr ne ↦
          let inside : end - 1 < length ts = slice_get_within ts (end - 1) w last in
          let is_t : get_or ts at t ≡ t = get_or_from_slice_get ts at t t there in
          let is_u : get_or ts n t ≡ u = get_or_from_slice_get ts n u t read_u in
          let is_w : get_or ts (end - 1) t ≡ w = get_or_from_slice_get ts (end - 1) w t last in
          let up_to = rw (is_t, is_u) at (up at n t low (slice_get_within ts n u read_u)) in
          let from = rw (is_u, is_w) at (up n (end - 1) t (omega (arith, ne, high)) inside) in
          later_between before t u w up_to from of
    ])

-- a later one of a stem has a name
none_below : (x : Text) → text_cmp x [] ≡ Less → ⊥
none_below [] e = cc
none_below (b ∷ bs) e = cc

-- a rule that matches a later one of the stem matches the stem
fails_of_stem : (b : Option Text) (r : Rule) (t u : What) → IsLaterOfStem b t u → ¬ StemOk r t → TargetOk r u → ⊥
fails_of_stem b r t (Url path) of bad ok = none_below (name_of t) of.name.0
fails_of_stem b r t (Resource g x n) of bad ok = bad (subst (λ (w : Text). Any (λ v. WordMatches v w) r.groups) of.group ok.0, subst (λ (w : Text). Any (λ v. ResourceWordMatches v w) r.resources) of.text ok.1)

fails_itself : (r : Rule) (t : What) → IsResource t → ¬ StemOk r t → TargetOk r t → ⊥
fails_itself r (Url path) is bad ok = cc
fails_itself r (Resource g x n) is bad ok = bad (ok.0, ok.1)

-- where it matches one without naming it, it matches all
matches_of_stem : (b : Option Text) (r : Rule) (t u : What) → IsLaterOfStem b t u → IsResource t → TargetOk r t → r.resource_names ≡ [] → TargetOk r u
matches_of_stem b r t (Url path) of is ok none = absurd (none_below (name_of t) of.name.0)
matches_of_stem b r (Url path) (Resource g x n) of is ok none = cc
matches_of_stem b r (Resource h y m) (Resource g x n) of is ok none = (
  subst (λ (w : Text). Any (λ v. WordMatches v w) r.groups) (sym of.group) ok.0,
  subst (λ (w : Text). Any (λ v. ResourceWordMatches v w) r.resources) (sym of.text) ok.1,
  inl none,
)

-- and where it matches a later one so, it matches the first
matches_first_of_stem : (b : Option Text) (r : Rule) (t u : What) → IsLaterOfStem b t u → IsResource t → TargetOk r u → r.resource_names ≡ [] → TargetOk r t
matches_first_of_stem b r t (Url path) of is ok none = absurd (none_below (name_of t) of.name.0)
matches_first_of_stem b r (Url path) (Resource g x n) of is ok none = cc
matches_first_of_stem b r (Resource h y m) (Resource g x n) of is ok none = (
  subst (λ (w : Text). Any (λ v. WordMatches v w) r.groups) of.group ok.0,
  subst (λ (w : Text). Any (λ v. ResourceWordMatches v w) r.resources) of.text ok.1,
  inl none,
)

-- where names and a stem match, one of the stem is matched by its name
named_itself : (r : Rule) (t : What) → IsResource t → StemOk r t → ¬ (r.resource_names ≡ []) → TargetOk r t ↔ Contains r.resource_names (name_of t)
named_itself r (Url path) is ok named = cc
named_itself r (Resource g x n) is ok named = (λ m. elim (m.2) [ inl none ↦ absurd (named none) | inr has ↦ has ], λ has. (ok.0, ok.1, inr has))

named_of_stem : (b : Option Text) (r : Rule) (t u : What) → IsLaterOfStem b t u → StemOk r t → ¬ (r.resource_names ≡ []) → TargetOk r u ↔ Contains r.resource_names (name_of u)
named_of_stem b r t (Url path) of ok named = absurd (none_below (name_of t) of.name.0)
named_of_stem b r t (Resource g x n) of ok named = (
  λ m. elim (m.2) [ inl none ↦ absurd (named none) | inr has ↦ has ],
  λ has. (subst (λ (w : Text). Any (λ v. WordMatches v w) r.groups) (sym of.group) ok.0, subst (λ (w : Text). Any (λ v. ResourceWordMatches v w) r.resources) (sym of.text) ok.1, inr has),
)

-- the rule has no name between the first's and the next one that it has
pub none_named : (b : Option Text) (names : List Text) (ts : List What) (at end : ℕ) (t : What) → slice_get ts at ≡ Some t → AreOfStem b ts at end → ((x : Text) → Contains names x → IsBetween (name_of t) b x → ⊥) → ((u : What) → slice_get ts at ≡ Some u → Contains names (name_of u) → ⊥) → (n : ℕ) (u : What) → at ≤ n → n < end → slice_get ts n ≡ Some u → Contains names (name_of u) → ⊥
none_named b names ts at end t there stem none unnamed n u low high read has = elim (cases_eq at n) [
  | inl e ↦ unnamed u (ap (slice_get ts) e ∙ read) has
  | inr ne ↦ none (name_of u) has (stem n t u (omega (arith, low, ne)) high there read).name
]

pub unnamed_at : (names : List Text) (ts : List What) (at : ℕ) (t : What) → slice_get ts at ≡ Some t → (Contains names (name_of t) → ⊥) → (u : What) → slice_get ts at ≡ Some u → Contains names (name_of u) → ⊥
unnamed_at names ts at t there unnamed u read has = unnamed (subst (λ (v : What). Contains names (name_of v)) (same_Some u t (sym read ∙ there)) has)

module _ (r : Rule) (ts : List What) (start end : ℕ) where
  pub named_matches : (at : ℕ) (t : What) → IsByName r ts start end → start ≤ at → at < end → slice_get ts at ≡ Some t → Contains r.resource_names (name_of t) → MatchesAt r ts at
  named_matches at t by low high there has = (t, there, (by at t low high there).1 has)

  pub unnamed_fails : (at to : ℕ) → IsByName r ts start end → start ≤ at → to ≤ end → ((n : ℕ) (t : What) → at ≤ n → n < to → slice_get ts n ≡ Some t → Contains r.resource_names (name_of t) → ⊥) → (n : ℕ) → at ≤ n → n < to → MatchesAt r ts n → ⊥
  unnamed_fails at to by low high none n from upto m = none n m.0 from upto m.1 ((by n m.0 (omega (arith, low, from)) (omega (arith, upto, high)) m.1).0 m.2)

module _ (r : Rule) (ts : List What) (start end : ℕ) (t : What) (there : slice_get ts start ≡ Some t) (is : AreOneStem ts start end) where
  matched_first : MatchesAt r ts start → TargetOk r t
  matched_first m = subst (TargetOk r) (same_Some m.0 t (sym m.1 ∙ there)) m.2

  pub none_of_stem : IsResource t → ¬ StemOk r t → (n : ℕ) → start ≤ n → n < end → MatchesAt r ts n → ⊥
  none_of_stem resource bad n low high m = elim (cases_eq start n) [
    | inl e ↦ fails_itself r t resource bad (matched_first (subst (MatchesAt r ts) (sym e) m))
    | inr ne ↦ fails_of_stem None r t m.0 (is.alike n t m.0 (omega (arith, low, ne)) high there m.1) bad m.2
  ]

  pub by_name : IsResource t → StemOk r t → ¬ (r.resource_names ≡ []) → IsByName r ts start end
  by_name resource ok named n u low high read = elim (cases_eq start n) [
    | inl e ↦
        let same : t ≡ u = same_Some t u (sym there ∙ ap (slice_get ts) e ∙ read) in
        subst (λ (v : What). TargetOk r v ↔ Contains r.resource_names (name_of v)) same (named_itself r t resource ok named)
    | inr ne ↦ named_of_stem None r t u (is.alike n t u (omega (arith, low, ne)) high there read) ok named
  ]

  pub whole_url : IsUrl t → IsWhole r ts start end
  whole_url url n low high =
      let one = is.alone t there url in
      let same : n ≡ start = omega (arith, one, low, high) in
      (subst (MatchesAt r ts) same, subst (MatchesAt r ts) (sym same))

  pub whole_unnamed : IsResource t → r.resource_names ≡ [] → IsWhole r ts start end
  whole_unnamed resource none n low high = elim (cases_eq start n) [
    | inl e ↦ (subst (MatchesAt r ts) (sym e), subst (MatchesAt r ts) e)
    | inr ne ↦
        let u = read_some ts n (omega (arith, is.within, high)) in
        let of = λ (v : What) (read : slice_get ts n ≡ Some v). is.alike n t v (omega (arith, low, ne)) high there read in (
          λ m. (t, there, matches_first_of_stem None r t m.0 (of m.0 m.1) resource m.2 none),
          λ m. (u.0, u.1, matches_of_stem None r t u.0 (of u.0 u.1) resource (matched_first m) none),
        )
  ]

-- stems put one behind the other
pub stems_push : (ts : List What) (from at end : ℕ) (ends : List ℕ) → AreStemEnds ts from at ends → AreOneStem ts at end → AreStemEnds ts from end (ends ++ end ∷ [])
stems_push ts from at end [] are is = (subst (λ (n : ℕ). AreOneStem ts n end) (sym are) is, refl)
stems_push ts from at end (e ∷ ends) are is = (are.0, stems_push ts e at end ends are.1 is)

drop_next : (xs : List ℕ) (i : ℕ) → i < length xs → drop i xs ≡ get_or xs i 0 ∷ drop (i + 1) xs
drop_next xs i lt = rw (add-one, drop-cons xs i 0)

-- the next of the stems, and those after it
pub stems_next : (ts : List What) (from to i : ℕ) (ends : List ℕ) → i < length ends → AreStemEnds ts from to (drop i ends) → AreOneStem ts from (get_or ends i 0) × AreStemEnds ts (get_or ends i 0) to (drop (i + 1) ends)
stems_next ts from to i ends lt are = subst (AreStemEnds ts from to) (drop_next ends i lt) are

pub stems_end : (ts : List What) (from to i : ℕ) (ends : List ℕ) → length ends ≤ i → AreStemEnds ts from to (drop i ends) → from ≡ to
stems_end ts from to i ends le are = subst (AreStemEnds ts from to) (drop_all i ends le) are

-- names in order are passed up to a point: none stands between what was passed and what is there
module _ (names : List Text) (sorted : IsSorted text_cmp names) (name : Text) where
  rises : (t : Text) → IsNonDecreasingBy (λ y. ordering_index (text_cmp y t)) names
  rises t = searchable_from_sorted nat_list_cmp_total (λ (x : Text). x) names t sorted

  pub parted_names : IsPartitionedBy (λ y. is_le (text_cmp y name)) names
  parted_names i j d le lt e = le_back (text_cmp (get_or names i d) name) (text_cmp (get_or names j d) name) (rises name i j d le lt) e

  pub none_between : (i : ℕ) → IsPartitionPoint (λ y. is_le (text_cmp y name) ≡ true) (λ y. is_le (text_cmp y name) ≡ false) names i → (x : Text) → Contains names x → IsBetween name (slice_get names i) x → ⊥
  none_between i parted x has between = elim (cases_lt has.0 i) [
    | inl low ↦
        let le : is_le (text_cmp x name) ≡ true = rw has.2 at (parted.0 has.0 x (omega arith) low) in
        let more : text_cmp x name ≡ Greater = nat_list_cmp_total.antisymm x name ∙ ap ordering_reverse between.0 in
        let f : is_le Greater ≡ true = subst (λ (o : Ordering). is_le o ≡ true) more le in
        cc
    | inr high ↦
        let m = get_or names i x in
        let there : slice_get names i ≡ Some m = slice_get-get_or names i x (omega (arith, high, has.1)) in
        let less : text_cmp x m ≡ Less = subst (λ (o : Option Text). IfSome o (λ y. text_cmp x y ≡ Less)) there between.1 in
        let up : ordering_index (text_cmp m m) ≤ ordering_index (text_cmp x m) = rw has.2 at (rises m i has.0 x high has.1) in
        let tied : ordering_index (text_cmp m m) ≡ 1 = ap ordering_index (tied_itself nat_list_cmp_total m) in
        let low : ordering_index (text_cmp x m) ≡ 0 = ap ordering_index less in
        absurd (omega (arith, up, tied, low))
  ]

-- what `get` lends is what stands at its place, if anything does
pub got_copied : (xs : List Text) (i : ℕ) (o : Option (Bor Text)) → IsItemAt xs i o → option_copied o ≡ slice_get xs i
got_copied xs i None is = sym (slice_get_past xs i is.3)
got_copied xs i (Some x) is = sym (slice_get_read xs (length xs) i x.now refl is.3.0 is.1)
