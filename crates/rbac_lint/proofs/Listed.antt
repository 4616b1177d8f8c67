-- places of rules, as they are listed under words
use Rattle.std.proofs.Common.{◌≡◌, ◌≢◌, ℕ, ◌+◌, ◌<◌, ◌≤◌, ◌⊎◌, inl, inr, List, [], ◌∷◌, ◌++◌, get_or, length, take, sym, ap, ◌∙◌, refl, subst, arith, zero, suc, cond, Bool, true, false, MatchOption, Bor}
use Rattle.std.specs.Prelude.{Option, Some, None, Contains, slice_get, unwrap_or, is_some}
use Rattle.std.specs.BTreeMap.{get}
use Rattle.std.specs.Ordering.{is_eq}
use Rattle.std.proofs.lemmas.Bool.{cases_lt}
use Rattle.std.proofs.lemmas.Cmp.{tied_itself, nat_list_cmp_total}
use Rattle.std.proofs.lemmas.List.{take_more}
use Rattle.std.proofs.lemmas.List.Elements.{Contains-append_left, Contains-push, Contains-push_cases}
use Rattle.std.proofs.lemmas.Map.Lookups.{exact_bytes}
use Rattle.std.proofs.lemmas.Option.{same_Some}
use Rattle.rbac_terms.specs.Text.{Text, text_cmp}
use Rattle.rbac_terms.specs.Matching.{EndsInStar, IsBeforeStars}
use Rattle.rbac_terms.proofs.Texts.{ends, IsBeforeStars-one}
use Rattle.rbac_terms.specs.declared.matching.Rule.{Rule}
use Rattle.rbac_terms.proofs.Cases.{by_bool}
use Rattle.rbac_terms.proofs.Orderings.{equal_from_test}
use Rattle.rbac_lint.specs.declared.rules_by_word.Field.{Field}
use Rattle.rbac_lint.specs.declared.rules_by_word.Field.TheVariants.{Verbs, Groups, Resources, Names, Urls, Prefixes}
use Rattle.rbac_lint.specs.RulesByWord.{PlaceLists, places_under, words_in, IsAscending, IsListKey, TakesIn, ListsPlace, ListsAll, IsListedAsBefore, AreRulesListed}
use Rattle.rbac_lint.proofs.Exact.{all_pairs_append}

-- ---- one list

one_below : (place : ℕ) → IsAscending (place ∷ [])
one_below place i j d lt l = absurd (omega (arith, l, lt))

only_one : (x y k : ℕ) → k < 1 → get_or (x ∷ []) k y ≡ y → x ≡ y
only_one x y zero l e = e
only_one x y (suc k) l e = absurd (omega arith)

pub takes_push : (old new : List ℕ) (place : ℕ) → new ≡ old ++ place ∷ [] → TakesIn old new place
takes_push old new place e = record {
  kept = λ n h. subst (λ (l : List ℕ). Contains l n) (sym e) (Contains-append_left old (place ∷ []) n h);
  has = subst (λ (l : List ℕ). Contains l place) (sym e) (Contains-push old place);
  only = λ n h. elim (Contains-push_cases old place n (subst (λ (l : List ℕ). Contains l n) e h)) [ inl a ↦ inl a | inr s ↦ inr (sym s) ];
  ascending = λ up below. subst IsAscending (sym e)
      (all_pairs_append (λ i j. i ≤ j) old (place ∷ []) up (one_below place)
      (λ x y c d. subst (λ (n : ℕ). x ≤ n) (only_one place y d.0 d.1 d.2) (below x c)));
}

-- ---- the lists of a map

tied : (w : Text) → is_eq (text_cmp w w) ≡ true
tied w = ap is_eq (tied_itself nat_list_cmp_total w)

not_tied : (word w : Text) → w ≢ word → is_eq (text_cmp word w) ≡ false
not_tied word w ne = by_bool (is_eq (text_cmp word w)) (λ h. absurd (ne (sym (exact_bytes word w (equal_from_test (text_cmp word w) h))))) (λ h. h)

-- one word's list is another, and no other list has changed
pub lists_place : (old new : PlaceLists) (word : Text) (place : ℕ) (before xs : List ℕ) → before ≡ places_under old word
    → ((q : Text) → get text_cmp new q ≡ cond (is_eq (text_cmp word q)) (Some xs) (get text_cmp old q)) → TakesIn before xs place → ListsPlace old new word place
lists_place old new word place before xs was reads takes =
    let now : xs ≡ places_under new word = sym (ap (λ (o : Option (List ℕ)). unwrap_or o []) (reads word ∙ ap (λ (b : Bool). cond b (Some xs) (get text_cmp old word)) (tied word))) in (
      subst (λ (l : List ℕ). TakesIn (places_under old word) l place) now (subst (λ (l : List ℕ). TakesIn l xs place) was takes),
      λ w ne. ap (λ (o : Option (List ℕ)). unwrap_or o []) (reads w ∙ ap (λ (b : Bool). cond b (Some xs) (get text_cmp old w)) (not_tied word w ne)),
    )

same_or_not : (a b : Text) → (a ≡ b) ⊎ (a ≢ b)
same_or_not a b = by_bool (is_eq (text_cmp b a))
    (λ h. inl (sym (exact_bytes b a (equal_from_test (text_cmp b a) h))))
    (λ h. inr (λ e. let t : is_eq (text_cmp b a) ≡ true = subst (λ (x : Text). is_eq (text_cmp b x) ≡ true) (sym e) (tied b) in cc))

only_word : (x y : Text) (k : ℕ) → k < 1 → get_or (x ∷ []) k y ≡ y → x ≡ y
only_word x y zero l e = e
only_word x y (suc k) l e = absurd (omega arith)

-- nothing comes before the stars of a word that ends in none
pub prefixes_key : (w : Text) (r : Option (Bor Text)) → MatchOption r (EndsInStar w → ⊥) (λ p. IsBeforeStars w p.now)
    → MatchOption r ((key : Text) → IsListKey Prefixes w key → ⊥) (λ key. IsListKey Prefixes w key.now)
prefixes_key w None h = λ key is. h (ends w key is.0 is.1)
prefixes_key w (Some p) h = h

-- a word has one key
key_one : (field : Field) (w p q : Text) → IsListKey field w p → IsListKey field w q → p ≡ q
key_one Verbs w p q a b = sym a ∙ b
key_one Groups w p q a b = sym a ∙ b
key_one Resources w p q a b = sym a ∙ b
key_one Names w p q a b = sym a ∙ b
key_one Urls w p q a b = sym a ∙ b
key_one Prefixes w p q a b = IsBeforeStars-one w p q a b

-- a place listed under its key is listed for the word
pub lists_one : (old new : PlaceLists) (field : Field) (word key : Text) (place : ℕ) → ListsPlace old new key place → IsListKey field word key
    → ListsAll old new field (word ∷ []) place
lists_one old new field word key place l at = record {
  kept = λ w n c. elim (same_or_not w key) [
    | inl e ↦ subst (λ (x : Text). Contains (places_under new x) n) (sym e) (l.0.kept n (subst (λ (x : Text). Contains (places_under old x) n) e c))
    | inr ne ↦ subst (λ (xs : List ℕ). Contains xs n) (sym (l.1 w ne)) c
  ];
  has = λ w other c is.
      let same : w ≡ word = sym (only_word word w c.0 c.1 c.2) in
      let here : key ≡ other = key_one field word key other at (subst (λ (x : Text). IsListKey field x other) same is) in
      subst (λ (x : Text). Contains (places_under new x) place) here l.0.has;
  only = λ w n c. elim (same_or_not w key) [
    | inl e ↦ elim (l.0.only n (subst (λ (x : Text). Contains (places_under new x) n) e c)) [
      | inl a ↦ inl (subst (λ (x : Text). Contains (places_under old x) n) (sym e) a)
      | inr s ↦ inr s
    ]
    | inr ne ↦ inl (subst (λ (xs : List ℕ). Contains xs n) (l.1 w ne) c)
  ];
  ascending = λ up below w. elim (same_or_not w key) [
    | inl e ↦ subst (λ (x : Text). IsAscending (places_under new x)) (sym e) (l.0.ascending (up key) (below key))
    | inr ne ↦ subst IsAscending (sym (l.1 w ne)) (up w)
  ];
}

-- ---- the words of a rule

pub lists_none : (m : PlaceLists) (field : Field) (place : ℕ) → ListsAll m m field [] place
lists_none m field place = record {
  kept = λ w n c. c;
  has = λ w key c is. absurd (omega (arith, c.1));
  only = λ w n c. inl c;
  ascending = λ up below. up;
}

pub lists_skipped : (old new : PlaceLists) (field : Field) (word : Text) (place : ℕ) → ((key : Text) → IsListKey field word key → ⊥) → IsListedAsBefore old new → ListsAll old new field (word ∷ []) place
lists_skipped old new field word place none same = record {
  kept = λ w n c. subst (λ (xs : List ℕ). Contains xs n) (sym (same w)) c;
  has = λ w key c is. absurd (none key (subst (λ (x : Text). IsListKey field x key) (sym (only_word word w c.0 c.1 c.2)) is));
  only = λ w n c. inl (subst (λ (xs : List ℕ). Contains xs n) (same w) c);
  ascending = λ up below w. subst IsAscending (sym (same w)) (up w);
}

none_or : (o : Option (List ℕ)) → is_some o ≡ false → [] ≡ unwrap_or o []
none_or None e = refl
none_or (Some xs) e = cc

-- a new word without places changes no list
pub put_in_same : (old new : PlaceLists) (word : Text) → is_some (get text_cmp old word) ≡ false
    → ((q : Text) → get text_cmp new q ≡ cond (is_eq (text_cmp word q)) (Some []) (get text_cmp old q)) → IsListedAsBefore old new
put_in_same old new word absent reads w = elim (same_or_not w word) [
  | inl e ↦
      subst (λ (x : Text). places_under new x ≡ places_under old x) (sym e)
      (ap (λ (o : Option (List ℕ)). unwrap_or o []) (reads word ∙ ap (λ (b : Bool). cond b (Some []) (get text_cmp old word)) (tied word)) ∙ none_or (get text_cmp old word) absent)
  | inr ne ↦ ap (λ (o : Option (List ℕ)). unwrap_or o []) (reads w ∙ ap (λ (b : Bool). cond b (Some []) (get text_cmp old w)) (not_tied word w ne))
]

at_most : (m new : PlaceLists) (place : ℕ) → ((w : Text) (n : ℕ) → Contains (places_under new w) n → Contains (places_under m w) n ⊎ (n ≡ place))
    → ((w : Text) (n : ℕ) → Contains (places_under m w) n → n ≤ place) → (w : Text) (n : ℕ) → Contains (places_under new w) n → n ≤ place
at_most m new place only below w n c = elim (only w n c) [
  | inl a ↦ below w n a
  | inr e ↦ omega (arith, e)
]

pub lists_more : (old mid new : PlaceLists) (field : Field) (words : List Text) (i : ℕ) (word : Text) (place : ℕ) → i < length words → word ≡ get_or words i word
    → ListsAll old mid field (take i words) place → ListsAll mid new field (word ∷ []) place → ListsAll old new field (take (i + 1) words) place
lists_more old mid new field words i word place lt at before step =
    let more : take (i + 1) words ≡ take i words ++ word ∷ [] = take_more words i word lt ∙ ap (λ (x : Text). take i words ++ x ∷ []) (sym at) in
    record {
      kept = λ w n c. step.kept w n (before.kept w n c);
      has = λ w key c is. elim (Contains-push_cases (take i words) word w (subst (λ (l : List Text). Contains l w) more c)) [
        | inl a ↦ step.kept key place (before.has w key a is)
        | inr e ↦ step.has w key (0, omega arith, e) is
      ];
      only = λ w n c. elim (step.only w n c) [ inl a ↦ before.only w n a | inr e ↦ inr e ];
      ascending = λ up below. step.ascending (before.ascending up below) (at_most old mid place before.only below);
    }

-- ---- rules

pub listed_more : (field : Field) (rules : List Rule) (i : ℕ) (r : Rule) (words : List Text) (old new : PlaceLists) → slice_get rules i ≡ Some r → words ≡ words_in field r
    → AreRulesListed field rules i old → ListsAll old new field words i → AreRulesListed field rules (i + 1) new
listed_more field rules i r words old new at same was is = record {
  complete = λ n s w key lt there c k. elim (cases_lt n i) [
    | inl below ↦ is.kept key n (was.complete n s w key below there c k)
    | inr le ↦
        let here : n ≡ i = omega (arith, le, lt) in
        let one : s ≡ r = same_Some s r (sym there ∙ ap (slice_get rules) here ∙ at) in
        subst (λ (m : ℕ). Contains (places_under new key) m) (sym here)
        (is.has w key (subst (λ (ws : List Text). Contains ws w) (sym same) (subst (λ (x : Rule). Contains (words_in field x) w) one c)) k)
  ];
  below = λ w n c. elim (is.only w n c) [ inl a ↦ let l = was.below w n a in omega (arith, l) | inr e ↦ omega (arith, e) ];
  ascending = is.ascending was.ascending (λ w n c. let l = was.below w n c in omega (arith, l));
}
