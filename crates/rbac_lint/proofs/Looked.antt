-- whatever covers a rule is listed under a word that matches one of its own
use Rattle.std.proofs.Common.{◌≡◌, ℕ, ◌+◌, ◌<◌, ◌≤◌, ◌⊎◌, inl, inr, List, [], ◌∷◌, ◌++◌, get_or, length, sym, ap, ◌∙◌, refl, subst, arith, Bor, All}
use Rattle.std.specs.Prelude.{Option, Some, None, Contains, slice_get, codes, IfSome}
use Rattle.std.proofs.lemmas.Bool.{cases_lt}
use Rattle.std.proofs.lemmas.List.{get_or_append_left, get_or_push, length-append}
use Rattle.std.proofs.lemmas.List.Elements.{All-contains, All-nil, All-push, Contains-append_left, Contains-append_right, Contains-push, Contains-push_cases}
use Rattle.std.proofs.lemmas.Option.{slice_get_within, get_or_from_slice_get, same_Some, slice_get-get_or}
use Rattle.rbac_terms.specs.Text.{Text, slash, IsCutAtFirst, BeginsWith}
use Rattle.rbac_terms.proofs.Texts.{IsCutAtFirst-one}
use Rattle.rbac_terms.specs.Matching.{ResourceWordMatches, EndsInStar, IsBeforeStars}
use Rattle.rbac_terms.specs.declared.matching.Rule.{Rule}
use Rattle.rbac_model.specs.Universes.{Covers}
use Rattle.rbac_covering.specs.Covering.{CoversAll, AllowsVerbs, AllowsVerb, AllowsGroups, AllowsGroup, AllowsResources, AllowsResource, AllowsNames, AllowsName, AllowsUrls, AllowsUrl, HasResource, HasUrl}
use Rattle.rbac_model.specs.OwnWords.{AllowsUrlWord, GivesPath}
use Rattle.rbac_lint.specs.Findings.{MakesRedundantAt, MakesRedundant}
use Rattle.rbac_lint.specs.declared.rules_by_word.Field.{Field}
use Rattle.rbac_lint.specs.declared.rules_by_word.Field.TheVariants.{Verbs, Groups, Resources, Names, Urls, Prefixes}
use Rattle.rbac_lint.specs.declared.rules_by_word.RulesByWord.{RulesByWord}
use Rattle.rbac_lint.specs.declared.candidates.Candidates.{Candidates}
use Rattle.rbac_lint.specs.RulesByWord.{PlaceLists, places_under, lists_in, words_in, names_or_star, IsAscending, IsUrlStem, AreRulesByWord}
use Rattle.rbac_lint.specs.Candidates.{IsAsked, Binds, IsUnderMatch, StandsIn, IsAmong, Ascend, FindsEach, AddsUnder, AddsPrefixes, IsOfEach, AreMatching, CoversAt, IncludeCovers, IsLeastCoverIfAny, IsRedundantBy, IsSoonest}
use Rattle.rbac_lint.specs.declared.prefixes.Prefix.{Prefix}
use Rattle.rbac_lint.specs.Prefixes.{IsOnWay, LinksTo, ArePrefixes}
use Rattle.rbac_covering.proofs.Samples.{samples_from_Covers, resources_from_samples, urls_from_samples}
use Rattle.rbac_model.proofs.UrlSamples.{below_stars}
use Rattle.rbac_model.proofs.UrlWords.{GivesPath-path}
use Rattle.rbac_lint.proofs.Urls.{UrlWordMatches-begins}
use Rattle.rbac_lint.proofs.Linked.{prefix_listed, places_ascend, here_or_on, shorter_within}

-- ---- the words that match

-- each place of a rule's words is listed under them
abbrev pub IsListedAll : List Text → PlaceLists → ℕ → Type 0
IsListedAll words m n = (u : Text) → Contains words u → Contains (places_under m u) n

-- a place is listed under a word that matches
abbrev pub IsMatched : PlaceLists → Text → ℕ → Type 0
IsMatched m w n = (u : Text) × ResourceWordMatches u w × Contains (places_under m u) n

matched_star : (m : PlaceLists) (a : Rule) (w : Text) (n : ℕ) → a.resource_names ≡ [] → IsListedAll (names_or_star a.resource_names) m n → IsMatched m w n
matched_star m a w n e under =
    let has : Contains (names_or_star a.resource_names) (codes "*") = subst (λ (ns : List Text). Contains (names_or_star ns) (codes "*")) (sym e) (0, omega arith, refl) in
    (codes "*", inl (inl refl), under (codes "*") has)

named : (names : List Text) (w : Text) → Contains names w → Contains (names_or_star names) w
named [] w c = absurd (omega (arith, c.1))
named (n ∷ ns) w c = c

matched_name : (m : PlaceLists) (a b : Rule) (names : List Text) (w : Text) (n : ℕ) → names ≡ b.resource_names → AllowsNames a b → Contains (names_or_star names) w
    → IsListedAll (names_or_star a.resource_names) m n → IsMatched m w n
unfolding AllowsNames AllowsName
matched_name m a b [] w n e h c under = matched_star m a w n (h.0 (sym e)) under
matched_name m a b (x ∷ xs) w n e h c under = elim (All-contains (AllowsName a) b.resource_names w h.1 (subst (λ (ns : List Text). Contains ns w) e c)) [
  | inl none ↦ matched_star m a w n none under
  | inr there ↦ (w, inl (inr refl), under w (named a.resource_names w there))
]

verbs_of : (a b : Rule) → Covers a b → HasResource b ⊎ HasUrl b → AllowsVerbs a b
verbs_of a b c (inl has) = (resources_from_samples a b (samples_from_Covers a b c) has).1
verbs_of a b c (inr has) = (urls_from_samples a b (samples_from_Covers a b c) has).0

found_url : (rules : List Rule) (l : RulesByWord) (w u : Text) (n : ℕ) (a : Rule) → AreRulesByWord rules l → slice_get rules n ≡ Some a → Contains a.urls u
    → (u ≡ w) ⊎ ((prefix : Text) × IsBeforeStars u prefix × BeginsWith w prefix) → IsUnderMatch Urls l w n
found_url rules l w u n a is at has (inl e) = inl (is.urls.complete n a u w (slice_get_within rules n a at) at has e)
found_url rules l w u n a is at has (inr f) =
    let m = is.prefixes.0 in
    let there = prefix_listed m is.prefixes.2.0 l.prefixes.items is.prefixes.2.1 f.0 n (is.prefixes.1.complete n a u f.0 (slice_get_within rules n a at) at has f.1) in
    inr (there.0, there.1, there.2, subst (BeginsWith w) (sym there.3) f.2, subst (λ (t : Text). EndsInStar t → ⊥) (sym there.3) f.1.2, there.4)

-- what covers a rule is found for each of its words that is asked
pub found : (field : Field) (rules : List Rule) (l : RulesByWord) (b : Rule) (w : Text) (n : ℕ) → AreRulesByWord rules l → Binds field b → IsAsked field w → Contains (words_in field b) w
    → CoversAt rules b n → IsUnderMatch field l w n
unfolding AllowsVerbs AllowsVerb AllowsGroups AllowsGroup AllowsResources AllowsResource AllowsUrls AllowsUrl AllowsUrlWord GivesPath
found Verbs rules l b w n is has asked at c =
    let any = All-contains (AllowsVerb c.0) b.verbs w (verbs_of c.0 b c.2 has) at in
    (any.1, inl any.4, is.verbs.complete n c.0 any.1 any.1 (slice_get_within rules n c.0 c.1) c.1 (any.0, any.2, any.3) refl)
found Groups rules l b w n is has asked at c =
    let any = All-contains (AllowsGroup c.0) b.groups w (resources_from_samples c.0 b (samples_from_Covers c.0 b c.2) has).2 at in
    (any.1, inl any.4, is.groups.complete n c.0 any.1 any.1 (slice_get_within rules n c.0 c.1) c.1 (any.0, any.2, any.3) refl)
found Resources rules l b w n is has asked at c =
    let any = All-contains (AllowsResource c.0) b.resources w (resources_from_samples c.0 b (samples_from_Covers c.0 b c.2) has).0 at asked in
    (any.1, any.4, is.resources.complete n c.0 any.1 any.1 (slice_get_within rules n c.0 c.1) c.1 (any.0, any.2, any.3) refl)
found Names rules l b w n is has asked at c =
    matched_name l.names c.0 b b.resource_names w n refl (resources_from_samples c.0 b (samples_from_Covers c.0 b c.2) has).3 at
    (λ u has. is.names.complete n c.0 u u (slice_get_within rules n c.0 c.1) c.1 has refl)
found Urls rules l b w n is has asked at c =
    let sample = GivesPath-path w asked in
    let any = All-contains (AllowsUrl c.0) b.urls w (urls_from_samples c.0 b (samples_from_Covers c.0 b c.2) has).1 at sample sample.0 sample.1 in
    found_url rules l w any.1 n c.0 is c.1 (any.0, any.2, any.3) (UrlWordMatches-begins any.1 w sample.0 asked sample.1 any.4)
found Prefixes rules l b w n is has asked at c = absurd has

pub are_candidates : (field : Field) (rules : List Rule) (l : RulesByWord) (b : Rule) (w : Text) (c : Candidates) → AreRulesByWord rules l → Binds field b → IsAsked field w → Contains (words_in field b) w
    → FindsEach field l w c → IncludeCovers rules b c
unfolding IncludeCovers
are_candidates field rules l b w c is has asked at finds = (finds.0, λ n covers. finds.1 n (found field rules l b w n is has asked at covers))

-- ---- lists of places

stands_kept : (lists more : List (Bor (List ℕ))) (n : ℕ) → StandsIn lists n → StandsIn (lists ++ more) n
stands_kept lists more n s = let c = Contains-append_left lists more s.1 (s.0, s.2, s.3) in (c.0, s.1, c.1, c.2, s.4)

stands_push : (lists : List (Bor (List ℕ))) (places : Bor (List ℕ)) (n : ℕ) → Contains places.now n → StandsIn (lists ++ places ∷ []) n
stands_push lists places n h = let c = Contains-push lists places in (c.0, places, c.1, c.2, h)

stands_cases : (lists : List (Bor (List ℕ))) (places : Bor (List ℕ)) (n : ℕ) → StandsIn (lists ++ places ∷ []) n → StandsIn lists n ⊎ Contains places.now n
stands_cases lists places n s = elim (Contains-push_cases lists places s.1 (s.0, s.2, s.3)) [
  | inl c ↦ inl (c.0, s.1, c.1, c.2, s.4)
  | inr e ↦ inr (subst (λ (x : Bor (List ℕ)). Contains x.now n) (sym e) s.4)
]

-- what is added to candidates
pub adds_under : (m : PlaceLists) (w : Text) (old new : Candidates) (p : Bor (List ℕ)) → new.lists.items ≡ old.lists.items ++ p ∷ [] → p.now ≡ places_under m w → AddsUnder m (λ u. u ≡ w) old new
adds_under m w old new p e same =
    let here : (P : List (Bor (List ℕ)) → Type 0) → P (old.lists.items ++ p ∷ []) → P new.lists.items = λ P h. subst P (sym e) h in
    record {
      kept = λ n c. here (λ ls. StandsIn ls n) (stands_kept old.lists.items (p ∷ []) n c);
      has = λ u n is c. here (λ ls. StandsIn ls n) (stands_push old.lists.items p n (subst (λ (ns : List ℕ). Contains ns n) (ap (places_under m) is ∙ sym same) c));
      ascending = λ up was. here (λ ls. All (λ x. IsAscending x.now) ls) (All-push (λ x. IsAscending x.now) old.lists.items p was (subst IsAscending (sym same) (up w)));
    }

pub adds_fewer : (m : PlaceLists) (P Q : Text → Type 0) (old new : Candidates) → ((u : Text) → Q u → P u) → AddsUnder m P old new → AddsUnder m Q old new
adds_fewer m P Q old new f a = record {
  kept = a.kept;
  has = λ u n is s. a.has u n (f u is) s;
  ascending = a.ascending;
}

-- the word for each resource with a subresource is one
pub of_each_one : (w prefix rest word : Text) → IsCutAtFirst w slash prefix rest → word ≡ codes "*/" ++ rest → (u : Text) → IsOfEach w u → u ≡ word
of_each_one w prefix rest word cut is u of =
    of.1 ∙ ap (λ (s : Text). codes "*/" ++ s) (IsCutAtFirst-one w of.2.0 prefix of.0 rest slash of.2.1 cut) ∙ sym is

-- a word without a slash has none
pub no_of_each : (m : PlaceLists) (w : Text) (c : Candidates) → ¬ Contains w slash → AddsUnder m (IsOfEach w) c c
no_of_each m w c none = record {
  kept = λ n s. s;
  has = λ u n of s. absurd (none (subst (λ (t : Text). Contains t slash) (sym of.2.1.0) (Contains-append_right of.2.0 (slash ∷ of.0) slash (0, omega arith, refl))));
  ascending = λ up a. a;
}

-- those under the words that match a resource text
pub all_matching : (m : PlaceLists) (w : Text) (none own every c : Candidates) → none.lists.items ≡ [] → AddsUnder m (λ u. u ≡ w) none own → AddsUnder m (λ u. u ≡ codes "*") own every
    → AddsUnder m (IsOfEach w) every c → AreMatching m w c
all_matching m w none own every c e a b d = (
  λ up. d.ascending up (b.ascending up (a.ascending up (subst (λ (ls : List (Bor (List ℕ))). All (λ x. IsAscending x.now) ls) (sym e) (All-nil (λ x. IsAscending x.now))))),
  λ u n match s. elim match [
    | inl plain ↦ elim plain [ inl is ↦ d.kept n (b.has u n is s) | inr is ↦ d.kept n (b.kept n (a.has u n is s)) ]
    | inr sub ↦ d.has u n (sub.0, sub.1, sub.3) s
  ],
)

pub matching_found : (field : Field) (rules : List Rule) (l : RulesByWord) (w : Text) (c : Candidates) → (field ≡ Urls → ⊥) → AreRulesByWord rules l → AreMatching (lists_in field l) w c → FindsEach field l w c
matching_found Verbs rules l w c other is m = (m.0 is.verbs.ascending, λ n s. m.1 s.0 n s.1 s.2)
matching_found Groups rules l w c other is m = (m.0 is.groups.ascending, λ n s. m.1 s.0 n s.1 s.2)
matching_found Resources rules l w c other is m = (m.0 is.resources.ascending, λ n s. m.1 s.0 n s.1 s.2)
matching_found Names rules l w c other is m = (m.0 is.names.ascending, λ n s. m.1 s.0 n s.1 s.2)
matching_found Urls rules l w c other is m = absurd (other refl)
matching_found Prefixes rules l w c other is m = (m.0 is.urls.ascending, λ n s. m.1 s.0 n s.1 s.2)

-- those of a URL, and of the prefixes with which it begins
pub prefixes_found : (rules : List Rule) (l : RulesByWord) (w stem : Text) (none own c : Candidates) → AreRulesByWord rules l → none.lists.items ≡ [] → IsUrlStem w stem
    → AddsUnder l.urls (λ u. u ≡ w) none own → AddsPrefixes l.prefixes.items stem own c → FindsEach Urls l w c
prefixes_found rules l w stem none own c is e of a b = (
  b.ascending (places_ascend is.prefixes.0 is.prefixes.2.0 l.prefixes.items is.prefixes.2.1 is.prefixes.1.ascending)
      (a.ascending is.urls.ascending (subst (λ (ls : List (Bor (List ℕ))). All (λ x. IsAscending x.now) ls) (sym e) (All-nil (λ x. IsAscending x.now)))),
  λ n s. elim s [
    | inl here ↦ b.kept n (a.has w n refl here)
    | inr f ↦ b.has f.0 f.1 n f.2 (below_stars stem f.1.text f.3.0 of.0 f.4 (sym of.1 ∙ f.3.1)) f.5
  ],
)

-- what is added of prefixes: all of the text's that aren't on the way yet
pub record HasPrefixes (prefixes : List Prefix) (text : Text) (old new : Candidates) (way : Option ℕ) : Type 0 where
  pub kept : (n : ℕ) → IsAmong old n → IsAmong new n
  pub has : (j : ℕ) (g : Prefix) (n : ℕ) → slice_get prefixes j ≡ Some g → BeginsWith text g.text → Contains g.places n → IsAmong new n ⊎ IsOnWay prefixes way j g.text
  pub ascending : All (λ f. IsAscending f.places) prefixes → Ascend old → Ascend new
  pub within : IfSome way (λ i. i < length prefixes)

pub prefixes_start : (prefixes : List Prefix) (text : Text) (old : Candidates) (way : Option ℕ) → LinksTo prefixes (length prefixes) text way → IfSome way (λ i. i < length prefixes)
    → HasPrefixes prefixes text old old way
prefixes_start prefixes text old way leads lt = record {
  kept = λ n s. s;
  has = λ j g n at begins c. inr (leads j g (slice_get_within prefixes j g at) at begins);
  ascending = λ all up. up;
  within = lt;
}

pub prefixes_more : (prefixes : List Prefix) (text : Text) (first old new : Candidates) (p : ℕ) (f : Prefix) (places : Bor (List ℕ)) → ArePrefixes prefixes → slice_get prefixes p ≡ Some f
    → places.now ≡ f.places → new.lists.items ≡ old.lists.items ++ places ∷ [] → HasPrefixes prefixes text first old (Some p) → HasPrefixes prefixes text first new f.shorter
prefixes_more prefixes text first old new p f places are here same e was =
    let there : (P : List (Bor (List ℕ)) → Type 0) → P (old.lists.items ++ places ∷ []) → P new.lists.items = λ P h. subst P (sym e) h in
    let own : (n : ℕ) → Contains f.places n → IsAmong new n =
    λ n c. there (λ ls. StandsIn ls n) (stands_push old.lists.items places n (subst (λ (ns : List ℕ). Contains ns n) (sym same) c)) in
    let kept : (n : ℕ) → IsAmong old n → IsAmong new n = λ n s. there (λ ls. StandsIn ls n) (stands_kept old.lists.items (places ∷ []) n s) in
    let lt = slice_get_within prefixes p f here in
    record {
      kept = λ n s. kept n (was.kept n s);
      has = λ j g n at begins c. elim (was.has j g n at begins c) [
        | inl s ↦ inl (kept n s)
        | inr way ↦ elim (here_or_on prefixes p f j g are.linked here at way) [
          | inl one ↦ inl (own n (subst (λ (x : Prefix). Contains x.places n) one c))
          | inr on ↦ inr on
        ]
      ];
      ascending = λ all up. there (λ ls. All (λ x. IsAscending x.now) ls)
          (All-push (λ x. IsAscending x.now) old.lists.items places (was.ascending all up)
          (subst IsAscending (sym same) (subst (λ (x : Prefix). IsAscending x.places) (get_or_from_slice_get prefixes p f f here) (all p f lt))));
      within = shorter_within prefixes p f are.linked here;
    }

pub prefixes_all : (prefixes : List Prefix) (text : Text) (old new : Candidates) (way : Option ℕ) → way ≡ None → HasPrefixes prefixes text old new way → AddsPrefixes prefixes text old new
prefixes_all prefixes text old new way end was = record {
  kept = was.kept;
  has = λ j f n at begins c. elim (was.has j f n at begins c) [
    | inl s ↦ s
    | inr on ↦ absurd (subst (λ (o : Option ℕ). IsOnWay prefixes o j f.text) end on)
  ];
  ascending = was.ascending;
}

-- ---- the least of places

-- what makes a rule redundant covers it
covers_at : (rules : List Rule) (i j : ℕ) (b : Rule) → slice_get rules i ≡ Some b → MakesRedundant rules i j → CoversAt rules b j
unfolding MakesRedundantAt CoversAll
covers_at rules i j b here m =
    let same : m.0 ≡ b = same_Some m.0 b (sym m.2 ∙ here) in
    (m.1, m.3, subst (λ (x : Rule). Covers m.1 x) same m.4.1)

-- the least so far is below all but those of the lists that are left
pub record Narrows (rules : List Rule) (i : ℕ) (lists : List (Bor (List ℕ))) (first : ℕ) : Type 0 where
  pub holds : (first ≡ length rules) ⊎ MakesRedundant rules i first
  pub least : (n : ℕ) → MakesRedundant rules i n → StandsIn lists n ⊎ (first ≤ n)
  pub ascending : All (λ places. IsAscending places.now) lists

pub narrows_start : (rules : List Rule) (i : ℕ) (b : Rule) (c : Candidates) → slice_get rules i ≡ Some b → IncludeCovers rules b c → Narrows rules i c.lists.items (length rules)
unfolding IncludeCovers
narrows_start rules i b c here are = record {
  holds = inl refl;
  least = λ n m. inl (are.1 n (covers_at rules i n b here m));
  ascending = are.0;
}

pub last_ascends : (rules : List Rule) (i : ℕ) (lists : List (Bor (List ℕ))) (p : Bor (List ℕ)) (first : ℕ) → Narrows rules i (lists ++ p ∷ []) first → IsAscending p.now
last_ascends rules i lists p first was =
    subst (λ (x : Bor (List ℕ)). IsAscending x.now) (get_or_push lists p p (length lists) refl) (was.ascending (length lists) p (omega (arith, length-append lists (p ∷ []))))

pub narrows_more : (rules : List Rule) (i : ℕ) (lists : List (Bor (List ℕ))) (p : Bor (List ℕ)) (first next : ℕ) → Narrows rules i (lists ++ p ∷ []) first
    → IsSoonest rules i p.now first next → Narrows rules i lists next
narrows_more rules i lists p first next was is = record {
  holds = elim is.holds [
    | inl e ↦ subst (λ (n : ℕ). (n ≡ length rules) ⊎ MakesRedundant rules i n) (sym e) was.holds
    | inr m ↦ inr m
  ];
  least = λ n m. elim (was.least n m) [
    | inl s ↦ elim (stands_cases lists p n s) [
      | inl left ↦ inl left
      | inr c ↦ inr (is.least n (m, c))
    ]
    | inr le ↦ let below = is.below in inr (omega (arith, le, below))
  ];
  ascending = λ k d lt.
      subst (λ (x : Bor (List ℕ)). IsAscending x.now) (get_or_append_left lists (p ∷ []) d k lt) (was.ascending k d (omega (arith, lt, length-append lists (p ∷ []))));
}

none_left : (rules : List Rule) (i first : ℕ) (lists : List (Bor (List ℕ))) → length lists ≡ 0 → Narrows rules i lists first → (n : ℕ) → MakesRedundant rules i n → first ≤ n
none_left rules i first lists none was n m = elim (was.least n m) [
  | inl s ↦ absurd (omega (arith, s.2, none))
  | inr le ↦ le
]

pub narrowed : (rules : List Rule) (i first : ℕ) (lists : List (Bor (List ℕ))) → length lists ≡ 0 → Narrows rules i lists first → first < length rules
    → IsLeastCoverIfAny rules i (Some first)
narrowed rules i first lists none was lt = (
  elim was.holds [ inl e ↦ absurd (omega (arith, e, lt)) | inr m ↦ m ],
  none_left rules i first lists none was,
)

pub narrowed_none : (rules : List Rule) (i first : ℕ) (lists : List (Bor (List ℕ))) → length lists ≡ 0 → Narrows rules i lists first → length rules ≤ first
    → IsLeastCoverIfAny rules i None
narrowed_none rules i first lists none was ge n m =
    let le = none_left rules i first lists none was n m in
    let lt = slice_get_within rules n m.1 m.3 in
    omega (arith, ge, le, lt)

-- ---- the first of places

abbrev pub NoneFirst : List Rule → ℕ → List ℕ → ℕ → Type 0
NoneFirst rules i listed count = (k n : ℕ) → k < count → slice_get listed k ≡ Some n → MakesRedundant rules i n → ⊥

pub first_more : (rules : List Rule) (i : ℕ) (listed : List ℕ) (count n : ℕ) → slice_get listed count ≡ Some n → (MakesRedundant rules i n → ⊥) → NoneFirst rules i listed count → NoneFirst rules i listed (count + 1)
first_more rules i listed count n at never before k m lt e r = elim (cases_lt k count) [
  | inl below ↦ before k m below e r
  | inr le ↦
      let here : k ≡ count = omega (arith, le, lt) in
      let same : m ≡ n = same_Some m n (sym e ∙ ap (slice_get listed) here ∙ at) in
      never (subst (λ (x : ℕ). MakesRedundant rules i x) same r)
]

pub first_none : (rules : List Rule) (i : ℕ) (listed : List ℕ) (count : ℕ) → count ≡ length listed → NoneFirst rules i listed count → (n : ℕ) → IsRedundantBy rules i listed n → ⊥
first_none rules i listed count all before n r =
    before r.1.0 n (omega (arith, all, r.1.1)) (slice_get-get_or listed r.1.0 n r.1.1 ∙ ap (λ (x : ℕ). Some x) r.1.2) r.0

pub first_least : (rules : List Rule) (i : ℕ) (listed : List ℕ) (count n : ℕ) → IsAscending listed → slice_get listed count ≡ Some n → NoneFirst rules i listed count
    → (k : ℕ) → IsRedundantBy rules i listed k → n ≤ k
first_least rules i listed count n up at before k r =
    let there : slice_get listed r.1.0 ≡ Some k = slice_get-get_or listed r.1.0 k r.1.1 ∙ ap (λ (x : ℕ). Some x) r.1.2 in
    elim (cases_lt r.1.0 count) [
      | inl lt ↦ absurd (before r.1.0 k lt there r.0)
      | inr le ↦ elim (cases_lt count r.1.0) [
        | inl gt ↦
            let order = up count r.1.0 k gt r.1.1 in
            let first : get_or listed count k ≡ n = get_or_from_slice_get listed count n k at in
            omega (arith, order, first, r.1.2)
        | inr ge ↦
            let here : r.1.0 ≡ count = omega (arith, le, ge) in
            let same : k ≡ n = same_Some k n (sym there ∙ ap (slice_get listed) here ∙ at) in
            omega (arith, same)
      ]
    ]

pub soonest_here : (rules : List Rule) (i : ℕ) (listed : List ℕ) (count n limit : ℕ) → IsAscending listed → slice_get listed count ≡ Some n → n < limit → MakesRedundant rules i n
    → NoneFirst rules i listed count → IsSoonest rules i listed limit n
soonest_here rules i listed count n limit up at lt holds before = record {
  below = omega (arith, lt);
  holds = inr holds;
  least = first_least rules i listed count n up at before;
}

pub soonest_limit : (rules : List Rule) (i : ℕ) (listed : List ℕ) (count n limit : ℕ) → IsAscending listed → slice_get listed count ≡ Some n → limit ≤ n
    → NoneFirst rules i listed count → IsSoonest rules i listed limit limit
soonest_limit rules i listed count n limit up at le before = record {
  below = omega arith;
  holds = inl refl;
  least = λ k r. let far = first_least rules i listed count n up at before k r in omega (arith, le, far);
}

pub soonest_none : (rules : List Rule) (i : ℕ) (listed : List ℕ) (count limit : ℕ) → count ≡ length listed → NoneFirst rules i listed count → IsSoonest rules i listed limit limit
soonest_none rules i listed count limit all before = record {
  below = omega arith;
  holds = inl refl;
  least = λ k r. absurd (first_none rules i listed count all before k r);
}

-- ---- the fewest places

pub fewer_of : (rules : List Rule) (b : Rule) (best : Option Candidates) (other c : Candidates) → (best ≡ Some c) ⊎ (c ≡ other)
    → IfSome best (IncludeCovers rules b) → IncludeCovers rules b other → IncludeCovers rules b c
fewer_of rules b best other c (inl e) was is = subst (λ (o : Option Candidates). IfSome o (IncludeCovers rules b)) e was
fewer_of rules b best other c (inr e) was is = subst (IncludeCovers rules b) (sym e) is
