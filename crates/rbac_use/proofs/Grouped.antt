-- Words are grouped, one pair after another.
use Rattle.std.proofs.Common.{◌≡◌, ◌≢◌, ◌⊎◌, ◌↔◌, ◌∙◌, ◌++◌, ◌∷◌, [], ℕ, Contains, IsTrue, List, ap, ap₂, arith, get_or, inl, inr, refl, subst, sym, true}
use Rattle.std.specs.Cmp.Lexicographic.{slice_cmp}
use Rattle.std.specs.Ordering.{eq_by_cmp, is_eq, ordering_then}
use Rattle.std.specs.List.{dedup}
use Rattle.std.specs.List.Sorted.{IsPermutation, IsSorted}
use Rattle.std.specs.Prelude.{AllPairs, codes}
use Rattle.std.specs.declared.cmp.Ordering.{Ordering}
use Rattle.std.specs.declared.cmp.Ordering.TheVariants.{Equal, Greater, Less}
use Rattle.std.proofs.lemmas.Cmp.{eq_by_cmp_equiv, tied_itself}
use Rattle.std.proofs.lemmas.List.Kept.{Contains-dedup, Contains-from_dedup, IsStrictlySortedBy-dedup}
use Rattle.std.proofs.lemmas.List.Sorted.{Contains-permutation, IsPermutation-sym}
use Rattle.std.proofs.lemmas.List.Elements.{All-contains, All-push, Contains-append_left, Contains-push}
use Rattle.std.proofs.lemmas.Map.Keys.{Less-from_sorted}
use Rattle.std.proofs.lemmas.Map.Lookups.{exact_bytes}
use Rattle.rbac_terms.proofs.Orderings.{both_equal, equal_from_test}
use Rattle.rbac_terms.specs.Text.{Text, text_cmp}
use Rattle.rbac_model.proofs.OneList.{one_of_name}
use Rattle.rbac_model.proofs.OwnWords.{any_from}
use Rattle.rbac_use.specs.Grouping.{AreGrouped, AreInOrder, AreWords, HasWord, group_of, key_cmp, key_cmp_total, key_texts, kind_text, pair_cmp, pair_cmp_equiv, pair_cmp_total, under}
use Rattle.rbac_use.specs.declared.grouping.Group.{Group}
use Rattle.rbac_use.specs.declared.grouping.Kind.{Kind}
use Rattle.rbac_use.specs.declared.grouping.Kind.TheVariants.{AnyName, Names, Resources, Urls}
use Rattle.rbac_use.specs.declared.grouping.Pair.{Pair}
use Rattle.rbac_use.specs.declared.grouping.RuleKey.{RuleKey}
use Rattle.rbac_use.proofs.Logged.{exact_texts}
use Rattle.rbac_use.proofs.Pushed.{a_word, alone, all_from, any_pushed, before_last, contains_pushed, front_pairs, not_empty, one_in_order, only_one, pairs_pushed}

-- ---- pairs that compare alike are one

unlike : (a b : Text) (i : ℕ) → get_or a i 0 ≢ get_or b i 0 → a ≡ b → ⊥
unlike a b i not e = not (ap (λ (t : Text). get_or t i 0) e)

pub one_kind : (a b : Kind) → kind_text a ≡ kind_text b → a ≡ b
one_kind AnyName AnyName e = refl
one_kind Names Names e = refl
one_kind Resources Resources e = refl
one_kind Urls Urls e = refl
one_kind AnyName Names e = absurd (unlike (codes "any") (codes "names") 0 (λ d. omega (arith, d)) e)
one_kind AnyName Resources e = absurd (unlike (codes "any") (codes "resources") 0 (λ d. omega (arith, d)) e)
one_kind AnyName Urls e = absurd (unlike (codes "any") (codes "urls") 0 (λ d. omega (arith, d)) e)
one_kind Names AnyName e = absurd (unlike (codes "names") (codes "any") 0 (λ d. omega (arith, d)) e)
one_kind Names Resources e = absurd (unlike (codes "names") (codes "resources") 0 (λ d. omega (arith, d)) e)
one_kind Names Urls e = absurd (unlike (codes "names") (codes "urls") 0 (λ d. omega (arith, d)) e)
one_kind Resources AnyName e = absurd (unlike (codes "resources") (codes "any") 0 (λ d. omega (arith, d)) e)
one_kind Resources Names e = absurd (unlike (codes "resources") (codes "names") 0 (λ d. omega (arith, d)) e)
one_kind Resources Urls e = absurd (unlike (codes "resources") (codes "urls") 0 (λ d. omega (arith, d)) e)
one_kind Urls AnyName e = absurd (unlike (codes "urls") (codes "any") 0 (λ d. omega (arith, d)) e)
one_kind Urls Names e = absurd (unlike (codes "urls") (codes "names") 0 (λ d. omega (arith, d)) e)
one_kind Urls Resources e = absurd (unlike (codes "urls") (codes "resources") 0 (λ d. omega (arith, d)) e)

abbrev key : Text → Kind → Text → Text → List Text → RuleKey
key namespace kind group resource words = record { namespace = namespace; kind = kind; group = group; resource = resource; words = words }

pub one_key : (a b : RuleKey) → key_texts a ≡ key_texts b → a ≡ b
one_key a b same =
    let namespace : a.namespace ≡ b.namespace = cc (same) in
    let kind : kind_text a.kind ≡ kind_text b.kind = cc (same) in
    let group : a.group ≡ b.group = cc (same) in
    let resource : a.resource ≡ b.resource = cc (same) in
    let words : a.words ≡ b.words = cc (same) in
    ap₂ (λ (n : Text) (k : Kind). key n k a.group a.resource a.words) namespace (one_kind a.kind b.kind kind)
    ∙ ap₂ (λ (g : Text) (r : Text). key b.namespace b.kind g r a.words) group resource
    ∙ ap (λ (ws : List Text). key b.namespace b.kind b.group b.resource ws) words

-- a test of two keys
pub key_by_test : (a b : RuleKey) → IsTrue (is_eq (key_cmp a b)) ↔ (a ≡ b)
key_by_test a b = (
  λ t. one_key a b (exact_texts (key_texts a) (key_texts b) (equal_from_test (key_cmp a b) t)),
  λ e. subst (λ (k : RuleKey). is_eq (key_cmp a k) ≡ true) e ((eq_by_cmp_equiv key_cmp_total).refl a),
)

one_pair : (a b : Pair) → pair_cmp a b ≡ Equal → a ≡ b
one_pair a b e =
    let parts = both_equal (slice_cmp text_cmp (key_texts a.key) (key_texts b.key)) (text_cmp a.word b.word) e in
    ap₂ (λ (k : RuleKey) (w : Text). under k w) (one_key a.key b.key (exact_texts (key_texts a.key) (key_texts b.key) parts.0)) (exact_bytes a.word b.word parts.1)

-- ---- groups in order

-- a group in order is determined by its key
pub one_group : (groups : List Group) (a b : Group) → AreInOrder groups → Contains groups a → Contains groups b → a.key ≡ b.key → a ≡ b
one_group groups a b up c d e = one_of_name (λ (g : Group). key_texts g.key) groups a b up c d (ap key_texts e)

then_less : (o p : Ordering) → ordering_then o p ≡ Less → (o ≡ Less) ⊎ ((o ≡ Equal) × (p ≡ Less))
then_less Less p e = inl refl
then_less Equal p e = inr (refl, e)
then_less Greater p e = cc

-- a pair before another has an earlier key, or the same key and an earlier word
pair_before : (a b : Pair) → pair_cmp a b ≡ Less → (key_cmp a.key b.key ≡ Less) ⊎ ((a.key ≡ b.key) × (text_cmp a.word b.word ≡ Less))
pair_before a b e = elim (then_less (key_cmp a.key b.key) (text_cmp a.word b.word) e) [
  | inl l ↦ inl l
  | inr h ↦ inr (one_key a.key b.key (exact_texts (key_texts a.key) (key_texts b.key) h.0), h.1)
]

-- keys come in order of namespaces
pub keys_before : (a b : RuleKey) → key_cmp a b ≡ Less → (a.namespace ≡ b.namespace) ⊎ (text_cmp a.namespace b.namespace ≡ Less)
keys_before a b e = elim (then_less (text_cmp a.namespace b.namespace) (slice_cmp text_cmp (kind_text a.kind ∷ a.group ∷ a.resource ∷ a.words) (kind_text b.kind ∷ b.group ∷ b.resource ∷ b.words)) e) [
  | inl l ↦ inr l
  | inr h ↦ inl (exact_bytes a.namespace b.namespace h.0)
]

not_before_itself : (k : RuleKey) → key_cmp k k ≡ Less → ⊥
not_before_itself k e = let f = tied_itself key_cmp_total k in cc

-- ---- one pair more

module _ (k : RuleKey) (word : Text) where
  abbrev Has : Group → Type 0
  Has g = (g.key ≡ k) × Contains g.words word

abbrev IsPairBefore : Pair → Pair → Type 0
IsPairBefore a b = pair_cmp a b ≡ Less

abbrev IsGroupBefore : Group → Group → Type 0
IsGroupBefore a b = key_cmp a.key b.key ≡ Less

module _ (done : List Pair) (pair : Pair) (up : AllPairs (λ a b. pair_cmp a b ≡ Less) (done ++ pair ∷ [])) (groups : List Group) (are : AreGrouped (λ (x : Pair). Contains done x) groups) where
  abbrev More : List Group → Type 0
  More new = AreGrouped (λ (x : Pair). Contains (done ++ pair ∷ []) x) new

  grouped_before : (g : Group) (word : Text) → Contains groups g → Contains g.words word → (key_cmp g.key pair.key ≡ Less) ⊎ ((g.key ≡ pair.key) × (text_cmp word pair.word ≡ Less))
  grouped_before g word c d =
      pair_before (under g.key word) pair
      (before_last IsPairBefore done pair up (under g.key word) ((are.exact g.key word).0 (any_from (Has g.key word) groups g c (refl, d))))

  words_of : (g : Group) → Contains groups g → AreWords g.words
  words_of g c = All-contains (λ (x : Group). AreWords x.words) groups g are.each c

  -- a group whose key isn't the pair's comes before it
  apart_before : (g : Group) → Contains groups g → g.key ≢ pair.key → key_cmp g.key pair.key ≡ Less
  apart_before g c not = (let w = a_word g.words (words_of g c).some in elim (grouped_before g w.0 c w.1) [ inl l ↦ l | inr h ↦ absurd (not h.0) ])

  -- all groups do, if the last one does
  all_before : (front : List Group) (g : Group) → groups ≡ front ++ g ∷ [] → g.key ≢ pair.key → (x : Group) → Contains groups x → key_cmp x.key pair.key ≡ Less
  all_before front g cut not x c =
      let last : key_cmp g.key pair.key ≡ Less = apart_before g (subst (λ (gs : List Group). Contains gs g) (sym cut) (Contains-push front g)) not in
      elim ((contains_pushed front g x).0 (subst (λ (gs : List Group). Contains gs x) cut c)) [
        | inl d ↦ key_cmp_total.trans x.key g.key pair.key (before_last IsGroupBefore front g (subst AreInOrder cut are.ordered) x d) last
        | inr e ↦ subst (λ (y : Group). key_cmp y.key pair.key ≡ Less) e last
      ]

  abbrev first_group : Group
  first_group = group_of pair.key (pair.word ∷ [])

  word_alone : AreWords (pair.word ∷ [])
  word_alone = record { some = not_empty [] pair.word; ordered = one_in_order (λ (a b : Text). text_cmp a b ≡ Less) pair.word }

  -- a group for the pair alone
  group_pushed : ((x : Group) → Contains groups x → key_cmp x.key pair.key ≡ Less) → More (groups ++ group_of pair.key (pair.word ∷ []) ∷ [])
  group_pushed before = record {
    ordered = pairs_pushed IsGroupBefore groups first_group are.ordered before;
    each = All-push (λ (g : Group). AreWords g.words) groups first_group are.each word_alone;
    exact = λ k word. (
      λ w. (contains_pushed done pair (under k word)).1 (elim ((any_pushed (Has k word) groups first_group).0 w) [
        | inl h ↦ inl ((are.exact k word).0 h)
        | inr has ↦ inr (ap₂ (λ (a : RuleKey) (b : Text). under a b) has.0 (only_one pair.word word has.1))
      ]),
      λ c. (any_pushed (Has k word) groups first_group).1 (elim ((contains_pushed done pair (under k word)).0 c) [
        | inl d ↦ inl ((are.exact k word).1 d)
        | inr e ↦ inr (ap (λ (x : Pair). x.key) e, subst (λ (t : Text). Contains (pair.word ∷ []) t) (ap (λ (x : Pair). x.word) e) (alone pair.word))
      ]),
    );
  }

  -- the first group of all
  pub first_pushed : groups ≡ [] → More (groups ++ group_of pair.key (pair.word ∷ []) ∷ [])
  first_pushed none = group_pushed (λ x c. absurd (let d = subst (λ (gs : List Group). Contains gs x) none c in omega (arith, d.1)))

  -- the first group with its key
  pub next_pushed : (front : List Group) (g : Group) → groups ≡ front ++ g ∷ [] → g.key ≢ pair.key → More (groups ++ group_of pair.key (pair.word ∷ []) ∷ [])
  next_pushed front g cut not = group_pushed (all_before front g cut not)

  -- the last group has the key
  module _ (front : List Group) (g : Group) (cut : groups ≡ front ++ g ∷ []) (same : g.key ≡ pair.key) where
    abbrev longer_group : Group
    longer_group = group_of g.key (g.words ++ pair.word ∷ [])

    last_there : Contains groups g
    last_there = subst (λ (gs : List Group). Contains gs g) (sym cut) (Contains-push front g)

    word_before : (w : Text) → Contains g.words w → text_cmp w pair.word ≡ Less
    word_before w c = elim (grouped_before g w last_there c) [
      | inl l ↦ absurd (not_before_itself g.key (subst (λ (k : RuleKey). key_cmp g.key k ≡ Less) (sym same) l))
      | inr h ↦ h.1
    ]

    longer_words : AreWords longer_group.words
    longer_words = record {
      some = not_empty g.words pair.word;
      ordered = pairs_pushed (λ (a b : Text). text_cmp a b ≡ Less) g.words pair.word (words_of g last_there).ordered word_before;
    }

    in_front : (x : Group) → Contains front x → Contains groups x
    in_front x c = subst (λ (gs : List Group). Contains gs x) (sym cut) (Contains-append_left front (g ∷ []) x c)

    pub word_added : More (front ++ group_of g.key (g.words ++ pair.word ∷ []) ∷ [])
    word_added =
        let in_order : AreInOrder (front ++ g ∷ []) = subst AreInOrder cut are.ordered in record {
          ordered = pairs_pushed IsGroupBefore front longer_group (front_pairs IsGroupBefore front (g ∷ []) in_order) (λ x c. before_last IsGroupBefore front g in_order x c);
          each = All-push (λ (x : Group). AreWords x.words) front longer_group (all_from (λ (x : Group). AreWords x.words) front (λ x c. words_of x (in_front x c))) longer_words;
          exact = λ k word. (
            λ w. (contains_pushed done pair (under k word)).1 (elim ((any_pushed (Has k word) front longer_group).0 w) [
              | inl h ↦ inl ((are.exact k word).0 (subst (λ (gs : List Group). HasWord gs k word) (sym cut) ((any_pushed (Has k word) front g).1 (inl h))))
              | inr has ↦ elim ((contains_pushed g.words pair.word word).0 has.1) [
                | inl d ↦ inl ((are.exact k word).0 (any_from (Has k word) groups g last_there (has.0, d)))
                | inr e ↦ inr (ap₂ (λ (a : RuleKey) (b : Text). under a b) (sym same ∙ has.0) e)
              ]
            ]),
            λ c. (any_pushed (Has k word) front longer_group).1 (elim ((contains_pushed done pair (under k word)).0 c) [
              | inl d ↦ elim ((any_pushed (Has k word) front g).0 (subst (λ (gs : List Group). HasWord gs k word) cut ((are.exact k word).1 d))) [
                | inl h ↦ inl h
                | inr has ↦ inr (has.0, Contains-append_left g.words (pair.word ∷ []) word has.1)
              ]
              | inr e ↦ inr (same ∙ ap (λ (x : Pair). x.key) e, subst (λ (t : Text). Contains (g.words ++ pair.word ∷ []) t) (ap (λ (x : Pair). x.word) e) (Contains-push g.words pair.word))
            ]),
          );
        }

-- ---- all pairs

pub none_grouped : AreGrouped (λ (x : Pair). Contains [] x) []
none_grouped = record {
  ordered = λ i j d lt low. absurd (omega (arith, low));
  each = λ k d low. absurd (omega (arith, low));
  exact = λ k word. (λ w. absurd (let low = w.2 in omega (arith, low)), λ c. absurd (let low = c.1 in omega (arith, low)));
}

-- groups of the same pairs
pub same_grouped : (xs ys : List Pair) (groups : List Group) → ((x : Pair) → Contains xs x ↔ Contains ys x) → AreGrouped (λ (x : Pair). Contains xs x) groups → AreGrouped (λ (x : Pair). Contains ys x) groups
same_grouped xs ys groups same are = record {
  ordered = are.ordered;
  each = are.each;
  exact = λ k word. (λ w. (same (under k word)).0 ((are.exact k word).0 w), λ c. (are.exact k word).1 ((same (under k word)).1 c));
}

-- sorting and dropping repeats leave each pair before all later ones
pub pairs_in_order : (sorted ys : List Pair) → IsSorted pair_cmp sorted → ys ≡ dedup (eq_by_cmp pair_cmp) sorted → AllPairs (λ a b. pair_cmp a b ≡ Less) ys
pairs_in_order sorted ys up e = subst (λ (zs : List Pair). AllPairs IsPairBefore zs) (sym e)
    (λ i j d lt low. Less-from_sorted pair_cmp (dedup (eq_by_cmp pair_cmp) sorted) i j d (IsStrictlySortedBy-dedup pair_cmp_total (λ x y. refl) sorted up) lt low)

-- what sorting and dropping repeats leave are the same pairs
pub same_pairs : (xs sorted ys : List Pair) → IsPermutation xs sorted → ys ≡ dedup (eq_by_cmp pair_cmp) sorted → (x : Pair) → Contains ys x ↔ Contains xs x
same_pairs xs sorted ys moved e x = (
  λ c. Contains-permutation sorted xs x (IsPermutation-sym xs sorted moved) (Contains-from_dedup (eq_by_cmp pair_cmp) sorted x (subst (λ (zs : List Pair). Contains zs x) e c)),
  λ c. subst (λ (zs : List Pair). Contains zs x) (sym e)
      (Contains-dedup pair_cmp_equiv (λ a b t. one_pair a b (equal_from_test (pair_cmp a b) t)) sorted x (Contains-permutation xs sorted x moved c)),
)
