-- prefixes of URLs, in order and linked
use Rattle.std.proofs.Common.{◌≡◌, ℕ, ◌+◌, ◌-◌, ◌<◌, ◌≤◌, ◌⊎◌, inl, inr, List, [], ◌∷◌, ◌++◌, get_or, length, map, append_assoc, sym, ap, ◌∙◌, refl, subst, arith, zero, suc, Bool, true, false, All}
use Rattle.std.specs.Prelude.{Option, Some, None, Contains, IfSome, slice_get, unwrap_or}
use Rattle.std.specs.BTreeMap.{get, IsOrdered}
use Rattle.std.specs.Option.{option_map, SomeIff}
use Rattle.std.specs.BTreeMap.Comparable.{le_lt_trans}
use Rattle.std.specs.Map.{keys_of}
use Rattle.std.specs.List.{AllByRecursion}
use Rattle.std.specs.List.Sorted.{IsStrictlySortedBy, IsPartitionedBy, IsPartitionPoint}
use Rattle.std.specs.Ordering.{nat_cmp, ordering_then, is_le}
use Rattle.std.specs.declared.cmp.Ordering.{Ordering}
use Rattle.std.specs.declared.cmp.Ordering.TheVariants.{Less, Equal, Greater}
use Rattle.std.proofs.lemmas.Bool.{cases_lt}
use Rattle.std.proofs.lemmas.Cmp.{tied_itself, nat_cmp_total, nat_list_cmp_total}
use Rattle.std.proofs.lemmas.List.{get_or_append_left, get_or_push, length-append, length-map, map-append}
use Rattle.std.proofs.lemmas.Map.Entries.{btree_map_get_place}
use Rattle.std.proofs.lemmas.Map.Keys.{le_from_is_le}
use Rattle.std.proofs.lemmas.Map.Lookups.{exact_bytes}
use Rattle.std.proofs.lemmas.Map.Views.{btree_map_get_iff}
use Rattle.std.proofs.lemmas.Option.{slice_get_within, slice_get-get_or, slice_get-map, get_or_from_slice_get, same_Some}
use Rattle.rbac_terms.specs.Text.{Text, text_cmp, BeginsWith}
use Rattle.rbac_lint.specs.declared.prefixes.Prefix.{Prefix}
use Rattle.rbac_lint.specs.RulesByWord.{PlaceLists, places_under, IsAscending, AreAscending}
use Rattle.rbac_lint.specs.Prefixes.{entry_of, prefix, IsOnWay, LinksTo, IsLinkedAt, AreLinkedPrefixes, ArePrefixes, PutsPrefix}

-- ---- the order of texts

le_head : (o p : Ordering) → is_le (ordering_then o p) ≡ true → is_le o ≡ true
le_head Less p e = refl
le_head Equal p e = refl
le_head Greater p e = e

le_tail : (c d : ℕ) (p : Ordering) → c ≡ d → is_le (ordering_then (nat_cmp c d) p) ≡ true → is_le p ≡ true
le_tail c d p same e =
    let tie : nat_cmp c d ≡ Equal = ap (nat_cmp c) (sym same) ∙ tied_itself nat_cmp_total c in
    sym (ap (λ (o : Ordering). is_le (ordering_then o p)) tie) ∙ e

-- a text between another and one that begins with this other, begins with it too
between : (g f rest : Text) → is_le (text_cmp g f) ≡ true → is_le (text_cmp f (g ++ rest)) ≡ true → BeginsWith f g
between [] f rest a b = (f, refl)
between (c ∷ g) [] rest a b = cc
between (c ∷ g) (d ∷ f) rest a b =
    let same : c ≡ d = omega (arith, le_from_is_le c d (le_head (nat_cmp c d) (text_cmp g f) a), le_from_is_le d c (le_head (nat_cmp d c) (text_cmp f (g ++ rest)) b)) in
    let more : BeginsWith f g = between g f rest (le_tail c d (text_cmp g f) same a) (le_tail d c (text_cmp f (g ++ rest)) (sym same) b) in
    (more.0, ap (λ (t : Text). d ∷ t) more.1 ∙ ap (λ (x : ℕ). x ∷ (g ++ more.0)) (sym same))

prefix_le : (g rest : Text) → is_le (text_cmp g (g ++ rest)) ≡ true
prefix_le [] [] = refl
prefix_le [] (r ∷ rest) = refl
prefix_le (c ∷ g) rest = ap (λ (o : Ordering). is_le (ordering_then o (text_cmp g (g ++ rest)))) (tied_itself nat_cmp_total c) ∙ prefix_le g rest

le_through : (a b c : Text) (o : Ordering) → o ≡ text_cmp b c → is_le (text_cmp a b) ≡ true → is_le o ≡ true → is_le (text_cmp a c) ≡ true
le_through a b c Less e ab bc = ap is_le (le_lt_trans nat_list_cmp_total a b c ab (sym e))
le_through a b c Equal e ab bc = subst (λ (t : Text). is_le (text_cmp a t) ≡ true) (exact_bytes b c (sym e)) ab
le_through a b c Greater e ab bc = cc

-- ---- places of a list with one more

got_left : (xs ys : List Prefix) (i : ℕ) (x : Prefix) → slice_get xs i ≡ Some x → slice_get (xs ++ ys) i ≡ Some x
got_left xs ys i x e =
    let lt = slice_get_within xs i x e in
    slice_get-get_or (xs ++ ys) i x (omega (arith, lt, length-append xs ys)) ∙ ap (λ (y : Prefix). Some y) (get_or_append_left xs ys x i lt ∙ get_or_from_slice_get xs i x x e)

got_before : (xs : List Prefix) (y : Prefix) (i : ℕ) (x : Prefix) → i < length xs → slice_get (xs ++ y ∷ []) i ≡ Some x → slice_get xs i ≡ Some x
got_before xs y i x lt e =
    slice_get-get_or xs i x lt ∙ ap (λ (z : Prefix). Some z) (sym (get_or_append_left xs (y ∷ []) x i lt) ∙ get_or_from_slice_get (xs ++ y ∷ []) i x x e)

got_cases : (xs : List Prefix) (y : Prefix) (i : ℕ) (x : Prefix) → slice_get (xs ++ y ∷ []) i ≡ Some x → (slice_get xs i ≡ Some x) ⊎ ((i ≡ length xs) × (x ≡ y))
got_cases xs y i x e = elim (cases_lt i (length xs)) [
  | inl lt ↦ inl (got_before xs y i x lt e)
  | inr le ↦
      let within = slice_get_within (xs ++ y ∷ []) i x e in
      let here : i ≡ length xs = omega (arith, le, within, length-append xs (y ∷ [])) in
      inr (here, sym (get_or_from_slice_get (xs ++ y ∷ []) i x x e) ∙ get_or_push xs y x i (sym here))
]

-- ---- ways

way_kept : (prefixes : List Prefix) (x : Prefix) (way : Option ℕ) (j : ℕ) (text : Text) → IsOnWay prefixes way j text → IsOnWay (prefixes ++ x ∷ []) way j text
way_kept prefixes x None j text h = h
way_kept prefixes x (Some i) j text h = (h.0, got_left prefixes (x ∷ []) i h.0 h.1, h.2, h.3)

-- how many steps a way has at most
abbrev pub steps_left : Option ℕ → ℕ
steps_left None = 0
steps_left (Some i) = i + 1

steps_below : (way : Option ℕ) (p : ℕ) → IfSome way (λ i. i < p) → steps_left way < p + 1
steps_below None p lt = omega arith
steps_below (Some i) p lt = omega (arith, lt)

pub steps_fall : (prefixes : List Prefix) (p : ℕ) (f : Prefix) (way : Option ℕ) → AreLinkedPrefixes prefixes → slice_get prefixes p ≡ Some f → way ≡ Some p → steps_left f.shorter < steps_left way
steps_fall prefixes p f way linked here is = subst (λ (o : Option ℕ). steps_left f.shorter < steps_left o) (sym is) (steps_below f.shorter p (linked p f here).1)

pub place_within : (way : Option ℕ) (p count : ℕ) → way ≡ Some p → IfSome way (λ i. i < count) → p < count
place_within way p count is within = subst (λ (o : Option ℕ). IfSome o (λ i. i < count)) is within

widen : (way : Option ℕ) (p count : ℕ) → p < count → IfSome way (λ i. i < p) → IfSome way (λ i. i < count)
widen None p count lt w = tt
widen (Some i) p count lt w = omega (arith, lt, w)

pub shorter_within : (prefixes : List Prefix) (p : ℕ) (f : Prefix) → AreLinkedPrefixes prefixes → slice_get prefixes p ≡ Some f → IfSome f.shorter (λ i. i < length prefixes)
shorter_within prefixes p f linked here = widen f.shorter p (length prefixes) (slice_get_within prefixes p f here) (linked p f here).1

-- the last that isn't after the text leads to all with which it begins
pub leads_from : (prefixes : List Prefix) (p : ℕ) (f : Prefix) (count : ℕ) (text : Text) → ArePrefixes prefixes → slice_get prefixes p ≡ Some f → is_le (text_cmp f.text text) ≡ true
    → ((j : ℕ) (g : Prefix) → j < count → slice_get prefixes j ≡ Some g → p < j → is_le (text_cmp g.text text) ≡ true → ⊥) → LinksTo prefixes count text (Some p)
leads_from prefixes p f count text are here up last j g lt at begins = elim (cases_lt p j) [
  | inl after ↦ absurd (last j g lt at after (subst (λ (t : Text). is_le (text_cmp g.text t) ≡ true) (sym begins.1) (prefix_le g.text begins.0)))
  | inr le ↦ (f, here, le, between g.text f.text begins.0 (are.order j p g f le at here) (subst (λ (t : Text). is_le (text_cmp f.text t) ≡ true) begins.1 up))
]

-- one on the way is that which stands here, or is on the way from there
pub here_or_on : (prefixes : List Prefix) (p : ℕ) (f : Prefix) (j : ℕ) (g : Prefix) → AreLinkedPrefixes prefixes → slice_get prefixes p ≡ Some f → slice_get prefixes j ≡ Some g
    → IsOnWay prefixes (Some p) j g.text → (g ≡ f) ⊎ IsOnWay prefixes f.shorter j g.text
here_or_on prefixes p f j g linked here at way =
    let same : way.0 ≡ f = same_Some way.0 f (sym way.1 ∙ here) in
    elim (cases_lt j p) [
      | inl before ↦ inr ((linked p f here).0 j g before at (subst (λ (x : Prefix). BeginsWith x.text g.text) same way.3))
      | inr le ↦
          let one : j ≡ p = omega (arith, le, way.2) in
          inl (same_Some g f (sym at ∙ ap (slice_get prefixes) one ∙ here))
    ]

pub leads_on : (prefixes : List Prefix) (p : ℕ) (f : Prefix) (count : ℕ) (text : Text) → AreLinkedPrefixes prefixes → slice_get prefixes p ≡ Some f → (BeginsWith text f.text → ⊥)
    → LinksTo prefixes count text (Some p) → LinksTo prefixes count text f.shorter
leads_on prefixes p f count text linked here other leads j g lt at begins = elim (here_or_on prefixes p f j g linked here at (leads j g lt at begins)) [
  | inl e ↦ absurd (other (subst (λ (x : Prefix). BeginsWith text x.text) e begins))
  | inr way ↦ way
]

pub leads_none : (prefixes : List Prefix) (count : ℕ) (text : Text) → ((j : ℕ) (g : Prefix) → j < count → slice_get prefixes j ≡ Some g → is_le (text_cmp g.text text) ≡ true → ⊥)
    → LinksTo prefixes count text None
leads_none prefixes count text never j g lt at begins =
    never j g lt at (subst (λ (t : Text). is_le (text_cmp g.text t) ≡ true) (sym begins.1) (prefix_le g.text begins.0))

-- the last of so many that aren't after the text leads to all, where none of the others comes before it
leads_last : (prefixes : List Prefix) (n : ℕ) (way : Option ℕ) (text : Text) → ArePrefixes prefixes → n ≤ length prefixes → SomeIff way (1 ≤ n) (n - 1)
    → ((i : ℕ) (f : Prefix) → i < n → slice_get prefixes i ≡ Some f → is_le (text_cmp f.text text) ≡ true)
    → ((j : ℕ) (g : Prefix) → j < length prefixes → n ≤ j → slice_get prefixes j ≡ Some g → is_le (text_cmp g.text text) ≡ true → ⊥) → LinksTo prefixes (length prefixes) text way
leads_last prefixes n None text are within none up past = leads_none prefixes (length prefixes) text (λ j g lt at e. elim (cases_lt 0 n) [
  | inl some ↦ none (omega (arith, some))
  | inr empty ↦ past j g lt (omega (arith, empty)) at e
])
leads_last prefixes n (Some p) text are within is up past =
    let lt : p < n = omega (arith, is.0, is.1) in
    let f : Prefix = get_or prefixes p (prefix [] [] None) in
    let here : slice_get prefixes p ≡ Some f = slice_get-get_or prefixes p (prefix [] [] None) (omega (arith, lt, within)) in
    leads_from prefixes p f (length prefixes) text are here (up p f lt here) (λ j g below at after e. past j g below (omega (arith, after, is.0, is.1)) at e)

pub last_leads : (prefixes : List Prefix) (text : Text) (n : ℕ) (way : Option ℕ) → ArePrefixes prefixes → n ≡ length prefixes → SomeIff way (1 ≤ n) (n - 1)
    → ((i : ℕ) (f : Prefix) → slice_get prefixes i ≡ Some f → is_le (text_cmp f.text text) ≡ true) → LinksTo prefixes (length prefixes) text way
last_leads prefixes text n way are all is next = leads_last prefixes n way text are (omega (arith, all)) is (λ i f lt at. next i f at) (λ j g lt ge at e. absurd (omega (arith, lt, ge, all)))

-- where a search among them ends
abbrev pub up_to : Text → Prefix → Bool
up_to text f = is_le (text_cmp f.text text)

pub parted_up_to : (prefixes : List Prefix) (text : Text) → ArePrefixes prefixes → IsPartitionedBy (up_to text) prefixes
parted_up_to prefixes text are i j d le lt e =
    let f : Prefix = get_or prefixes i d in
    let g : Prefix = get_or prefixes j d in
    le_through f.text g.text text (text_cmp g.text text) refl (are.order i j f g le (slice_get-get_or prefixes i d (omega (arith, le, lt))) (slice_get-get_or prefixes j d lt)) e

pub point_leads : (prefixes : List Prefix) (text : Text) (at : ℕ) (way : Option ℕ) → ArePrefixes prefixes → IsPartitionPoint (λ f. up_to text f ≡ true) (λ f. up_to text f ≡ false) prefixes at
    → at ≤ length prefixes → SomeIff way (1 ≤ at) (at - 1) → LinksTo prefixes (length prefixes) text way
point_leads prefixes text at way are point within is = leads_last prefixes at way text are within is
    (λ i f lt here. subst (λ (x : Prefix). up_to text x ≡ true) (get_or_from_slice_get prefixes i f f here) (point.0 i f (omega arith) lt))
    (λ j g lt ge here e. let after = subst (λ (x : Prefix). up_to text x ≡ false) (get_or_from_slice_get prefixes j g g here) (point.1 j g ge lt) in cc)

-- ---- one more prefix

abbrev pub IsNext : List Prefix → Text → Type 0
IsNext prefixes text = (i : ℕ) (f : Prefix) → slice_get prefixes i ≡ Some f → is_le (text_cmp f.text text) ≡ true

pub puts : (old new : List Prefix) (text : Text) (places : List ℕ) (way : Option ℕ) → ArePrefixes old → IsNext old text → LinksTo old (length old) text way
    → IfSome way (λ i. i < length old) → new ≡ old ++ prefix text places way ∷ [] → PutsPrefix old new text places
puts old new text places way are next leads within e =
    let x : Prefix = prefix text places way in
    let own : is_le (text_cmp text text) ≡ true = ap is_le (tied_itself nat_list_cmp_total text) in (
      way,
      e,
      subst ArePrefixes (sym e) (record {
        order = λ i j f g le a b. elim (got_cases old x j g b) [
          | inl bj ↦ elim (got_cases old x i f a) [
            | inl ai ↦ are.order i j f g le ai bj
            | inr s ↦ let lt = slice_get_within old j g bj in absurd (omega (arith, le, s.0, lt))
          ]
          | inr s ↦ subst (λ (y : Prefix). is_le (text_cmp f.text y.text) ≡ true) (sym s.1) (elim (got_cases old x i f a) [
            | inl ai ↦ next i f ai
            | inr r ↦ subst (λ (y : Prefix). is_le (text_cmp y.text text) ≡ true) (sym r.1) own
          ])
        ];
        linked = λ i f a. elim (got_cases old x i f a) [
          | inl ai ↦
              let was = are.linked i f ai in
              let lt = slice_get_within old i f ai in
              ((λ j g below at begins. way_kept old x f.shorter j g.text (was.0 j g below (got_before old x j g (omega (arith, below, lt)) at) begins)), was.1)
          | inr s ↦ subst (IsLinkedAt (old ++ x ∷ []) i) (sym s.1) (
            (λ j g below at begins.
                let lt : j < length old = omega (arith, below, s.0) in
                way_kept old x way j g.text (leads j g lt (got_before old x j g lt at) begins)),
            subst (λ (n : ℕ). IfSome way (λ k. k < n)) (sym s.0) within,
          )
        ];
      }),
    )

pub no_prefixes : ArePrefixes []
no_prefixes = record {
  order = λ i j f g le a b. absurd (omega (arith, slice_get_within [] i f a));
  linked = λ i f a. absurd (omega (arith, slice_get_within [] i f a));
}

-- ---- prefixes of a map

text_after : (P : Text → Type 0) (xs : List Prefix) (text : Text) (places : List ℕ) (rest : List (Text × List ℕ)) → AllByRecursion P (keys_of (map entry_of xs ++ (text, places) ∷ rest)) → P text
text_after P [] text places rest a = a.0
text_after P (x ∷ xs) text places rest a = text_after P xs text places rest a.1

next_at : (prefixes : List Prefix) (text : Text) (places : List ℕ) (rest : List (Text × List ℕ)) → IsStrictlySortedBy text_cmp (keys_of (map entry_of prefixes ++ (text, places) ∷ rest))
    → (i : ℕ) (d : Prefix) → i < length prefixes → is_le (text_cmp (get_or prefixes i d).text text) ≡ true
unfolding IsStrictlySortedBy
next_at [] text places rest s i d lt = absurd (omega (arith, lt))
next_at (x ∷ xs) text places rest s zero d lt = ap is_le (text_after (λ y. text_cmp x.text y ≡ Less) xs text places rest s.0)
next_at (x ∷ xs) text places rest s (suc i) d lt = next_at xs text places rest s.1 i d (omega (arith, lt))

pub is_next : (prefixes : List Prefix) (text : Text) (places : List ℕ) (rest entries : List (Text × List ℕ)) → map entry_of prefixes ++ (text, places) ∷ rest ≡ entries
    → IsStrictlySortedBy text_cmp (keys_of entries) → IsNext prefixes text
is_next prefixes text places rest entries e s i f at =
    let lt = slice_get_within prefixes i f at in
    subst (λ (x : Prefix). is_le (text_cmp x.text text) ≡ true) (get_or_from_slice_get prefixes i f f at)
    (next_at prefixes text places rest (subst (λ (es : List (Text × List ℕ)). IsStrictlySortedBy text_cmp (keys_of es)) (sym e) s) i f lt)

pub entries_more : (old new : List Prefix) (text : Text) (places : List ℕ) (way : Option ℕ) (rest entries : List (Text × List ℕ)) → new ≡ old ++ prefix text places way ∷ []
    → map entry_of old ++ (text, places) ∷ rest ≡ entries → map entry_of new ++ rest ≡ entries
entries_more old new text places way rest entries e was =
    ap (λ (fs : List Prefix). map entry_of fs ++ rest) e ∙ ap (λ (es : List (Text × List ℕ)). es ++ rest) (map-append entry_of old (prefix text places way ∷ []))
    ∙ append_assoc (map entry_of old) ((text, places) ∷ []) rest ∙ was

module _ (m : PlaceLists) (ordered : IsOrdered text_cmp m) (prefixes : List Prefix) (e : map entry_of prefixes ≡ m.entries) where
  entry_at : (k : ℕ) (f : Prefix) → slice_get prefixes k ≡ Some f → slice_get m.entries k ≡ Some (f.text, f.places)
  entry_at k f at = ap (λ (es : List (Text × List ℕ)). slice_get es k) (sym e) ∙ slice_get-map entry_of prefixes k ∙ ap (option_map entry_of) at

  listed_at : (k : ℕ) (f : Prefix) → slice_get prefixes k ≡ Some f → places_under m f.text ≡ f.places
  listed_at k f at = ap (λ (o : Option (List ℕ)). unwrap_or o []) (btree_map_get_place nat_list_cmp_total m k f.text f.places ordered (entry_at k f at))

  prefix_got : (text : Text) (n : ℕ) (o : Option (List ℕ)) → get text_cmp m text ≡ o → Contains (unwrap_or o []) n
      → (j : ℕ) × (f : Prefix) × (slice_get prefixes j ≡ Some f) × (f.text ≡ text) × Contains f.places n
  prefix_got text n None is c = absurd (omega (arith, c.1))
  prefix_got text n (Some v) is c =
      let has : Contains m.entries (text, v) = (btree_map_get_iff nat_list_cmp_total exact_bytes m ordered text v).0 is in
      let k : ℕ = has.0 in
      let lt : k < length prefixes = omega (arith, has.1, ap length e, length-map prefixes entry_of) in
      let f : Prefix = get_or prefixes k (prefix text v None) in
      let at : slice_get prefixes k ≡ Some f = slice_get-get_or prefixes k (prefix text v None) lt in
      let there : slice_get m.entries k ≡ Some (text, v) = slice_get-get_or m.entries k (text, v) has.1 ∙ ap (λ (p : Text × List ℕ). Some p) has.2 in
      let same : entry_of f ≡ (text, v) = same_Some (entry_of f) (text, v) (sym (entry_at k f at) ∙ there) in
      (k, f, at, ap (λ (p : Text × List ℕ). p.0) same, subst (λ (ns : List ℕ). Contains ns n) (sym (ap (λ (p : Text × List ℕ). p.1) same)) c)

  -- what is listed under a text stands at the prefix of that text
  pub prefix_listed : (text : Text) (n : ℕ) → Contains (places_under m text) n → (j : ℕ) × (f : Prefix) × (slice_get prefixes j ≡ Some f) × (f.text ≡ text) × Contains f.places n
  prefix_listed text n c = prefix_got text n (get text_cmp m text) refl c

  pub places_ascend : AreAscending m → All (λ f. IsAscending f.places) prefixes
  places_ascend up k d lt =
      let at = slice_get-get_or prefixes k d lt in
      subst IsAscending (listed_at k (get_or prefixes k d) at) (up (get_or prefixes k d).text)
