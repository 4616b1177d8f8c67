-- Proper lists have their sets: one element for each name, in order, with the texts of all elements of that name.
use Rattle.std.proofs.Common.{◌≡◌, ℕ, ◌+◌, ◌<◌, zero, suc, List, [], ◌∷◌, ◌++◌, length, get_or, Any, Contains, ◌↔◌, ◌⊎◌, inl, inr, sym, ap, ◌∙◌, refl, arith, subst, Bool, true, false, ◌||◌, IsTrue, Less, Equal, Greater}
use Rattle.std.specs.List.{flat_map}
use Rattle.std.specs.Ordering.{match_ordering, ordering_reverse}
use Rattle.std.specs.Cmp.Lexicographic.{slice_cmp}
use Rattle.std.proofs.lemmas.Cmp.{nat_list_cmp_total}
use Rattle.std.proofs.lemmas.List.Elements.{Contains-get_or, Contains-append_left, Contains-append_right, Contains-append_cases}
use Rattle.std.proofs.lemmas.List.Kept.{AllPairs-cons}
use Rattle.std.proofs.lemmas.Map.Keys.{sorted_from_all_adjacent}
use Rattle.rbac_terms.specs.Text.{Text, text_cmp}
use Rattle.rbac_terms.specs.Principals.{Who, AsUser, AsMember, given_of}
use Rattle.rbac_terms.proofs.Orderings.{less_alone}
use Rattle.rbac_model.specs.Lists.{by_name, IsAscendingBy, IsOnceEach}
use Rattle.rbac_model.specs.Unions.{who_texts}
use Rattle.rbac_model.specs.Universes.{UniverseView}
use Rattle.rbac_model.proofs.NamePlaces.{total, same_name}
use Rattle.rbac_universe.specs.declared.lists.UniverseLists.{UniverseLists}
use Rattle.rbac_universe.specs.declared.lists.ListedResource.{ListedResource}
use Rattle.rbac_universe.specs.Sets.{AreProper, AreSets}
use Rattle.rbac_universe.specs.Stems.{stem_name, stems_of, listed_of}
use Rattle.rbac_universe.specs.Uniting.{AreUnitedBy}
use Rattle.rbac_universe.proofs.Flattened.{in_cons, here, there}
use Rattle.rbac_universe.proofs.OneMore.{as_any}
use Rattle.rbac_universe.proofs.SetLemmas.{principals_united}
use Rattle.rbac_universe.proofs.Targets.{exact, ordered}

-- ---- some element of a list with one more in front

module _ {X : Type 0} (Q : X → Type 0) where
  any_cases : (x : X) (xs : List X) → Any Q (x ∷ xs) → Q x ⊎ Any Q xs
  any_cases x xs w = elim (in_cons x xs w.1 (w.0, w.2, w.3)) [
    | inl e ↦ inl (subst Q (sym e) w.4)
    | inr c ↦ inr (as_any Q xs w.1 c w.4)
  ]

  any_here : (x : X) (xs : List X) → Q x → Any Q (x ∷ xs)
  any_here x xs q = as_any Q (x ∷ xs) x (here x xs) q

  any_there : (x : X) (xs : List X) → Any Q xs → Any Q (x ∷ xs)
  any_there x xs w = as_any Q (x ∷ xs) w.1 (there x xs w.1 (w.0, w.2, w.3)) w.4

-- ---- elements put in their place, or united with the one of their name

module _ {X : Type 0} (name : X → List Text) (has : X → Text → Type 0) (unite : X → X → X)
    (keeps : (y x : X) → name (unite y x) ≡ name y)
    (joins : (y x : X) (t : Text) → name y ≡ name x → has (unite y x) t ↔ (has y t ⊎ has x t)) where
  abbrev put : X → List X → List X
  put x [] = x ∷ []
  put x (y ∷ ys) = match_ordering (by_name name x y) (x ∷ y ∷ ys) (unite y x ∷ ys) (y ∷ put x ys)

  -- a property that what is united has if one of the two has it
  module _ (Q : X → Type 0) (splits : (y x : X) → name y ≡ name x → Q (unite y x) ↔ (Q y ⊎ Q x)) where
    from_put : (x : X) (ys : List X) → Any Q (put x ys) → Q x ⊎ Any Q ys
    from_put x [] w = any_cases Q x [] w
    from_put x (y ∷ ys) w =
        elim (by_name name x y) as (λ o. by_name name x y ≡ o → Any Q (match_ordering o (x ∷ y ∷ ys) (unite y x ∷ ys) (y ∷ put x ys)) → Q x ⊎ Any Q (y ∷ ys)) [
          | Less ↦ λ e v. any_cases Q x (y ∷ ys) v
          | Equal ↦ λ e v. elim (any_cases Q (unite y x) ys v) [
            | inl q ↦ elim ((splits y x (sym (same_name name x y e))).0 q) [ inl p ↦ inr (any_here Q y ys p) | inr p ↦ inl p ]
            | inr u ↦ inr (any_there Q y ys u)
          ]
          | Greater ↦ λ e v. elim (any_cases Q y (put x ys) v) [
            | inl q ↦ inr (any_here Q y ys q)
            | inr u ↦ elim (from_put x ys u) [ inl q ↦ inl q | inr r ↦ inr (any_there Q y ys r) ]
          ]
        ] refl w

    to_put : (x : X) (ys : List X) → Q x ⊎ Any Q ys → Any Q (put x ys)
    to_put x [] s = elim s [ inl q ↦ any_here Q x [] q | inr w ↦ any_there Q x [] w ]
    to_put x (y ∷ ys) s =
        elim (by_name name x y) as (λ o. by_name name x y ≡ o → Any Q (match_ordering o (x ∷ y ∷ ys) (unite y x ∷ ys) (y ∷ put x ys))) [
          | Less ↦ λ e. elim s [ inl q ↦ any_here Q x (y ∷ ys) q | inr w ↦ any_there Q x (y ∷ ys) w ]
          | Equal ↦ λ e.
              let both = splits y x (sym (same_name name x y e)) in
              elim s [
                | inl q ↦ any_here Q (unite y x) ys (both.1 (inr q))
                | inr w ↦ elim (any_cases Q y ys w) [ inl q ↦ any_here Q (unite y x) ys (both.1 (inl q)) | inr v ↦ any_there Q (unite y x) ys v ]
              ]
          | Greater ↦ λ e. elim s [
            | inl q ↦ any_there Q y (put x ys) (to_put x ys (inl q))
            | inr w ↦ elim (any_cases Q y ys w) [ inl q ↦ any_here Q y (put x ys) q | inr v ↦ any_there Q y (put x ys) (to_put x ys (inr v)) ]
          ]
        ] refl

  splits_name : (n : List Text) (y x : X) → name y ≡ name x → (name (unite y x) ≡ n) ↔ ((name y ≡ n) ⊎ (name x ≡ n))
  splits_name n y x e = (λ q. inl (sym (keeps y x) ∙ q), λ s. elim s [ inl q ↦ keeps y x ∙ q | inr q ↦ keeps y x ∙ e ∙ q ])

  splits_text : (n : List Text) (t : Text) (y x : X) → name y ≡ name x → ((name (unite y x) ≡ n) × has (unite y x) t) ↔ (((name y ≡ n) × has y t) ⊎ ((name x ≡ n) × has x t))
  splits_text n t y x e = (
    λ q. elim ((joins y x t e).0 q.1) [ inl h ↦ inl (sym (keeps y x) ∙ q.0, h) | inr h ↦ inr (sym e ∙ sym (keeps y x) ∙ q.0, h) ],
    λ s. elim s [
      | inl q ↦ (keeps y x ∙ q.0, (joins y x t e).1 (inl q.1))
      | inr q ↦ (keeps y x ∙ e ∙ q.0, (joins y x t e).1 (inr q.1))
    ],
  )

  rest_ascends : (y : X) (ys : List X) → IsAscendingBy name (y ∷ ys) → IsAscendingBy name ys
  rest_ascends y ys up i j d lt l = up (suc i) (suc j) d (omega arith) (omega arith)

  first_below : (y : X) (ys : List X) → IsAscendingBy name (y ∷ ys) → (k : ℕ) (d : X) → k < length ys → by_name name y (get_or ys k d) ≡ Less
  first_below y ys up k d l = up 0 (suc k) d (omega arith) (omega arith)

  above : (x y : X) (ys : List X) → by_name name x y ≡ Less → IsAscendingBy name (y ∷ ys) → (k : ℕ) (d : X) → k < length (y ∷ ys) → by_name name x (get_or (y ∷ ys) k d) ≡ Less
  above x y ys e up zero d l = e
  above x y ys e up (suc k) d l = (total name).trans x y (get_or ys k d) e (first_below y ys up k d (omega (arith, l)))

  below : (x y : X) (ys : List X) → by_name name x y ≡ Greater → IsAscendingBy name (y ∷ ys) → (k : ℕ) (d : X) → k < length (put x ys) → by_name name y (get_or (put x ys) k d) ≡ Less
  below x y ys e up k d l =
      let z : X = get_or (put x ys) k d in
      let less : by_name name y x ≡ Less = (total name).antisymm y x ∙ ap ordering_reverse e in
      let there = as_any (λ a. name a ≡ name z) (put x ys) z (Contains-get_or (put x ys) k d l) refl in
      elim (from_put (λ a. name a ≡ name z) (splits_name (name z)) x ys there) [
        | inl q ↦ sym (ap (λ n. slice_cmp text_cmp (name y) n) q) ∙ less
        | inr w ↦ sym (ap (λ n. slice_cmp text_cmp (name y) n) w.4) ∙ (rw w.3 at (first_below y ys up w.0 w.1 w.2))
      ]

  put_ascends : (x : X) (ys : List X) → IsAscendingBy name ys → IsAscendingBy name (put x ys)
  put_ascends x [] up = λ i j d lt l. absurd (omega (arith, lt, l))
  put_ascends x (y ∷ ys) up =
      elim (by_name name x y) as (λ o. by_name name x y ≡ o → IsAscendingBy name (match_ordering o (x ∷ y ∷ ys) (unite y x ∷ ys) (y ∷ put x ys))) [
        | Less ↦ λ e. AllPairs-cons (λ a b. by_name name a b ≡ Less) x (y ∷ ys) (above x y ys e up) up
        | Equal ↦ λ e. AllPairs-cons (λ a b. by_name name a b ≡ Less) (unite y x) ys (λ k d l. rw (keeps y x) (first_below y ys up k d l)) (rest_ascends y ys up)
        | Greater ↦ λ e. AllPairs-cons (λ a b. by_name name a b ≡ Less) y (put x ys) (below x y ys e up) (put_ascends x ys (rest_ascends y ys up))
      ] refl

  abbrev united : List X → List X
  united [] = []
  united (x ∷ xs) = put x (united xs)

  are_united : (xs : List X) → AreUnitedBy name has xs (united xs)
  are_united [] = record {
    ordered = λ i j d lt l. absurd (omega (arith, l));
    names = λ n. (λ w. w, λ w. w);
    texts = λ n t. (λ w. w, λ w. w);
  }
  are_united (x ∷ xs) =
      let are = are_united xs in
      record {
        ordered = put_ascends x (united xs) are.ordered;
        names = λ n. let Q : X → Type 0 = λ z. name z ≡ n in (
          λ w. elim (from_put Q (splits_name n) x (united xs) w) [ inl q ↦ any_here Q x xs q | inr v ↦ any_there Q x xs ((are.names n).0 v) ],
          λ w. to_put Q (splits_name n) x (united xs) (elim (any_cases Q x xs w) [ inl q ↦ inl q | inr v ↦ inr ((are.names n).1 v) ]),
        );
        texts = λ n t. let Q : X → Type 0 = λ z. (name z ≡ n) × has z t in (
          λ w. elim (from_put Q (splits_text n t) x (united xs) w) [ inl q ↦ any_here Q x xs q | inr v ↦ any_there Q x xs ((are.texts n t).0 v) ],
          λ w. to_put Q (splits_text n t) x (united xs) (elim (any_cases Q x xs w) [ inl q ↦ inl q | inr v ↦ inr ((are.texts n t).1 v) ]),
        );
      }

-- ---- texts

abbrev pub word_name : Text → List Text
word_name n = n ∷ []

abbrev pub no_text : Text → Text → Type 0
no_text word t = Unit {0}

abbrev pub first_word : Text → Text → Text
first_word y x = y

pub keeps_word : (y x : Text) → word_name (first_word y x) ≡ word_name y
keeps_word y x = refl

pub joins_word : (y x t : Text) → word_name y ≡ word_name x → no_text (first_word y x) t ↔ (no_text y t ⊎ no_text x t)
joins_word y x t e = (λ u. inl u, λ s. tt)

abbrev pub words : List Text → List Text
words = united word_name no_text first_word keeps_word joins_word

words_are : (xs : List Text) → AreUnitedBy word_name no_text xs (words xs)
words_are = are_united word_name no_text first_word keeps_word joins_word

in_words : (xs : List Text) (x : Text) → Any (λ z. word_name z ≡ x ∷ []) xs → Contains xs x
in_words xs x w = let e = w.4 in let same : w.1 ≡ x = cc in subst (Contains xs) same (w.0, w.2, w.3)

pub words_once : (xs : List Text) → IsOnceEach text_cmp xs (words xs)
words_once xs =
    let are = words_are xs in
    record {
      ascending = sorted_from_all_adjacent nat_list_cmp_total (words xs) []
          (λ k l. less_alone (text_cmp (get_or (words xs) k []) (get_or (words xs) (k + 1) [])) (are.ordered k (k + 1) [] (omega arith) l));
      same = λ x. (
        λ w. in_words xs x ((are.names (x ∷ [])).0 (as_any (λ z. word_name z ≡ x ∷ []) (words xs) x w refl)),
        λ w. in_words (words xs) x ((are.names (x ∷ [])).1 (as_any (λ z. word_name z ≡ x ∷ []) xs x w refl)),
      );
    }

-- ---- principals

abbrev unite_who : Who → Who → Who
unite_who (AsUser name given) (AsUser other more) = AsUser name (given ++ more)
unite_who (AsUser name given) (AsMember group) = AsUser name given
unite_who (AsMember group) other = AsMember group

abbrev has_group : Who → Text → Type 0
has_group who g = Contains (given_of who) g

keeps_who : (y x : Who) → who_texts (unite_who y x) ≡ who_texts y
keeps_who (AsUser name given) (AsUser other more) = refl
keeps_who (AsUser name given) (AsMember group) = refl
keeps_who (AsMember group) other = refl

none_in : {G : Type 0} (g : Text) → Contains [] g → G
none_in g w = absurd (omega (arith, w.1))

-- the first byte of the first text
abbrev first_of : List Text → ℕ
first_of [] = 0
first_of ([] ∷ ts) = 0
first_of ((b ∷ bs) ∷ ts) = b

joins_who : (y x : Who) (t : Text) → who_texts y ≡ who_texts x → has_group (unite_who y x) t ↔ (has_group y t ⊎ has_group x t)
joins_who (AsUser name given) (AsUser other more) t e = (
  λ w. Contains-append_cases given more t w,
  λ s. elim s [ inl c ↦ Contains-append_left given more t c | inr c ↦ Contains-append_right given more t c ],
)
joins_who (AsUser name given) (AsMember group) t e = (λ w. inl w, λ s. elim s [ inl c ↦ c | inr c ↦ none_in t c ])
joins_who (AsMember group) (AsUser name given) t e = let differs : 103 ≡ 117 = ap first_of e in absurd (omega (arith, differs))
joins_who (AsMember group) (AsMember other) t e = (λ w. inl w, λ s. elim s [ inl c ↦ c | inr c ↦ c ])

-- ---- stems

abbrev unite_stem : ListedResource → ListedResource → ListedResource
unite_stem y x = record y { namespaced = y.namespaced || x.namespaced }

abbrev has_mark : ListedResource → Text → Type 0
has_mark s t = IsTrue s.namespaced

keeps_stem : (y x : ListedResource) → stem_name (unite_stem y x) ≡ stem_name y
keeps_stem y x = refl

either : (a b : Bool) → IsTrue (a || b) ↔ (IsTrue a ⊎ IsTrue b)
either true b = (λ e. inl e, λ s. refl)
either false b = (λ e. inr e, λ s. elim s [ inl e ↦ absurd (cc) | inr e ↦ e ])

joins_stem : (y x : ListedResource) (t : Text) → stem_name y ≡ stem_name x → has_mark (unite_stem y x) t ↔ (has_mark y t ⊎ has_mark x t)
joins_stem y x t e = either y.namespaced x.namespaced

-- ---- all of them

pub all_sets : (lists : UniverseLists) → AreProper lists → (u : UniverseView) × AreSets lists u
all_sets lists proper =
    let ps = united who_texts has_group unite_who keeps_who joins_who lists.principals in
    let stems = united stem_name has_mark unite_stem keeps_stem joins_stem (stems_of lists) in
    let are = are_united stem_name has_mark unite_stem keeps_stem joins_stem (stems_of lists) in
    let names = words lists.names in (
      record {
        principals = ps;
        namespaces = words lists.namespaces;
        verbs = words lists.verbs;
        targets = flat_map (listed_of names) stems;
      },
      record {
        principals = principals_united lists.principals ps (are_united who_texts has_group unite_who keeps_who joins_who lists.principals);
        namespaces = words_once lists.namespaces;
        verbs = words_once lists.verbs;
        ordered = ordered lists proper stems names are (words_once lists.names);
        targets = exact lists proper stems names are (words_once lists.names);
      },
    )
