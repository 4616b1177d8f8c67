-- how many resources a wide rule names, and why no universe can be made of them
use Rattle.std.proofs.Common.{◌≡◌, ◌≢◌, ◌*◌, ◌≤◌, suc, List, [], ◌∷◌, map, filter, length, get_or, not, All, Contains, inl, inr, sym, ap, ap₂, ◌∙◌, refl, arith, subst, Bool, true, false, ◌&&◌, ◌==◌, IsTrue, Less, Equal, Greater, Ordering, Option, Some, None, MatchOption, Result, Ok, Err, IfOk, ◌||◌, unwrap_or, is_none, zero-mul, suc-mul, length-append, ltb-true}
use Rattle.std.specs.List.{flat_map, list_any}
use Rattle.std.specs.Ordering.{ordering_then, is_eq}
use Rattle.std.specs.Set.{distinct_count, is_member}
use Rattle.std.specs.Str.{bytes_eq}
use Rattle.std.specs.Cmp.Lexicographic.{texts_ties}
use Rattle.std.proofs.lemmas.Bool.{and_parts}
use Rattle.std.proofs.lemmas.Nat.{mul-le}
use Rattle.rbac_terms.proofs.Cases.{by_bool}
use Rattle.std.proofs.lemmas.Cmp.{nat_list_eq_equiv, nat_list_cmp_total, tied_itself}
use Rattle.std.proofs.lemmas.List.{length-map}
use Rattle.std.proofs.lemmas.List.Elements.{Contains-get_or, All-contains, filter_passes}
use Rattle.std.proofs.lemmas.List.Folds.{Any-from_list_any}
use Rattle.std.proofs.lemmas.Map.Keys.{Less-from_sorted, IsDistinct-from_apart}
use Rattle.std.proofs.lemmas.Map.Made.{length-from_keys, distinct_count-le}
use Rattle.std.proofs.lemmas.List.Filters.{length-filter_both}
use Rattle.std.proofs.lemmas.Map.Views.{Contains-from_any, list_any-from_Contains}
use Rattle.std.proofs.lemmas.Slice.Eq.{bytes_eq-Decides}
use Rattle.rbac_terms.specs.Text.{Text, text_cmp}
use Rattle.rbac_terms.specs.Targets.{Resource, Url, IsProper, IsResourceText, is_path}
use Rattle.rbac_terms.specs.declared.matching.Rule.{Rule}
use Rattle.rbac_model.specs.Lists.{by_name, IsAscendingBy, IsOnceEach}
use Rattle.rbac_model.specs.Policies.{Held}
use Rattle.rbac_model.specs.Universes.{Listed, UniverseView, target_texts, most_targets}
use Rattle.rbac_model.proofs.NamePlaces.{total}
use Rattle.rbac_catalogue.specs.Catalogue.{CatalogueView}
use Rattle.rbac_universe.specs.declared.lists.UniverseLists.{UniverseLists}
use Rattle.rbac_universe.specs.declared.lists.ListedResource.{ListedResource}
use Rattle.rbac_universe.specs.declared.fault.UniverseFault.TheVariants.{BadTarget, TooLarge}
use Rattle.rbac_universe.specs.Sets.{AreProper, AreSets, HasUniverseFault}
use Rattle.rbac_universe.specs.Stems.{stem_name}
use Rattle.rbac_universe.proofs.Flattened.{in_cons, here, there, contains_map, map_contains, contains_flat, flat_contains, pairs_map, pairs_flat}
use Rattle.rbac_universe.proofs.OneMore.{as_any}
use Rattle.rbac_universe.proofs.Targets.{path_begins, begins_path}
use Rattle.rbac_lists.specs.declared.given_lists.Account.{Account}
use Rattle.rbac_lists.specs.declared.given_lists.GivenLists.{GivenLists}
use Rattle.rbac_lists.specs.Derived.{source_rules, rule_resources, group_resources, resources_of, names_of, urls_of, as_listed, is_plain_resource, is_path_word, has_star}
use Rattle.rbac_lists.specs.Meant.{last_given, given_or, lists_meant}
use Rattle.rbac_lists.specs.Wide.{different, is_plain_group, resource_count, is_wide, has_wide_rule, AreTooMany}
use Rattle.rbac_lists.proofs.AllSets.{words, words_once, all_sets}

-- ---- counts of different texts

same_test : (a b : Bool) → (a ≡ true → b ≡ true) → (b ≡ true → a ≡ true) → a ≡ b
same_test true b f g = sym (f refl)
same_test false true f g = g refl
same_test false false f g = refl

is_in : (xs : List Text) (q : Text) → Contains xs q → is_member bytes_eq xs q ≡ true
is_in xs q w = list_any-from_Contains nat_list_eq_equiv q xs w

in_is : (xs : List Text) (q : Text) → is_member bytes_eq xs q ≡ true → Contains xs q
in_is xs q e = Contains-from_any (λ x y. (bytes_eq-Decides x y).0) q xs e

-- a list with each text once has as many as are different
pub count_once : (xs once : List Text) → IsOnceEach text_cmp xs once → length once ≡ distinct_count bytes_eq xs
count_once xs once are =
    length-from_keys nat_list_eq_equiv once xs
    (IsDistinct-from_apart bytes_eq once (λ i j d lt l. texts_ties (get_or once i d) (get_or once j d) ∙ ap is_eq (Less-from_sorted text_cmp once i j d are.ascending lt l)))
    (λ q. same_test (is_member bytes_eq once q) (is_member bytes_eq xs q) (λ e. is_in xs q ((are.same q).0 (in_is once q e))) (λ e. is_in once q ((are.same q).1 (in_is xs q e))))

-- a rule isn't wide if it has few groups and resource words
filter_short : (test : Text → Bool) (xs : List Text) → different test xs ≤ length xs
filter_short test xs =
    let both = length-filter_both test (λ x. not (test x)) (λ x. refl) xs in
    omega (arith, both, distinct_count-le bytes_eq (filter test xs))

pub few_named : (r : Rule) → length r.groups * length r.resources ≤ most_targets → false ≡ is_wide r
few_named r few =
    let most = mul-le (different is_plain_group r.groups) (different is_plain_resource r.resources) (length r.groups) (length r.resources)
    (filter_short is_plain_group r.groups) (filter_short is_plain_resource r.resources) in
    by_bool (is_wide r) (λ e. absurd (omega (arith, most, few, ltb-true most_targets (resource_count r) e))) (λ e. sym e)

pub any_flag : (rules : List Rule) → list_any (λ (flag : Bool). flag) (flat_map (λ r. is_wide r ∷ []) rules) ≡ list_any is_wide rules
any_flag [] = refl
any_flag (r ∷ rules) = ap (λ rest. is_wide r || rest) (any_flag rules)

-- ---- what is in order is no longer than what it is among

module _ {X : Type 0} (name : X → List Text) where
  rest_ascends : (x : X) (xs : List X) → IsAscendingBy name (x ∷ xs) → IsAscendingBy name xs
  rest_ascends x xs up i j d lt l = up (suc i) (suc j) d (omega arith) (omega arith)

  first_below : (x : X) (xs : List X) (y : X) → IsAscendingBy name (x ∷ xs) → Contains xs y → by_name name x y ≡ Less
  first_below x xs y up w = rw w.2 at (up 0 (suc w.0) y (omega arith) (omega (arith, w.1)))

  not_below_itself : (x : X) → by_name name x x ≡ Less → ⊥
  not_below_itself x e = let f = tied_itself (total name) x in cc

  pub at_most : (xs ys : List X) → IsAscendingBy name xs → IsAscendingBy name ys → ((x : X) → Contains xs x → Contains ys x) → length xs ≤ length ys
  at_most [] ys up vp f = omega arith
  at_most (x ∷ xs) [] up vp f = absurd (omega (arith, (f x (here x xs)).1))
  at_most (x ∷ xs) (y ∷ ys) up vp f =
      elim (in_cons y ys x (f x (here x xs))) [
        | inl e ↦
            let rest = at_most xs ys (rest_ascends x xs up) (rest_ascends y ys vp)
            (λ z w. elim (in_cons y ys z (f z (there x xs z w))) [
              | inl q ↦ absurd (not_below_itself x (subst (λ v. by_name name x v ≡ Less) (sym q ∙ e) (first_below x xs z up w)))
              | inr v ↦ v
            ]) in
            omega (arith, rest)
        | inr c ↦
            let less = first_below y ys x vp c in
            let rest = at_most (x ∷ xs) ys up (rest_ascends y ys vp)
            (λ z w. elim (in_cons y ys z (f z w)) [
              | inl q ↦ absurd (elim (in_cons x xs z w) [
                | inl p ↦ not_below_itself y (subst (λ v. by_name name y v ≡ Less) (p ∙ sym q) less)
                | inr u ↦ not_below_itself y (subst (λ v. by_name name y v ≡ Less) (sym q) ((total name).trans y x z less (first_below x xs z up u)))
              ])
              | inr v ↦ v
            ]) in
            omega (arith, rest)
      ]

-- ---- groups times resource words

abbrev of_group : List Text → Text → List ListedResource
of_group texts group = map (λ text. as_listed group text true) texts

abbrev product : List Text → List Text → List ListedResource
product groups texts = flat_map (of_group texts) groups

length-product : (groups texts : List Text) → length (product groups texts) ≡ length groups * length texts
length-product [] texts = sym (zero-mul (length texts))
length-product (g ∷ groups) texts =
    omega (arith, length-append (of_group texts g) (product groups texts), length-map texts (λ text. as_listed g text true), length-product groups texts, suc-mul (length groups) (length texts))

text_below : (g s t : Text) → text_cmp s t ≡ Less → by_name stem_name (as_listed g s true) (as_listed g t true) ≡ Less
text_below g s t e = rw (tied_itself nat_list_cmp_total g, e) refl

group_below : (g h s t : Text) → text_cmp g h ≡ Less → by_name stem_name (as_listed g s true) (as_listed h t true) ≡ Less
group_below g h s t e = rw e refl

module _ (gs ts groups texts : List Text) (of_groups : IsOnceEach text_cmp gs groups) (of_texts : IsOnceEach text_cmp ts texts) where
  one_group : (g : Text) → IsAscendingBy stem_name (of_group texts g)
  one_group g =
      pairs_map (λ a b. by_name stem_name a b ≡ Less) (λ text. as_listed g text true) texts
      (λ i j d lt l. text_below g (get_or texts i d) (get_or texts j d) (Less-from_sorted text_cmp texts i j d of_texts.ascending lt l))

  two_groups : (g h : Text) → text_cmp g h ≡ Less → (a b : ListedResource) → Contains (of_group texts g) a → Contains (of_group texts h) b → by_name stem_name a b ≡ Less
  two_groups g h e a b w v =
      let x = contains_map (λ text. as_listed g text true) texts a w in
      let y = contains_map (λ text. as_listed h text true) texts b v in
      rw (← x.2, ← y.2) (group_below g h x.0 y.0 e)

  product_ascends : IsAscendingBy stem_name (product groups texts)
  product_ascends =
      pairs_flat (λ a b. by_name stem_name a b ≡ Less) (λ g h. text_cmp g h ≡ Less) (of_group texts) groups (λ g w. one_group g) (λ g h w v e. two_groups g h e)
      (λ i j d lt l. Less-from_sorted text_cmp groups i j d of_groups.ascending lt l)

  product_listed : (s : ListedResource) → Contains (product groups texts) s → Contains (product gs ts) s
  product_listed s w =
      let g = contains_flat (of_group texts) groups s w in
      let t = contains_map (λ text. as_listed g.0 text true) texts s g.2 in
      flat_contains (of_group ts) gs g.0 s ((of_groups.same g.0).0 g.1) (subst (Contains (of_group ts g.0)) t.2 (map_contains (λ text. as_listed g.0 text true) ts t.0 ((of_texts.same t.0).0 t.1)))

-- ---- a wide rule

pub wide_names : (r : Rule) → is_wide r ≡ true → AreTooMany stem_name (rule_resources r)
wide_names r e =
    let gs = filter is_plain_group r.groups in
    let ts = filter is_plain_resource r.resources in
    let all = product (words gs) (words ts) in
    let count : length all ≡ resource_count r = length-product (words gs) (words ts) ∙ ap₂ (λ a b. a * b) (count_once gs (words gs) (words_once gs)) (count_once ts (words ts) (words_once ts)) in (
      all,
      product_ascends gs ts (words gs) (words ts) (words_once gs) (words_once ts),
      (λ k d l. product_listed gs ts (words gs) (words ts) (words_once gs) (words_once ts) (get_or all k d) (Contains-get_or all k d l)),
      omega (arith, count, ltb-true most_targets (resource_count r) e),
    )

too_many_among : (rules : List Rule) → list_any is_wide rules ≡ true → AreTooMany stem_name (flat_map rule_resources rules)
too_many_among rules e =
    let r = Any-from_list_any is_wide rules e in
    let many = wide_names r.1 r.4 in
    (many.0, many.1, (λ k d l. flat_contains rule_resources rules r.1 (get_or many.0 k d) (r.0, r.2, r.3) (many.2 k d l)), many.3)

-- ---- what rules name is proper and namespaced

not_true : (a : Bool) → not a ≡ true → a ≡ false
not_true true e = cc
not_true false e = refl

not_empty : (t : Text) → not (length t == 0) ≡ true → t ≢ []
not_empty [] e empty = cc
not_empty (b ∷ bs) e empty = let lengths = ap length empty in omega (arith, lengths)

plain_text : (t : Text) → is_plain_resource t ≡ true → IsResourceText t
plain_text t e =
    let first = and_parts (not (length t == 0) && not (is_path t)) (not (has_star t)) e in
    let second = and_parts (not (length t == 0)) (not (is_path t)) first.0 in
    (not_empty t second.0, λ path. let is = begins_path t path in let isnt = not_true (is_path t) second.1 in cc)

named_well : (rules : List Rule) (s : ListedResource) → Contains (flat_map rule_resources rules) s → IsResourceText s.text × IsTrue s.namespaced
named_well rules s w =
    let r = contains_flat rule_resources rules s w in
    let g = contains_flat (group_resources r.0.resources) (filter is_plain_group r.0.groups) s r.2 in
    let t = contains_map (λ text. as_listed g.0 text true) (filter is_plain_resource r.0.resources) s g.2 in
    let plain = All-contains (λ text. is_plain_resource text ≡ true) (filter is_plain_resource r.0.resources) t.0 (filter_passes is_plain_resource r.0.resources) t.1 in
    let P : ListedResource → Type 0 = λ v. IsResourceText v.text × IsTrue v.namespaced in
    subst P t.2 (plain_text t.0 plain, refl)

-- ---- lists that are given or derived

abbrev ArePaths : List Text → Type 0
ArePaths = All (λ path. IsTrue (is_path path))

paths_proper : (o : Option (List Text)) (derived : List Text) → ArePaths derived → MatchOption o (Unit {0}) ArePaths → All (λ path. IsProper (Url path)) (unwrap_or o derived)
paths_proper None derived all given k d l = path_begins (get_or derived k d) (all k d l)
paths_proper (Some urls) derived all given k d l = path_begins (get_or urls k d) (given k d l)

proper_paths : (o : Option (List Text)) (derived : List Text) → All (λ path. IsProper (Url path)) (unwrap_or o derived) → MatchOption o (Unit {0}) ArePaths
proper_paths None derived all = tt
proper_paths (Some urls) derived all = λ k d l. begins_path (get_or urls k d) (all k d l)

some_name : (o : Option (List Text)) (n : Text) (rest : List Text) → (o ≡ Some [] → ⊥) → (name : Text) × Contains (unwrap_or o (n ∷ rest)) name
some_name None n rest not_none = (n, here n rest)
some_name (Some []) n rest not_none = absurd (not_none refl)
some_name (Some (name ∷ names)) n rest not_none = (name, here name names)

no_name : (o : Option (List Text)) (derived : List Text) → o ≡ Some [] → unwrap_or o derived ≡ []
no_name o derived e = ap (λ v. unwrap_or v derived) e

none_is : {X : Type 0} (o : Option X) → is_none o ≡ true → o ≡ None
none_is None e = refl
none_is (Some x) e = cc

urls_paths : (h : Held) → ArePaths (urls_of h)
urls_paths h k d l =
    let t = get_or (urls_of h) k d in
    let word = filter_passes is_path_word (flat_map (λ r. r.urls) (source_rules h)) k d l in
    (and_parts (is_path t) _ word).0

pub then_prefix : (o p q : Ordering) → ordering_then o (ordering_then p Equal) ≡ Less → ordering_then o (ordering_then p q) ≡ Less
then_prefix Less p q e = refl
then_prefix Equal Less q e = refl
then_prefix Equal Equal q e = cc
then_prefix Equal Greater q e = cc
then_prefix Greater p q e = cc

-- ---- the universe of too many resources

module _ (lists : UniverseLists) (proper : AreProper lists) (marked : All (λ s. IsTrue s.namespaced) lists.resources) (name : Text) (named : Contains lists.names name) where
  abbrev target : ListedResource → Listed
  target s = (Resource s.group s.text name, true)

  target_below : (r s : ListedResource) → by_name stem_name r s ≡ Less → by_name target_texts (target r) (target s) ≡ Less
  target_below r s e = then_prefix (text_cmp r.group s.group) (text_cmp r.text s.text) _ e

  asked : (u : UniverseView) → AreSets lists u → (s : ListedResource) → Contains lists.resources s → Contains u.targets (target s)
  asked u are s w =
      (are.targets (target s)).1 (
        (as_any (λ r. (r.group ≡ s.group) × (r.text ≡ s.text)) lists.resources s w (refl, refl), named),
        (
          λ e. as_any (λ r. (r.group ≡ s.group) × (r.text ≡ s.text) × IsTrue r.namespaced) lists.resources s w
              (refl, refl, All-contains (λ r. IsTrue r.namespaced) lists.resources s marked w),
          λ w. refl,
        ),
      )

  pub too_large : AreTooMany stem_name lists.resources → HasUniverseFault lists TooLarge
  too_large many =
      let u = all_sets lists proper in
      let targets : List Listed = map target many.0 in
      let few = at_most target_texts targets u.0.targets
      (pairs_map (λ a b. by_name target_texts a b ≡ Less) target many.0 (λ i j d lt l. target_below (get_or many.0 i d) (get_or many.0 j d) (many.1 i j d lt l)))
      u.1.ordered
      (λ t w.
      let s = contains_map target many.0 t w in
      subst (Contains u.0.targets) s.2 (asked u.0 u.1 s.0 (All-contains (Contains lists.resources) many.0 s.0 many.2 s.1))) in
      (proper, (u.0, u.1, λ within. omega (arith, few, within.targets, many.3, length-map many.0 target)))

module _ (h : Held) (c : CatalogueView) (documents : List GivenLists) (wide : has_wide_rule h c documents ≡ true) where
  abbrev given_resources : Option (List ListedResource)
  given_resources = last_given (λ d. d.resources) documents

  parts : (given_resources ≡ None) × (c.is_given ≡ false) × (list_any is_wide (source_rules h) ≡ true)
  parts =
      let first = and_parts (is_none given_resources && not c.is_given) (list_any is_wide (source_rules h)) wide in
      let second = and_parts (is_none given_resources) (not c.is_given) first.0 in
      (none_is given_resources second.0, not_true c.is_given second.1, first.1)

  of_rules : given_or (resources_of h c) (λ d. d.resources) documents ≡ flat_map rule_resources (source_rules h)
  of_rules = rw (parts.0, parts.1) refl

  -- the lists have more resources than a universe may have targets
  pub too_many : AreTooMany stem_name (given_or (resources_of h c) (λ d. d.resources) documents)
  too_many = rw of_rules (too_many_among (source_rules h) parts.2)

  module _ (namespaces : List Text) (accounts : List Account) where
    abbrev lists : UniverseLists
    lists = lists_meant h c namespaces accounts documents

    all_well : All (λ s. IsResourceText s.text × IsTrue s.namespaced) lists.resources
    all_well = rw of_rules (λ k d l. named_well (source_rules h) (get_or (flat_map rule_resources (source_rules h)) k d) (Contains-get_or (flat_map rule_resources (source_rules h)) k d l))

    pub large : MatchOption (last_given (λ d. d.urls) documents) (Unit {0}) ArePaths → (last_given (λ d. d.names) documents ≡ Some [] → ⊥) → HasUniverseFault lists TooLarge
    large paths not_none =
        let name = some_name (last_given (λ d. d.names) documents) [] (flat_map (λ r. r.resource_names) (source_rules h)) not_none in
        let proper : AreProper lists = record {
          resources = λ k d l. (all_well k d l).0;
          urls = paths_proper (last_given (λ d. d.urls) documents) (urls_of h) (urls_paths h) paths;
        } in
        too_large lists proper (λ k d l. (all_well k d l).1) name.0 name.1 too_many

pub many_if_wide : {E : Type 0} (o : Result Bool E) (h : Held) (c : CatalogueView) (documents : List GivenLists) → IfOk o (λ wide. wide ≡ has_wide_rule h c documents) → IfOk o (λ wide. IsTrue wide → AreTooMany stem_name (given_or (resources_of h c) (λ d. d.resources) documents))
many_if_wide (Ok wide) h c documents e = λ t. too_many h c documents (sym e ∙ t)
many_if_wide (Err x) h c documents e = tt

-- a given URL that isn't a path is a bad target
pub bad_url : (h : Held) (c : CatalogueView) (namespaces : List Text) (accounts : List Account) (documents : List GivenLists) → (MatchOption (last_given (λ d. d.urls) documents) (Unit {0}) ArePaths → ⊥) → HasUniverseFault (lists_meant h c namespaces accounts documents) BadTarget
bad_url h c namespaces accounts documents none proper = none (proper_paths (last_given (λ d. d.urls) documents) (urls_of h) proper.urls)

-- where an empty list of names is given, there is no name
pub no_names : (h : Held) (documents : List GivenLists) → last_given (λ d. d.names) documents ≡ Some [] → given_or (names_of h) (λ d. d.names) documents ≡ []
no_names h documents e = no_name (last_given (λ d. d.names) documents) (names_of h) e
