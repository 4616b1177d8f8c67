-- the targets that stems and names make are those of the lists, in order
use Rattle.std.proofs.Common.{◌≡◌, ◌≢◌, List, [], ◌∷◌, map, get_or, All, Any, Contains, IsTrue, ◌↔◌, ◌⊎◌, inl, inr, sym, ap, ◌∙◌, refl, arith, drop, subst, Bool, true, false, cond, Less, Equal, Greater, Ordering}
use Rattle.std.specs.Prelude.{AllPairs, codes}
use Rattle.std.specs.List.{flat_map}
use Rattle.std.specs.Ordering.{ordering_then}
use Rattle.std.specs.Cmp.Lexicographic.{slice_cmp}
use Rattle.std.proofs.lemmas.Cmp.{nat_list_cmp_total, tied_itself}
use Rattle.std.proofs.lemmas.List.Elements.{Contains-get_or, Contains-append_left, Contains-append_right, Contains-append_cases, All-contains}
use Rattle.std.proofs.lemmas.Map.Keys.{Less-from_sorted}
use Rattle.std.proofs.lemmas.Slice.Eq.{starts_is}
use Rattle.std.proofs.lemmas.Bool.Decides.{Decides-eqb}
use Rattle.rbac_terms.specs.Text.{Text, text_cmp}
use Rattle.rbac_terms.specs.Targets.{What, Resource, Url, IsProper, IsPath, is_path, group_of, text_of}
use Rattle.rbac_terms.proofs.Cases.{by_bool}
use Rattle.rbac_model.specs.Lists.{by_name, IsAscendingBy, IsOnceEach}
use Rattle.rbac_model.specs.Universes.{Listed, target_texts}
use Rattle.rbac_model.proofs.OneList.{one_of_name}
use Rattle.rbac_universe.specs.declared.lists.UniverseLists.{UniverseLists}
use Rattle.rbac_universe.specs.declared.lists.ListedResource.{ListedResource}
use Rattle.rbac_universe.specs.Sets.{AreProper, IsTarget, IsNamespaced}
use Rattle.rbac_universe.specs.Stems.{stem_name, url_stem, stems_of, targets_of, listed_of, IsStem}
use Rattle.rbac_universe.specs.Uniting.{AreUnitedBy, HasUnder}
use Rattle.rbac_universe.proofs.Flattened.{in_cons, contains_map, map_contains, contains_flat, flat_contains, pairs_map, pairs_flat}
use Rattle.rbac_universe.proofs.OneMore.{as_any}

pub path_begins : (t : Text) → is_path t ≡ true → IsPath t
path_begins t e = (drop 1 t, (starts_is Decides-eqb t (codes "/") _ refl).0 e)

pub begins_path : (t : Text) → IsPath t → is_path t ≡ true
begins_path t w = (starts_is Decides-eqb t (codes "/") _ refl).1 w.0 w.1

not_path : (t : Text) → (IsPath t → ⊥) → is_path t ≡ false
not_path t none = by_bool (is_path t) (λ e. absurd (none (path_begins t e))) (λ e. e)

same_bool : {P : Type 0} (a b : Bool) → IsTrue a ↔ P → IsTrue b ↔ P → a ≡ b
same_bool true true f g = refl
same_bool true false f g = sym (g.1 (f.0 refl))
same_bool false true f g = f.1 (g.0 refl)
same_bool false false f g = refl

then_prefix : (o p q : Ordering) → ordering_then o (ordering_then p Equal) ≡ Less → ordering_then o (ordering_then p q) ≡ Less
then_prefix Less p q e = refl
then_prefix Equal Less q e = refl
then_prefix Equal Equal q e = cc
then_prefix Equal Greater q e = cc
then_prefix Greater p q e = cc

-- the names alone decide, where group and text are the same
last_less : (g x n m : Text) → text_cmp n m ≡ Less → slice_cmp text_cmp (g ∷ x ∷ n ∷ []) (g ∷ x ∷ m ∷ []) ≡ Less
last_less g x n m e = rw (tied_itself nat_list_cmp_total g, tied_itself nat_list_cmp_total x, e) refl

one_paired : {X : Type 0} (R : X → X → Type 0) (x : X) → AllPairs R (x ∷ [])
one_paired R x i j d lt l = absurd (omega (arith, lt, l))

abbrev has_mark : ListedResource → Text → Type 0
has_mark s t = IsTrue s.namespaced

name_parts : (a b : ListedResource) → stem_name a ≡ stem_name b → (a.group ≡ b.group) × (a.text ≡ b.text)
name_parts a b e = (cc, cc)

-- a target of a stem is its URL, or its resource with a name
targets_go : (names : List Text) (s : ListedResource) (what : What) (b : Bool) → is_path s.text ≡ b → Contains (cond b (Url s.text ∷ []) (map (λ n. Resource s.group s.text n) names)) what → ((is_path s.text ≡ true) × (Url s.text ≡ what)) ⊎ ((is_path s.text ≡ false) × ((n : Text) × Contains names n × (Resource s.group s.text n ≡ what)))
targets_go names s what true e w = elim (in_cons (Url s.text) [] what w) [ inl q ↦ inl (e, q) | inr v ↦ absurd (omega (arith, v.1)) ]
targets_go names s what false e w = inr (e, contains_map (λ n. Resource s.group s.text n) names what w)

targets_cases : (names : List Text) (s : ListedResource) (what : What) → Contains (targets_of names s) what → ((is_path s.text ≡ true) × (Url s.text ≡ what)) ⊎ ((is_path s.text ≡ false) × ((n : Text) × Contains names n × (Resource s.group s.text n ≡ what)))
targets_cases names s what w = targets_go names s what (is_path s.text) refl w

module _ (lists : UniverseLists) (proper : AreProper lists) where
  -- what is listed is a resource, or a URL
  listed_cases : (r : ListedResource) → Contains (stems_of lists) r → (Contains lists.resources r × (is_path r.text ≡ false) × (r.text ≢ [])) ⊎ ((path : Text) × Contains lists.urls path × (url_stem path ≡ r) × (is_path path ≡ true))
  listed_cases r w = elim (Contains-append_cases lists.resources (map url_stem lists.urls) r w) [
    | inl c ↦
        let ok = All-contains (λ s. IsProper (Resource s.group s.text [])) lists.resources r proper.resources c in
        inl (c, not_path r.text ok.1, ok.0)
    | inr c ↦
        let u = contains_map url_stem lists.urls r c in
        let ok = All-contains (λ path. IsProper (Url path)) lists.urls u.0 proper.urls u.1 in
        inr (u.0, u.1, u.2, begins_path u.0 ok)
  ]

  module _ (stems : List ListedResource) (names : List Text) (are : AreUnitedBy stem_name has_mark (stems_of lists) stems) (once : IsOnceEach text_cmp lists.names names) where
    stem_named : (s : ListedResource) → Contains stems s → (r : ListedResource) × Contains (stems_of lists) r × (stem_name r ≡ stem_name s)
    stem_named s w =
        let a = (are.names (stem_name s)).0 (as_any (λ x. stem_name x ≡ stem_name s) stems s w refl) in
        (a.1, (a.0, a.2, a.3), a.4)

    stem_there : (r : ListedResource) → Contains (stems_of lists) r → (s : ListedResource) × Contains stems s × (stem_name s ≡ stem_name r)
    stem_there r w =
        let a = (are.names (stem_name r)).1 (as_any (λ x. stem_name x ≡ stem_name r) (stems_of lists) r w refl) in
        (a.1, (a.0, a.2, a.3), a.4)

    marked : (s : ListedResource) → Contains stems s → IsTrue s.namespaced ↔ HasUnder stem_name has_mark (stems_of lists) (stem_name s) []
    marked s w = (
      λ m. (are.texts (stem_name s) []).0 (as_any (λ x. (stem_name x ≡ stem_name s) × has_mark x []) stems s w (refl, m)),
      λ h.
          let a = (are.texts (stem_name s) []).1 h in
          let same : a.1 ≡ s = one_of_name stem_name stems a.1 s are.ordered (a.0, a.2, a.3) w a.4.0 in
          subst (λ x. IsTrue x.namespaced) same a.4.1,
    )

    -- a stem that isn't a URL
    module _ (s : ListedResource) (w : Contains stems s) (plain : is_path s.text ≡ false) where
      of_resource : Any (λ r. (r.group ≡ s.group) × (r.text ≡ s.text)) lists.resources
      of_resource =
          let r = stem_named s w in
          let parts = name_parts r.0 s r.2 in
          elim (listed_cases r.0 r.1) [
            | inl c ↦ as_any (λ x. (x.group ≡ s.group) × (x.text ≡ s.text)) lists.resources r.0 c.0 parts
            | inr u ↦ let e : is_path s.text ≡ true = ap is_path (sym parts.1 ∙ sym (ap (λ x. x.text) u.2)) ∙ u.3 in cc
          ]

      resource_marked : (n : Text) → IsTrue s.namespaced ↔ IsNamespaced lists (Resource s.group s.text n)
      resource_marked n = (
        λ m.
            let a = (marked s w).0 m in
            let parts = name_parts a.1 s a.4.0 in
            elim (listed_cases a.1 (a.0, a.2, a.3)) [
              | inl c ↦ as_any (λ x. (x.group ≡ s.group) × (x.text ≡ s.text) × IsTrue x.namespaced) lists.resources a.1 c.0 (parts.0, parts.1, a.4.1)
              | inr u ↦ let e : false ≡ true = ap (λ x. x.namespaced) u.2 ∙ a.4.1 in cc
            ],
        λ h. (marked s w).1 (as_any (λ x. (stem_name x ≡ stem_name s) × has_mark x []) (stems_of lists) h.1
            (Contains-append_left lists.resources (map url_stem lists.urls) h.1 (h.0, h.2, h.3)) (let g = h.4.0 in let x = h.4.1 in cc, h.4.2)),
      )

    -- a stem that is one
    module _ (s : ListedResource) (w : Contains stems s) (path : is_path s.text ≡ true) where
      of_url : Contains lists.urls s.text × (s.group ≡ [])
      of_url =
          let r = stem_named s w in
          let parts = name_parts r.0 s r.2 in
          elim (listed_cases r.0 r.1) [
            | inl c ↦ let e : is_path s.text ≡ false = ap is_path (sym parts.1) ∙ c.1 in cc
            | inr u ↦
                let same : u.0 ≡ s.text = ap (λ x. x.text) u.2 ∙ parts.1 in
                (subst (Contains lists.urls) same u.1, sym parts.0 ∙ sym (ap (λ x. x.group) u.2))
          ]

      url_unmarked : IsTrue s.namespaced → ⊥
      url_unmarked m =
          let a = (marked s w).0 m in
          let parts = name_parts a.1 s a.4.0 in
          elim (listed_cases a.1 (a.0, a.2, a.3)) [
            | inl c ↦ let e : is_path s.text ≡ false = ap is_path (sym parts.1) ∙ c.1 in cc
            | inr u ↦ let e : false ≡ true = ap (λ x. x.namespaced) u.2 ∙ a.4.1 in cc
          ]

    told_of : (s : ListedResource) → Contains stems s → (what : What) → Contains (targets_of names s) what → IsTarget lists what × (IsTrue s.namespaced ↔ IsNamespaced lists what)
    told_of s w what v = elim (targets_cases names s what v) [
      | inl u ↦
          let P : What → Type 0 = λ t. IsTarget lists t × (IsTrue s.namespaced ↔ IsNamespaced lists t) in
          subst P u.1 ((of_url s w u.0).0, (λ m. url_unmarked s w u.0 m, λ h. absurd h))
      | inr r ↦
          let P : What → Type 0 = λ t. IsTarget lists t × (IsTrue s.namespaced ↔ IsNamespaced lists t) in
          subst P r.1.2 ((of_resource s w r.0, (once.same r.1.0).0 r.1.1), resource_marked s w r.0 r.1.0)
    ]

    there_of : (what : What) → IsTarget lists what → (s : ListedResource) × Contains stems s × Contains (targets_of names s) what
    there_of (Resource group text name) h =
        let r = h.0.1 in
        let w : Contains lists.resources r = (h.0.0, h.0.2, h.0.3) in
        let ok = All-contains (λ s. IsProper (Resource s.group s.text [])) lists.resources r proper.resources w in
        let s = stem_there r (Contains-append_left lists.resources (map url_stem lists.urls) r w) in
        let parts = name_parts s.0 r s.2 in
        let plain : is_path s.0.text ≡ false = ap is_path parts.1 ∙ not_path r.text ok.1 in
        let what : Resource s.0.group s.0.text name ≡ Resource group text name = let g = parts.0 ∙ h.0.4.0 in let x = parts.1 ∙ h.0.4.1 in cc in
        let there = map_contains (λ n. Resource s.0.group s.0.text n) names name ((once.same name).1 h.1) in
        (s.0, s.1, rw plain (subst (Contains (map (λ n. Resource s.0.group s.0.text n) names)) what there))
    there_of (Url path) h =
        let ok = All-contains (λ p. IsProper (Url p)) lists.urls path proper.urls h in
        let s = stem_there (url_stem path) (Contains-append_right lists.resources (map url_stem lists.urls) (url_stem path) (map_contains url_stem lists.urls path h)) in
        let parts = name_parts s.0 (url_stem path) s.2 in
        let is : is_path s.0.text ≡ true = ap is_path parts.1 ∙ begins_path path ok in
        (s.0, s.1, rw is (0, omega arith, ap (λ p. Url p) parts.1))

    pub exact : (t : Listed) → Contains (flat_map (listed_of names) stems) t ↔ (IsTarget lists t.0 × (IsTrue t.1 ↔ IsNamespaced lists t.0))
    exact t = (
      λ w.
          let s = contains_flat (listed_of names) stems t w in
          let what = contains_map {Y = Listed} (λ v. (v, s.0.namespaced)) (targets_of names s.0) t s.2 in
          let P : Listed → Type 0 = λ v. IsTarget lists v.0 × (IsTrue v.1 ↔ IsNamespaced lists v.0) in
          subst P what.2 (told_of s.0 s.1 what.0 what.1),
      λ h.
          let s = there_of t.0 h.0 in
          let told = told_of s.0 s.1 t.0 s.2 in
          let same : s.0.namespaced ≡ t.1 = same_bool s.0.namespaced t.1 told.1 h.1 in
          let is = map_contains {Y = Listed} (λ v. (v, s.0.namespaced)) (targets_of names s.0) t.0 s.2 in
          let P : Bool → Type 0 = λ b. Contains (listed_of names s.0) (t.0, b) in
          flat_contains (listed_of names) stems s.0 t s.1 (subst P same is),
    )

    pub stems_are : All IsStem stems
    stems_are k d l =
        let s : ListedResource = get_or stems k d in
        let w = Contains-get_or stems k d l in
        let r = stem_named s w in
        let parts = name_parts r.0 s r.2 in (
          λ none. elim (listed_cases r.0 r.1) [
            | inl c ↦ c.2 (parts.1 ∙ none)
            | inr u ↦ let e : false ≡ true = ap is_path (sym none ∙ sym parts.1 ∙ sym (ap (λ x. x.text) u.2)) ∙ u.3 in cc
          ],
          λ p. (of_url s w p).1,
        )

    texts_of : (s : ListedResource) → Contains stems s → (what : What) → Contains (targets_of names s) what → (group_of what ≡ s.group) × (text_of what ≡ s.text)
    texts_of s w what v = elim (targets_cases names s what v) [
      | inl u ↦ (sym (ap group_of u.1) ∙ sym (of_url s w u.0).1, sym (ap text_of u.1))
      | inr r ↦ (sym (ap group_of r.1.2), sym (ap text_of r.1.2))
    ]

    one_stem_go : (s : ListedResource) (b : Bool) → is_path s.text ≡ b → AllPairs (λ u v. by_name target_texts (u, s.namespaced) (v, s.namespaced) ≡ Less) (cond b (Url s.text ∷ []) (map (λ n. Resource s.group s.text n) names))
    one_stem_go s true e = one_paired (λ u v. by_name target_texts (u, s.namespaced) (v, s.namespaced) ≡ Less) (Url s.text)
    one_stem_go s false e =
        pairs_map (λ u v. by_name target_texts (u, s.namespaced) (v, s.namespaced) ≡ Less) (λ n. Resource s.group s.text n) names
        (λ i j d lt l. last_less s.group s.text (get_or names i d) (get_or names j d) (Less-from_sorted text_cmp names i j d once.ascending lt l))

    one_stem : (s : ListedResource) → AllPairs (λ u v. by_name target_texts u v ≡ Less) (listed_of names s)
    one_stem s = pairs_map {X = Listed} (λ u v. by_name target_texts u v ≡ Less) (λ v. (v, s.namespaced)) (targets_of names s) (one_stem_go s (is_path s.text) refl)

    two_stems : (s r : ListedResource) → Contains stems s → Contains stems r → by_name stem_name s r ≡ Less → (a b : Listed) → Contains (listed_of names s) a → Contains (listed_of names r) b → by_name target_texts a b ≡ Less
    two_stems s r w v less a b ca cb =
        let x = contains_map {Y = Listed} (λ t. (t, s.namespaced)) (targets_of names s) a ca in
        let y = contains_map {Y = Listed} (λ t. (t, r.namespaced)) (targets_of names r) b cb in
        let xt = texts_of s w x.0 x.1 in
        let yt = texts_of r v y.0 y.1 in
        rw (← x.2, ← y.2, xt.0, xt.1, yt.0, yt.1) (then_prefix (text_cmp s.group r.group) (text_cmp s.text r.text) _ less)

    pub ordered : IsAscendingBy target_texts (flat_map (listed_of names) stems)
    ordered = pairs_flat (λ u v. by_name target_texts u v ≡ Less) (λ s r. by_name stem_name s r ≡ Less) (listed_of names) stems (λ s w. one_stem s) two_stems are.ordered
