-- the subjects of a binding under their keys, and the first that names somebody
use Rattle.std.proofs.Common.{◌≡◌, ℕ, ◌+◌, ◌<◌, ◌≤◌, List, [], ◌∷◌, ◌++◌, length, slice_get, get_or, Contains, ap, refl, sym, ◌∙◌, subst, arith, inl, inr, ◌⊎◌, ◌↔◌}
use Rattle.std.specs.Prelude.{Option, Some, None, MatchOption}
use Rattle.std.specs.List.Sorted.{IsPermutation, IsSorted}
use Rattle.std.proofs.lemmas.Bool.{cases_eq}
use Rattle.std.proofs.lemmas.List.{get_or_append_left, get_or_at, length-append}
use Rattle.std.proofs.lemmas.List.Elements.{Contains-append_left, Contains-push, Contains-push_cases}
use Rattle.std.proofs.lemmas.List.Sorted.{Contains-permutation, IsPermutation-sym}
use Rattle.std.proofs.lemmas.Option.{same_Some, slice_get_within, slice_get-get_or}
use Rattle.rbac_terms.specs.Text.{Text}
use Rattle.rbac_terms.specs.Principals.{Who}
use Rattle.rbac_terms.specs.Granting.{IsSubjectKey, Names}
use Rattle.rbac_terms.specs.declared.granting.Binding.{Binding}
use Rattle.rbac_terms.specs.declared.granting.Subject.{Subject}
use Rattle.rbac_model.specs.Holders.{IsKeyFor}
use Rattle.rbac_model.specs.Lists.{IsFirstAt}
use Rattle.rbac_model.specs.Policies.{BindingNames}
use Rattle.rbac_model.proofs.KeyNames.{naming_key, key_names}
use Rattle.rbac_subjects.specs.declared.subject_keys.Keyed.{Keyed}
use Rattle.rbac_subjects.specs.declared.live_bindings.Live.{Live}
use Rattle.rbac_subjects.specs.Keyed.{keyed, keyed_cmp, AnswersNext, IsLiveAt, IsLiveUnderAny}
use Rattle.rbac_subjects.specs.Naming.{AreKeyedSubjects, AreOfBindings, IsKeyAt}

-- exactly the keys of so many first subjects, each with the subject's place
abbrev pub AreKeyedTo : Binding → ℕ → List Keyed → Type 0
AreKeyedTo b count xs = (x : Keyed) → Contains xs x ↔ ((x.place < count) × IsKeyAt b x.place x.key)

pub keyed_to_none : (b : Binding) (xs : List Keyed) → xs ≡ [] → AreKeyedTo b 0 xs
keyed_to_none b xs none x = (λ c. absurd (let none : Contains [] x = subst (λ (ys : List Keyed). Contains ys x) none c in omega (arith, none.1)), λ w. absurd (let low = w.0 in omega (arith, low)))

-- one subject more
module _ (b : Binding) (n : ℕ) (s : Subject) (there : slice_get b.subjects n ≡ Some s) (xs : List Keyed) (are : AreKeyedTo b n xs) where
  key_of : (key : Text) → IsKeyAt b n key → IsSubjectKey s b.namespace key
  key_of key k = subst (λ (u : Subject). IsSubjectKey u b.namespace key) (same_Some k.0 s (sym k.1 ∙ there)) k.2

  pub keyed_to_same : ((key : Text) → IsSubjectKey s b.namespace key → ⊥) → AreKeyedTo b (n + 1) xs
  keyed_to_same none x = (
    λ c. (let w = (are x).0 c in (let low = w.0 in omega (arith, low), w.1)),
    λ w. elim (cases_eq x.place n) [
      | inl same ↦ absurd (none x.key (key_of x.key (subst (λ (k : ℕ). IsKeyAt b k x.key) same w.1)))
      | inr ne ↦ (are x).1 (let low = w.0 in omega (arith, low, ne), w.1)
    ],
  )

  pub keyed_to_more : (key : Text) → ((k : Text) → IsSubjectKey s b.namespace k ↔ (k ≡ key)) → AreKeyedTo b (n + 1) (xs ++ keyed key n ∷ [])
  keyed_to_more key is x = (
    λ c. elim (Contains-push_cases xs (keyed key n) x c) [
      | inl old ↦ (let w = (are x).0 old in (let low = w.0 in omega (arith, low), w.1))
      | inr e ↦ subst (λ (y : Keyed). (y.place < n + 1) × IsKeyAt b y.place y.key) e (omega arith, (s, there, (is key).1 refl))
    ],
    λ w. elim (cases_eq x.place n) [
      | inl same ↦
          let k = (is x.key).0 (key_of x.key (subst (λ (k : ℕ). IsKeyAt b k x.key) same w.1)) in
          let e : keyed key n ≡ x = ap (λ (t : Text). keyed t n) (sym k) ∙ ap (keyed x.key) (sym same) in
          subst (λ (y : Keyed). Contains (xs ++ keyed key n ∷ []) y) e (Contains-push xs (keyed key n))
      | inr ne ↦ Contains-append_left xs (keyed key n ∷ []) x ((are x).1 (let low = w.0 in omega (arith, low, ne), w.1))
    ],
  )

pub keyed_to_all : (b : Binding) (count : ℕ) (xs new : List Keyed) → length b.subjects ≤ count → AreKeyedTo b count xs → IsPermutation xs new → IsSorted keyed_cmp new → AreKeyedSubjects b new
keyed_to_all b count xs new all are moved up = record {
  sorted = up;
  exact = λ x. (
    λ c. ((are x).0 (Contains-permutation new xs x (IsPermutation-sym xs new moved) c)).1,
    λ k. Contains-permutation xs new x moved ((are x).1 (let low = slice_get_within b.subjects x.place k.0 k.1 in omega (arith, all, low), k)),
  );
}

-- the least place under one of somebody's keys is that of the first subject that names them
module _ (b : Binding) (who : Who) (xs : List Keyed) (keys : AreKeyedSubjects b xs) (live : Live) (all : (at : ℕ) → IsLiveAt live at ↔ (at < length b.subjects)) where
  abbrev Found : ℕ → Type 0
  Found = IsLiveUnderAny xs live (IsKeyFor who)

  names_there : (n : ℕ) → Found n → (s : Subject) × (slice_get b.subjects n ≡ Some s) × Names s b.namespace who
  names_there n found = let k = (keys.exact (keyed found.0 n)).0 found.2.0 in (k.0, k.1, key_names k.0 b.namespace who found.0 k.2 found.1)

  found_there : (n : ℕ) (s : Subject) → slice_get b.subjects n ≡ Some s → Names s b.namespace who → Found n
  found_there n s there names = let k = naming_key s b.namespace who names in (k.0, k.2, ((keys.exact (keyed k.0 n)).1 (s, there, k.1), (all n).1 (slice_get_within b.subjects n s there)))

  pub first_naming : (o : Option ℕ) → AnswersNext Found 0 o
      → MatchOption o (BindingNames b who → ⊥) (λ at. (s : Subject) × IsFirstAt (λ s. Names s b.namespace who) b.subjects at s)
  first_naming None none = λ names. none names.0 (omega arith) (found_there names.0 names.1 (slice_get-get_or b.subjects names.0 names.1 names.2 ∙ ap (λ (s : Subject). Some s) names.3) names.4)
  first_naming (Some at) next = let w = names_there at next.holds in (
    w.0,
    record {
      here = w.1;
      holds = w.2;
      none_before = λ k s less there names. next.none_before k (omega arith) less (found_there k s there names);
    },
  )

-- one binding more
pub of_bindings_more : (bs : List Binding) (n : ℕ) (b : Binding) (lists : List (List Keyed)) (xs : List Keyed) → slice_get bs n ≡ Some b → length lists ≡ n → (xs ≡ []) ⊎ AreKeyedSubjects b xs
    → ((at : ℕ) (c : Binding) → at < n → slice_get bs at ≡ Some c → (get_or lists at [] ≡ []) ⊎ AreKeyedSubjects c (get_or lists at []))
    → (at : ℕ) (c : Binding) → at < n + 1 → slice_get bs at ≡ Some c → (get_or (lists ++ xs ∷ []) at [] ≡ []) ⊎ AreKeyedSubjects c (get_or (lists ++ xs ∷ []) at [])
of_bindings_more bs n b lists xs there len are below at c low is = elim (cases_eq at n) [
  | inl same ↦
      let e : b ≡ c = same_Some b c (sym there ∙ ap (slice_get bs) (sym same) ∙ is) in
      subst (λ (ys : List Keyed). (ys ≡ []) ⊎ AreKeyedSubjects c ys) (sym (get_or_at lists xs [] [] at (len ∙ sym same))) (subst (λ (d : Binding). (xs ≡ []) ⊎ AreKeyedSubjects d xs) e are)
  | inr ne ↦ subst (λ (ys : List Keyed). (ys ≡ []) ⊎ AreKeyedSubjects c ys) (sym (get_or_append_left lists (xs ∷ []) [] at (omega (arith, low, ne, len)))) (below at c (omega (arith, low, ne)) is)
]

-- entries that are there are those of the binding's subjects
pub keyed_there : (b : Binding) (xs list : List Keyed) → xs ≡ list → (list ≡ []) ⊎ AreKeyedSubjects b list → (xs ≡ [] → ⊥) → AreKeyedSubjects b xs
keyed_there b xs list same are some = elim are [
  | inl none ↦ absurd (some (same ∙ none))
  | inr keys ↦ rw same keys
]
