-- The near grants to the groups of one binding, added for one subject after another.
use Rattle.std.proofs.Common.{◌≡◌, ◌⊎◌, ◌<◌, ◌++◌, ◌∷◌, [], ℕ, Bool, List, Option, Some, None, IsSome, Contains, take, slice_get, inl, inr, refl, sym, ap, ◌∙◌, subst, arith, cond, true, false}
use Rattle.std.specs.BTreeMap.{get}
use Rattle.std.specs.Option.{unwrap_or}
use Rattle.std.specs.Ordering.{is_eq}
use Rattle.std.proofs.lemmas.Cmp.{tied_itself, nat_list_cmp_total}
use Rattle.std.proofs.lemmas.List.{get_or-take, length-take}
use Rattle.std.proofs.lemmas.List.Elements.{Contains-push_cases}
use Rattle.std.proofs.lemmas.Map.Lookups.{exact_bytes}
use Rattle.std.proofs.lemmas.Option.{same_Some, slice_get_within, get_or_from_slice_get}
use Rattle.rbac_terms.proofs.Cases.{by_bool}
use Rattle.rbac_terms.proofs.Orderings.{equal_from_test}
use Rattle.rbac_terms.specs.Text.{Text, text_cmp}
use Rattle.rbac_terms.specs.declared.granting.Subject.{Subject}
use Rattle.rbac_terms.specs.declared.granting.Subject.TheVariants.{Group as ForGroup}
use Rattle.rbac_near.specs.Members.{Found, IsForGroup}
use Rattle.rbac_near.specs.declared.near.Missing.TheVariants.{Member}
use Rattle.rbac_near.specs.declared.near.Near.{Near}

-- an entry that is kept is still there
module _ {X : Type 0} where
  pub still_some : (o now : Option X) → ((y : X) → o ≡ Some y → now ≡ Some y) → IsSome o → IsSome now
  still_some None now kept is = absurd (let both : false ≡ true = is in cc)
  still_some (Some y) now kept is = subst (λ (x : Option X). IsSome x) (sym (kept y refl)) is

  pub none_some : (o : Option X) → o ≡ None → IsSome o → ⊥
  none_some None e is = let both : false ≡ true = is in cc
  none_some (Some y) e is = let both : Some y ≡ None = e in cc

  none_before : (o now : Option X) → ((y : X) → o ≡ Some y → now ≡ Some y) → now ≡ None → o ≡ None
  none_before None now kept is = refl
  none_before (Some y) now kept is = absurd (let both : Some y ≡ None = sym (kept y refl) ∙ is in cc)

-- x is put under the text t, unless old has an entry there
pub record IsPutUnless (t : Text) (x : Near) (old new : Found) : Type 0 where
  pub kept : (k : Text) (y : Near) → get text_cmp old k ≡ Some y → get text_cmp new k ≡ Some y
  pub there : IsSome (get text_cmp new t)
  pub only : (k : Text) (y : Near) → get text_cmp new k ≡ Some y → (get text_cmp old k ≡ Some y) ⊎ ((get text_cmp old k ≡ None) × (y ≡ x) × (k ≡ t))

module _ (t : Text) (x v : Near) (a b : Found) (o : Option Near) (there : get text_cmp a t ≡ o) (is : v ≡ unwrap_or o x)
    (reads : (k : Text) → get text_cmp b k ≡ cond (is_eq (text_cmp t k)) (Some v) (get text_cmp a k)) where
  same_text : (k : Text) → is_eq (text_cmp t k) ≡ true → t ≡ k
  same_text k h = exact_bytes t k (equal_from_test (text_cmp t k) h)

  read_there : (k : Text) → is_eq (text_cmp t k) ≡ true → get text_cmp b k ≡ Some v
  read_there k h = reads k ∙ ap (λ (c : Bool). cond c (Some v) (get text_cmp a k)) h

  read_other : (k : Text) → is_eq (text_cmp t k) ≡ false → get text_cmp b k ≡ get text_cmp a k
  read_other k h = reads k ∙ ap (λ (c : Bool). cond c (Some v) (get text_cmp a k)) h

  put_kept : (k : Text) (y : Near) → get text_cmp a k ≡ Some y → get text_cmp b k ≡ Some y
  put_kept k y e = by_bool (is_eq (text_cmp t k))
      (λ h. (let before : o ≡ Some y = sym there ∙ ap (λ (w : Text). get text_cmp a w) (same_text k h) ∙ e in
      read_there k h ∙ ap (λ (w : Near). Some w) (is ∙ ap (λ (p : Option Near). unwrap_or p x) before)))
      (λ h. read_other k h ∙ e)

  put_only : (q : Option Near) → o ≡ q → (k : Text) (y : Near) → is_eq (text_cmp t k) ≡ true → get text_cmp b k ≡ Some y → (get text_cmp a k ≡ Some y) ⊎ ((get text_cmp a k ≡ None) × (y ≡ x) × (k ≡ t))
  put_only None none k y h e =
      let now : v ≡ y = same_Some v y (sym (read_there k h) ∙ e) in
      inr (ap (λ (w : Text). get text_cmp a w) (sym (same_text k h)) ∙ there ∙ none, sym now ∙ is ∙ ap (λ (p : Option Near). unwrap_or p x) none, sym (same_text k h))
  put_only (Some z) before k y h e =
      let now : v ≡ y = same_Some v y (sym (read_there k h) ∙ e) in
      let old : v ≡ z = is ∙ ap (λ (p : Option Near). unwrap_or p x) before in
      inl (ap (λ (w : Text). get text_cmp a w) (sym (same_text k h)) ∙ there ∙ before ∙ ap (λ (w : Near). Some w) (sym old ∙ now))

  pub put_unless : IsPutUnless t x a b
  put_unless = record {
    kept = put_kept;
    there = subst (λ (p : Option Near). IsSome p) (sym (read_there t (ap is_eq (tied_itself nat_list_cmp_total t)))) refl;
    only = λ k y e. by_bool (is_eq (text_cmp t k)) (λ h. put_only o refl k y h e) (λ h. inl (sym (read_other k h) ∙ e));
  }

one_group : (a b : Text) → ForGroup a ≡ ForGroup b → a ≡ b
one_group a b e = cc

module _ (n : ℕ) (subjects : List Subject) where
  -- near grants are added for the groups of the subjects that are done, the first ones of all
  pub record AddsOf (done : List Subject) (old new : Found) : Type 0 where
    pub kept : (t : Text) (y : Near) → get text_cmp old t ≡ Some y → get text_cmp new t ≡ Some y
    pub has : (group : Text) → Contains done (ForGroup group) → IsSome (get text_cmp new group)
    pub only : (t : Text) (y : Near) → get text_cmp new t ≡ Some y → (get text_cmp old t ≡ Some y) ⊎ ((get text_cmp old t ≡ None) × IsForGroup n subjects t y)

  -- a subject that is no group adds nothing
  pub adds_other : (done : List Subject) (s : Subject) (a b : Found) → ((group : Text) → s ≡ ForGroup group → ⊥) → AddsOf done a b → AddsOf (done ++ s ∷ []) a b
  adds_other done s a b other adds = record {
    kept = adds.kept;
    has = λ group w. elim (Contains-push_cases done s (ForGroup group) w) [
      | inl h ↦ adds.has group h
      | inr e ↦ absurd (other group e)
    ];
    only = adds.only;
  }

  -- an earlier subject for the group is among the subjects before place i
  before : (i k : ℕ) (s : Subject) → k < i → slice_get subjects k ≡ Some s → Contains (take i subjects) s
  before i k s low there = (k, omega (arith, low, slice_get_within subjects k s there, length-take i subjects), get_or-take i subjects k s low ∙ get_or_from_slice_get subjects k s s there)

  module _ (i : ℕ) (group : Text) (a b c : Found) (here : slice_get subjects i ≡ Some (ForGroup group))
      (put : IsPutUnless group (record { missing = Member; number = n; subject_place = i }) b c) (adds : AddsOf (take i subjects) a b) where
    new_entry : (t : Text) → get text_cmp b t ≡ None → t ≡ group → IsForGroup n subjects t (record { missing = Member; number = n; subject_place = i })
    new_entry t none same = (
      refl,
      refl,
      record {
        here = here ∙ ap (λ (w : Text). Some (ForGroup w)) (sym same);
        holds = refl;
        none_before = λ k y low there is. none_some (get text_cmp b t) none (adds.has t (subst (λ (s : Subject). Contains (take i subjects) s) is (before i k y low there)));
      },
    )

    pub adds_more : AddsOf (take i subjects ++ ForGroup group ∷ []) a c
    adds_more = record {
      kept = λ t y e. put.kept t y (adds.kept t y e);
      has = λ t w. elim (Contains-push_cases (take i subjects) (ForGroup group) (ForGroup t) w) [
        | inl h ↦ still_some (get text_cmp b t) (get text_cmp c t) (put.kept t) (adds.has t h)
        | inr e ↦ subst (λ (k : Text). IsSome (get text_cmp c k)) (one_group group t e) put.there
      ];
      only = λ t y e. elim (put.only t y e) [
        | inl mid ↦ adds.only t y mid
        | inr new ↦ inr (none_before (get text_cmp a t) (get text_cmp b t) (adds.kept t) new.0, subst (λ (z : Near). IsForGroup n subjects t z) (sym new.1) (new_entry t new.0 new.2))
      ];
    }
