-- The powers by one grant, added for one subject of its binding after another.
use Rattle.std.proofs.Common.{◌≡◌, ◌⊎◌, ◌<◌, ◌++◌, ◌∷◌, ◌↔◌, [], ℕ, Bool, List, Option, Some, None, IsSome, Any, take, slice_get, inl, inr, refl, sym, ap, ◌∙◌, subst, arith, cond, true, false}
use Rattle.std.specs.BTreeMap.{get}
use Rattle.std.specs.Option.{unwrap_or}
use Rattle.std.specs.Ordering.{is_eq}
use Rattle.std.proofs.lemmas.Cmp.{tied_itself, nat_list_cmp_total}
use Rattle.std.proofs.lemmas.List.{get_or-take, length-take}
use Rattle.std.proofs.lemmas.Map.Lookups.{exact_bytes}
use Rattle.std.proofs.lemmas.Option.{same_Some, slice_get_within, get_or_from_slice_get}
use Rattle.rbac_terms.proofs.Cases.{by_bool}
use Rattle.rbac_terms.proofs.Orderings.{equal_from_test}
use Rattle.rbac_terms.specs.Text.{Text, text_cmp}
use Rattle.rbac_terms.specs.Granting.{IsSubjectKey}
use Rattle.rbac_terms.specs.declared.granting.Subject.{Subject}
use Rattle.rbac_model.specs.Policies.{GrantView}
use Rattle.rbac_model.proofs.LabelSets.{any_push, none_any}
use Rattle.rbac_paths.specs.Finding.{AddsPowers, Found, IsBySubject}
use Rattle.rbac_paths.specs.Powers.{PowerView, who_and_where}
use Rattle.rbac_steps.specs.declared.steps.Step.{Step}

-- an entry that is kept is still there
module _ {X : Type 0} where
  pub still_some : (o now : Option X) → ((y : X) → o ≡ Some y → now ≡ Some y) → IsSome o → IsSome now
  still_some None now kept is = absurd (let both : false ≡ true = is in cc)
  still_some (Some y) now kept is = subst (λ (x : Option X). IsSome x) (sym (kept y refl)) is

  pub none_some : (o : Option X) → o ≡ None → IsSome o → ⊥
  none_some None e is = let both : false ≡ true = is in cc
  none_some (Some y) e is = let both : Some y ≡ None = e in cc

  pub none_before : (o now : Option X) → ((y : X) → o ≡ Some y → now ≡ Some y) → now ≡ None → o ≡ None
  none_before None now kept is = refl
  none_before (Some y) now kept is = absurd (let both : Some y ≡ None = sym (kept y refl) ∙ is in cc)

-- x is put under the text t, unless old has an entry there
pub record IsPutUnless (t : Text) (x : PowerView) (old new : Found) : Type 0 where
  pub kept : (k : Text) (y : PowerView) → get text_cmp old k ≡ Some y → get text_cmp new k ≡ Some y
  pub there : IsSome (get text_cmp new t)
  pub only : (k : Text) (y : PowerView) → get text_cmp new k ≡ Some y → (get text_cmp old k ≡ Some y) ⊎ ((get text_cmp old k ≡ None) × (y ≡ x) × (k ≡ t))

module _ (t : Text) (x v : PowerView) (a b : Found) (o : Option PowerView) (there : get text_cmp a t ≡ o) (is : v ≡ unwrap_or o x)
    (reads : (k : Text) → get text_cmp b k ≡ cond (is_eq (text_cmp t k)) (Some v) (get text_cmp a k)) where
  same_text : (k : Text) → is_eq (text_cmp t k) ≡ true → t ≡ k
  same_text k h = exact_bytes t k (equal_from_test (text_cmp t k) h)

  read_there : (k : Text) → is_eq (text_cmp t k) ≡ true → get text_cmp b k ≡ Some v
  read_there k h = reads k ∙ ap (λ (c : Bool). cond c (Some v) (get text_cmp a k)) h

  read_other : (k : Text) → is_eq (text_cmp t k) ≡ false → get text_cmp b k ≡ get text_cmp a k
  read_other k h = reads k ∙ ap (λ (c : Bool). cond c (Some v) (get text_cmp a k)) h

  put_kept : (k : Text) (y : PowerView) → get text_cmp a k ≡ Some y → get text_cmp b k ≡ Some y
  put_kept k y e = by_bool (is_eq (text_cmp t k))
      (λ h. (let before : o ≡ Some y = sym there ∙ ap (λ (w : Text). get text_cmp a w) (same_text k h) ∙ e in
      read_there k h ∙ ap (λ (w : PowerView). Some w) (is ∙ ap (λ (p : Option PowerView). unwrap_or p x) before)))
      (λ h. read_other k h ∙ e)

  put_only : (q : Option PowerView) → o ≡ q → (k : Text) (y : PowerView) → is_eq (text_cmp t k) ≡ true → get text_cmp b k ≡ Some y → (get text_cmp a k ≡ Some y) ⊎ ((get text_cmp a k ≡ None) × (y ≡ x) × (k ≡ t))
  put_only None none k y h e =
      let now : v ≡ y = same_Some v y (sym (read_there k h) ∙ e) in
      inr (ap (λ (w : Text). get text_cmp a w) (sym (same_text k h)) ∙ there ∙ none, sym now ∙ is ∙ ap (λ (p : Option PowerView). unwrap_or p x) none, sym (same_text k h))
  put_only (Some z) before k y h e =
      let now : v ≡ y = same_Some v y (sym (read_there k h) ∙ e) in
      let old : v ≡ z = is ∙ ap (λ (p : Option PowerView). unwrap_or p x) before in
      inl (ap (λ (w : Text). get text_cmp a w) (sym (same_text k h)) ∙ there ∙ before ∙ ap (λ (w : PowerView). Some w) (sym old ∙ now))

  pub put_unless : IsPutUnless t x a b
  put_unless = record {
    kept = put_kept;
    there = subst (λ (p : Option PowerView). IsSome p) (sym (read_there t (ap is_eq (tied_itself nat_list_cmp_total t)))) refl;
    only = λ k y e. by_bool (is_eq (text_cmp t k)) (λ h. put_only o refl k y h e) (λ h. inl (sym (read_other k h) ∙ e));
  }

module _ (step : Step) (g : GrantView) where
  -- the subject has this key
  abbrev pub HasThis : Text → Subject → Type 0
  HasThis key s = IsSubjectKey s g.binding.namespace key

  pub adds_none : (m : Found) → AddsPowers step g [] m m
  adds_none m = record { kept = λ t y e. e; has = λ key any. absurd (none_any (HasThis key) any); only = λ t y e. inl e }

  -- a subject without a key adds nothing
  pub adds_nobody : (done : List Subject) (s : Subject) (a b : Found) → ((key : Text) → ¬ IsSubjectKey s g.binding.namespace key) → AddsPowers step g done a b → AddsPowers step g (done ++ s ∷ []) a b
  adds_nobody done s a b nobody adds = record {
    kept = adds.kept;
    has = λ key any. elim ((any_push (HasThis key) done s).0 any) [
      | inl h ↦ adds.has key h
      | inr h ↦ absurd (nobody key h)
    ];
    only = adds.only;
  }

  module _ (done : List Subject) (s : Subject) (i : ℕ) (key : Text) (x : PowerView) (a b c : Found)
      (one : (k : Text) → IsSubjectKey s g.binding.namespace k ↔ (k ≡ key))
      (is : x ≡ record { step = step; who = key; grant = g; subject_place = i })
      (here : slice_get g.binding.subjects i ≡ Some s)
      (before : (k : ℕ) (y : Subject) → k < i → slice_get g.binding.subjects k ≡ Some y → IsSubjectKey y g.binding.namespace key → Any (HasThis key) done)
      (put : IsPutUnless (who_and_where key g.binding.namespace) x b c) (adds : AddsPowers step g done a b) where
    first_here : (t : Text) → get text_cmp b t ≡ None → t ≡ who_and_where key g.binding.namespace → IsBySubject step g t (record { step = step; who = key; grant = g; subject_place = i })
    first_here t none same = record {
      step_is = refl;
      grant_is = refl;
      text_is = same;
      subject = (
        s,
        record {
          here = here;
          holds = (one key).1 refl;
          none_before = λ k y low there has. none_some (get text_cmp b t) none (subst (λ (w : Text). IsSome (get text_cmp b w)) (sym same) (adds.has key (before k y low there has)));
        },
      );
    }

    pub adds_more : AddsPowers step g (done ++ s ∷ []) a c
    adds_more = record {
      kept = λ t y e. put.kept t y (adds.kept t y e);
      has = λ k any. elim ((any_push (HasThis k) done s).0 any) [
        | inl h ↦ (let t = who_and_where k g.binding.namespace in still_some (get text_cmp b t) (get text_cmp c t) (put.kept t) (adds.has k h))
        | inr h ↦ subst (λ (w : Text). IsSome (get text_cmp c (who_and_where w g.binding.namespace))) (sym ((one k).0 h)) put.there
      ];
      only = λ t y e. elim (put.only t y e) [
        | inl mid ↦ adds.only t y mid
        | inr new ↦ inr (
          none_before (get text_cmp a t) (get text_cmp b t) (adds.kept t) new.0,
          subst (λ (z : PowerView). IsBySubject step g t z) (sym (new.1 ∙ is)) (first_here t new.0 new.2),
        )
      ];
    }

-- an earlier subject with the key is among the subjects before place i
pub key_before : (own : Option Text) (key : Text) (subjects : List Subject) (i k : ℕ) (y : Subject) → k < i → slice_get subjects k ≡ Some y → IsSubjectKey y own key → Any (λ s. IsSubjectKey s own key) (take i subjects)
key_before own key subjects i k y low there has = (
  k,
  y,
  omega (arith, low, slice_get_within subjects k y there, length-take i subjects),
  get_or-take i subjects k y low ∙ get_or_from_slice_get subjects k y y there,
  has,
)
