-- findings, one after the other
use Rattle.std.proofs.Common.{◌≡◌, ◌⊎◌, ◌↔◌, ◌+◌, ◌<◌, ◌≤◌, ◌++◌, ◌∷◌, [], ℕ, Any, take, length, get_or, inl, inr, refl, sym, subst, ap, ◌∙◌, IsSome, Some, None, Option, List, Bor, Bool, true, false, cond}
use Rattle.std.specs.BTreeMap.{get}
use Rattle.std.specs.Option.{unwrap_or}
use Rattle.std.specs.Ordering.{is_eq}
use Rattle.std.proofs.lemmas.Cmp.{tied_itself, nat_list_cmp_total}
use Rattle.std.proofs.lemmas.Option.{same_Some}
use Rattle.std.proofs.lemmas.Map.Lookups.{exact_bytes}
use Rattle.std.proofs.lemmas.List.{take_all}
use Rattle.rbac_model.proofs.Stairs.{take_read}
use Rattle.rbac_model.proofs.LabelSets.{any_push, none_any}
use Rattle.rbac_terms.proofs.Cases.{by_bool}
use Rattle.rbac_terms.proofs.Orderings.{equal_from_test}
use Rattle.rbac_terms.specs.Text.{Text, text_cmp}
use Rattle.rbac_terms.specs.Principals.{Who}
use Rattle.rbac_terms.specs.declared.matching.Rule.{Rule}
use Rattle.rbac_diff.specs.Permissions.{PermissionView, Permitted}
use Rattle.rbac_diff.specs.Finding.{FoundChanges, Finds, IsMissing, SearchFinds}
use Rattle.rbac_diff.specs.declared.finding.Search.{Search}
use Rattle.rbac_diff.specs.Texts.{permission_text}
use Rattle.rbac_diff.specs.Listed.{OriginView}

-- what is there stays there
module _ {X : Type 0} where
  pub still_some : (o now : Option X) → ((y : X) → o ≡ Some y → now ≡ Some y) → IsSome o → IsSome now
  still_some None now kept is = absurd (let both : false ≡ true = is in cc)
  still_some (Some y) now kept is = subst (λ (x : Option X). IsSome x) (sym (kept y refl)) is

  pub none_some : (o : Option X) → o ≡ None → IsSome o → ⊥
  none_some None e is = let both : false ≡ true = is in cc
  none_some (Some y) e is = let both : Some y ≡ None = e in cc

  pub none_before : (o now : Option X) → ((y : X) → o ≡ Some y → now ≡ Some y) → now ≡ None → o ≡ None
  none_before None now kept is = refl
  none_before (Some y) now kept is = absurd (let both : Some y ≡ None = sym (kept y refl) ∙ is in cc)

pub finds_none : (P : PermissionView → Type 0) (x : OriginView) (m : FoundChanges) → ((p : PermissionView) → P p → ⊥) → Finds P x m m
finds_none P x m none = record { kept = λ t y e. e; has = λ p h. absurd (none p h); only = λ t y e. inl e }

pub finds_more : (P Q R : PermissionView → Type 0) (x : OriginView) (a b c : FoundChanges) → ((p : PermissionView) → R p ↔ (P p ⊎ Q p)) → Finds P x a b → Finds Q x b c → Finds R x a c
finds_more P Q R x a b c either f g = record {
  kept = λ t y e. g.kept t y (f.kept t y e);
  has = λ p r. elim ((either p).0 r) [
    | inl h ↦ (let t = permission_text p in still_some (get text_cmp b t) (get text_cmp c t) (g.kept t) (f.has p h))
    | inr h ↦ g.has p h
  ];
  only = λ t y e. elim (g.only t y e) [
    | inl before ↦ elim (f.only t y before) [
      | inl first ↦ inl first
      | inr new ↦ inr (new.0, new.1, (new.2.0, (either new.2.0).1 (inl new.2.1), new.2.2))
    ]
    | inr new ↦ inr (none_before (get text_cmp a t) (get text_cmp b t) (f.kept t) new.0, new.1, (new.2.0, (either new.2.0).1 (inr new.2.1), new.2.2))
  ];
}

pub finds_same : (P Q : PermissionView → Type 0) (x : OriginView) (a b : FoundChanges) → ((p : PermissionView) → P p ↔ Q p) → Finds P x a b → Finds Q x a b
finds_same P Q x a b same f = record {
  kept = f.kept;
  has = λ p h. f.has p ((same p).1 h);
  only = λ t y e. elim (f.only t y e) [
    | inl before ↦ inl before
    | inr new ↦ inr (new.0, new.1, (new.2.0, (same new.2.0).0 new.2.1, new.2.2))
  ];
}

-- what is put under a text that had nothing
finds_put : (q : PermissionView) (x : OriginView) (a b : FoundChanges) (t : Text) → t ≡ permission_text q → get text_cmp a t ≡ None → ((k : Text) → get text_cmp b k ≡ cond (is_eq (text_cmp t k)) (Some x) (get text_cmp a k)) → Finds (λ p. p ≡ q) x a b
finds_put q x a b t same none reads = record {
  kept = λ k y e. by_bool (is_eq (text_cmp t k))
      (λ h. (let at : t ≡ k = exact_bytes t k (equal_from_test (text_cmp t k) h) in let both : None ≡ Some y = sym none ∙ ap (λ (w : Text). get text_cmp a w) at ∙ e in absurd (cc both)))
      (λ h. reads k ∙ ap (λ (c : Bool). cond c (Some x) (get text_cmp a k)) h ∙ e);
  has = λ p e. (let is : get text_cmp b t ≡ Some x = reads t ∙ ap (λ (c : Bool). cond c (Some x) (get text_cmp a t)) (ap is_eq (tied_itself nat_list_cmp_total t)) in
      let there : t ≡ permission_text p = same ∙ ap permission_text (sym e) in
      subst (λ (o : Option OriginView). IsSome o) (sym is ∙ ap (λ (w : Text). get text_cmp b w) there) refl);
  only = λ k y e. by_bool (is_eq (text_cmp t k))
      (λ h. (let at : t ≡ k = exact_bytes t k (equal_from_test (text_cmp t k) h) in
      let is : Some x ≡ Some y = sym (reads k ∙ ap (λ (c : Bool). cond c (Some x) (get text_cmp a k)) h) ∙ e in
      inr (ap (λ (w : Text). get text_cmp a w) (sym at) ∙ none, sym (same_Some x y is), (q, refl, sym at ∙ same))))
      (λ h. inl (sym (reads k ∙ ap (λ (c : Bool). cond c (Some x) (get text_cmp a k)) h) ∙ e));
}

-- what is there under a text stays as it is put there again
finds_kept : (q : PermissionView) (x y : OriginView) (a b : FoundChanges) (t : Text) → t ≡ permission_text q → get text_cmp a t ≡ Some y → ((k : Text) → get text_cmp b k ≡ cond (is_eq (text_cmp t k)) (Some y) (get text_cmp a k)) → Finds (λ p. p ≡ q) x a b
finds_kept q x y a b t same there reads =
    let as_before : (k : Text) → get text_cmp b k ≡ get text_cmp a k = λ k. by_bool (is_eq (text_cmp t k))
    (λ h. (let at : t ≡ k = exact_bytes t k (equal_from_test (text_cmp t k) h) in
    reads k ∙ ap (λ (c : Bool). cond c (Some y) (get text_cmp a k)) h ∙ sym there ∙ ap (λ (w : Text). get text_cmp a w) at))
    (λ h. reads k ∙ ap (λ (c : Bool). cond c (Some y) (get text_cmp a k)) h) in
    record {
      kept = λ k z e. as_before k ∙ e;
      has = λ p e. (let at : t ≡ permission_text p = same ∙ ap permission_text (sym e) in
          subst (λ (o : Option OriginView). IsSome o) (sym (as_before t ∙ there) ∙ ap (λ (w : Text). get text_cmp b w) at) refl);
      only = λ k z e. inl (sym (as_before k) ∙ e);
    }

-- what is put under a text unless something is there already
pub finds_entry : (q : PermissionView) (x v : OriginView) (a b : FoundChanges) (t : Text) → t ≡ permission_text q → (o : Option OriginView) → get text_cmp a t ≡ o → v ≡ unwrap_or o x
    → ((k : Text) → get text_cmp b k ≡ cond (is_eq (text_cmp t k)) (Some v) (get text_cmp a k)) → Finds (λ p. p ≡ q) x a b
finds_entry q x v a b t same None none is reads =
    finds_put q x a b t same none (subst (λ (w : OriginView). (k : Text) → get text_cmp b k ≡ cond (is_eq (text_cmp t k)) (Some w) (get text_cmp a k)) is reads)
finds_entry q x v a b t same (Some y) there is reads =
    finds_kept q x y a b t same there (subst (λ (w : OriginView). (k : Text) → get text_cmp b k ≡ cond (is_eq (text_cmp t k)) (Some w) (get text_cmp a k)) is reads)

-- one permission that is missing
pub exactly_one : (rules : List (Bor Rule)) (q : PermissionView) → IsMissing rules q → (p : PermissionView) → (p ≡ q) ↔ ((p.principal ≡ q.principal) × ((p.verb ≡ q.verb) × (p.target ≡ q.target)) × IsMissing rules p)
exactly_one rules q m p = (
  λ e. (ap (λ (w : PermissionView). w.principal) e, (ap (λ (w : PermissionView). w.verb) e, ap (λ (w : PermissionView). w.target) e), subst (λ (w : PermissionView). IsMissing rules w) (sym e) m),
  λ h. (
      let of : Who → Text → Permitted → PermissionView = λ w v t. record { principal = w; verb = v; target = t } in
      ap (λ (w : Who). of w p.verb p.target) h.0 ∙ ap (λ (v : Text). of q.principal v p.target) h.1.0 ∙ ap (λ (t : Permitted). of q.principal q.verb t) h.1.1
      ),
)

-- ---- a search, word by word

module _ (s : Search) {X : Type 0} (Q : X → PermissionView → Type 0) where
  pub loop_start : (xs : List X) (m : FoundChanges) → SearchFinds s (λ p. Any (λ x. Q x p) (take 0 xs)) m m
  loop_start xs m = finds_none (λ p. (p.principal ≡ s.principal.now) × Any (λ x. Q x p) (take 0 xs) × IsMissing s.others.now p) s.origin.now m (λ p h. none_any (λ x. Q x p) h.1)

  pub loop_next : (xs : List X) (i : ℕ) (x : X) (a b c : FoundChanges) → i < length xs → x ≡ get_or xs i x → SearchFinds s (λ p. Any (λ x. Q x p) (take i xs)) a b → SearchFinds s (Q x) b c → SearchFinds s (λ p. Any (λ x. Q x p) (take (i + 1) xs)) a c
  loop_next xs i x a b c l read f g =
      let more : take (i + 1) xs ≡ take i xs ++ x ∷ [] = take_read xs i x l read in
      rw more (finds_more (λ p. (p.principal ≡ s.principal.now) × Any (λ x. Q x p) (take i xs) × IsMissing s.others.now p) (λ p. (p.principal ≡ s.principal.now) × Q x p × IsMissing s.others.now p)
      (λ p. (p.principal ≡ s.principal.now) × Any (λ x. Q x p) (take i xs ++ x ∷ []) × IsMissing s.others.now p) s.origin.now a b c
      (λ p. (
        λ h. elim ((any_push (λ x. Q x p) (take i xs) x).0 h.1) [ inl k ↦ inl (h.0, k, h.2) | inr k ↦ inr (h.0, k, h.2) ],
        λ h. elim h [
          | inl k ↦ (k.0, (any_push (λ x. Q x p) (take i xs) x).1 (inl k.1), k.2)
          | inr k ↦ (k.0, (any_push (λ x. Q x p) (take i xs) x).1 (inr k.1), k.2)
        ],
      )) f g)

  pub loop_all : (xs : List X) (i : ℕ) (a b : FoundChanges) → length xs ≤ i → SearchFinds s (λ p. Any (λ x. Q x p) (take i xs)) a b → SearchFinds s (λ p. Any (λ x. Q x p) xs) a b
  loop_all xs i a b l f = let all : take i xs ≡ xs = take_all i xs l in rw all at f

-- a search for the same, told in other words
pub search_same : (s : Search) (P Q : PermissionView → Type 0) (a b : FoundChanges) → ((p : PermissionView) → P p ↔ Q p) → SearchFinds s P a b → SearchFinds s Q a b
search_same s P Q a b same f =
    finds_same (λ p. (p.principal ≡ s.principal.now) × P p × IsMissing s.others.now p) (λ p. (p.principal ≡ s.principal.now) × Q p × IsMissing s.others.now p) s.origin.now a b
    (λ p. (λ h. (h.0, (same p).0 h.1, h.2), λ h. (h.0, (same p).1 h.1, h.2))) f

pub search_more : (s : Search) (P Q R : PermissionView → Type 0) (a b c : FoundChanges) → ((p : PermissionView) → R p ↔ (P p ⊎ Q p)) → SearchFinds s P a b → SearchFinds s Q b c → SearchFinds s R a c
search_more s P Q R a b c either f g =
    finds_more (λ p. (p.principal ≡ s.principal.now) × P p × IsMissing s.others.now p) (λ p. (p.principal ≡ s.principal.now) × Q p × IsMissing s.others.now p) (λ p. (p.principal ≡ s.principal.now) × R p × IsMissing s.others.now p) s.origin.now a b c
    (λ p. (
      λ h. elim ((either p).0 h.1) [ inl k ↦ inl (h.0, k, h.2) | inr k ↦ inr (h.0, k, h.2) ],
      λ h. elim h [ inl k ↦ (k.0, (either p).1 (inl k.1), k.2) | inr k ↦ (k.0, (either p).1 (inr k.1), k.2) ],
    )) f g

pub search_none : (s : Search) (P : PermissionView → Type 0) (m : FoundChanges) → ((p : PermissionView) → P p → ⊥) → SearchFinds s P m m
search_none s P m none = finds_none (λ p. (p.principal ≡ s.principal.now) × P p × IsMissing s.others.now p) s.origin.now m (λ p h. none p h.1)
