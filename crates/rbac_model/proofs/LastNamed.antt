-- the last of each name, as more are given and as the list is sorted
use Rattle.std.proofs.Common.{◌≡◌, ◌≢◌, List, [], ◌∷◌, ◌++◌, ◌↔◌, ◌⊎◌, inl, inr, sym, ap, refl, subst, Bool, true, false, Equal}
use Rattle.std.specs.Prelude.{All}
use Rattle.std.specs.List.{filter}
use Rattle.std.specs.Ordering.{is_lt}
use Rattle.std.specs.Cmp.{IsStrictWeakOrder}
use Rattle.std.specs.List.Sorted.{ties, IsStable}
use Rattle.std.proofs.lemmas.List.Elements.{All-cons, All-head, All-tail, All-nil, All-push, All-filter}
use Rattle.std.proofs.lemmas.List.Sorted.{ranks_by}
use Rattle.std.proofs.lemmas.Cmp.{nat_list_cmp_total, lists_total}
use Rattle.rbac_terms.specs.Text.{Text}
use Rattle.rbac_model.specs.Lists.{by_name, IsAscendingBy, IsPut}
use Rattle.rbac_model.specs.Kept.{IsLastNamed, AreLastNamed}
use Rattle.rbac_model.proofs.NamePlaces.{equal_from_name}

module _ {X : Type 0} (name : X → List Text) where
  abbrev Unnamed : X → List X → Type 0
  Unnamed x ys = All (λ z. name z ≢ name x) ys

  unnamed_prefix : (x z : X) (ys : List X) → Unnamed x (ys ++ z ∷ []) → Unnamed x ys × (name z ≢ name x)
  unnamed_prefix x z [] h = (All-nil (λ y. name y ≢ name x), All-head (λ y. name y ≢ name x) z [] h)
  unnamed_prefix x z (y ∷ ys) h =
      let rest = unnamed_prefix x z ys (All-tail (λ w. name w ≢ name x) y (ys ++ z ∷ []) h) in
      (All-cons (λ w. name w ≢ name x) y ys (All-head (λ w. name w ≢ name x) y (ys ++ z ∷ []) h) rest.0, rest.1)

  -- one more is given: it is the last of its name, and of every other name the last stays
  pub last_push : (xs : List X) (z y : X) → IsLastNamed name (xs ++ z ∷ []) y ↔ ((z ≡ y) ⊎ (IsLastNamed name xs y × (name z ≢ name y)))
  last_push [] z y = (
    λ w. elim w [ inl h ↦ inl h.0 | inr h ↦ absurd h ],
    λ w. elim w [ inl e ↦ inl (e, All-nil (λ x. name x ≢ name y)) | inr h ↦ absurd h.0 ],
  )
  last_push (x ∷ xs) z y = (
    λ w. elim w [
      | inl h ↦ let parts = unnamed_prefix y z xs h.1 in inr (inl (h.0, parts.0), parts.1)
      | inr h ↦ elim ((last_push xs z y).0 h) [ inl e ↦ inl e | inr v ↦ inr (inr v.0, v.1) ]
    ],
    λ w. elim w [
      | inl e ↦ inr ((last_push xs z y).1 (inl e))
      | inr v ↦ elim v.0 [
        | inl h ↦ inl (h.0, All-push (λ x. name x ≢ name y) xs z h.1 v.1)
        | inr h ↦ inr ((last_push xs z y).1 (inr (h, v.1)))
      ]
    ],
  )

  pub one_more : (xs old new : List X) (z : X) → AreLastNamed name xs old → IsPut name old new z → IsAscendingBy name new → AreLastNamed name (xs ++ z ∷ []) new
  one_more xs old new z are put up = record {
    ordered = up;
    exact = λ y. (
      λ w. (last_push xs z y).1 (elim ((put y).0 w) [
        | inl e ↦ inl (sym e)
        | inr o ↦ inr ((are.exact y).0 o.0, λ e. o.1 (sym e))
      ]),
      λ w. (put y).1 (elim ((last_push xs z y).0 w) [
        | inl e ↦ inl (sym e)
        | inr h ↦ inr ((are.exact y).1 h.0, λ e. h.1 (sym e))
      ]),
    );
  }

  abbrev less : X → X → Bool
  less x y = is_lt (by_name name x y)

  -- what a stable sort keeps in order are those of one name
  named_ties : (x y : X) → name y ≡ name x → ties less x y ≡ true
  named_ties x y e =
      let a : by_name name x y ≡ Equal = equal_from_name name x y (sym e) in
      let b : by_name name y x ≡ Equal = equal_from_name name y x e in
      rw (a, b) refl

  unnamed_test : (x y : X) (ys : List X) (b : Bool) → ties less x y ≡ b → (Unnamed x (filter (ties less x) ys) → Unnamed x ys) → Unnamed x (filter (ties less x) (y ∷ ys)) → Unnamed x (y ∷ ys)
  unnamed_test x y ys true e rest h =
      let whole : Unnamed x (y ∷ filter (ties less x) ys) = rw e at h in
      All-cons (λ z. name z ≢ name x) y ys (All-head (λ z. name z ≢ name x) y (filter (ties less x) ys) whole) (rest (All-tail (λ z. name z ≢ name x) y (filter (ties less x) ys) whole))
  unnamed_test x y ys false e rest h =
      let tail : Unnamed x (filter (ties less x) ys) = rw e at h in
      All-cons (λ z. name z ≢ name x) y ys (λ q. let t = named_ties x y q in cc) (rest tail)

  unnamed_filtered : (x : X) (ys : List X) → Unnamed x (filter (ties less x) ys) → Unnamed x ys
  unnamed_filtered x [] h = All-nil (λ z. name z ≢ name x)
  unnamed_filtered x (y ∷ ys) h = unnamed_test x y ys (ties less x y) refl (unnamed_filtered x ys) h

  -- the last of x's name is determined by those of x's name alone
  last_test : (x z : X) (zs : List X) (b : Bool) → ties less x z ≡ b → IsLastNamed name zs x ↔ IsLastNamed name (filter (ties less x) zs) x → IsLastNamed name (z ∷ zs) x ↔ IsLastNamed name (filter (ties less x) (z ∷ zs)) x
  last_test x z zs true e rest = rw e (
    λ w. elim w [
      | inl h ↦ inl (h.0, All-filter (ties less x) (λ y. name y ≢ name x) zs h.1)
      | inr h ↦ inr (rest.0 h)
    ],
    λ w. elim w [
      | inl h ↦ inl (h.0, unnamed_filtered x zs h.1)
      | inr h ↦ inr (rest.1 h)
    ],
  )
  last_test x z zs false e rest = rw e (
    λ w. elim w [
      | inl h ↦ let t = named_ties x z (ap name h.0) in cc
      | inr h ↦ rest.0 h
    ],
    λ w. inr (rest.1 w),
  )

  last_filtered : (x : X) (zs : List X) → IsLastNamed name zs x ↔ IsLastNamed name (filter (ties less x) zs) x
  last_filtered x [] = (λ w. w, λ w. w)
  last_filtered x (z ∷ zs) = last_test x z zs (ties less x z) refl (last_filtered x zs)

  -- a stable sort leaves the last of each name
  pub last_sorted : (xs ys kept : List X) → IsStable (by_name name) xs ys → AreLastNamed name ys kept → AreLastNamed name xs kept
  last_sorted xs ys kept stable are = record {
    ordered = are.ordered;
    exact = λ x. (
      λ w. let h : IsLastNamed name (filter (ties less x) ys) x = (last_filtered x ys).0 ((are.exact x).0 w) in (last_filtered x xs).1 (subst (λ zs. IsLastNamed name zs x) (stable x) h),
      λ w. let h : IsLastNamed name (filter (ties less x) xs) x = (last_filtered x xs).0 w in (are.exact x).1 ((last_filtered x ys).1 (subst (λ zs. IsLastNamed name zs x) (sym (stable x)) h)),
    );
  }

  pub ranks : IsStrictWeakOrder (λ x y. is_lt (by_name name x y))
  ranks = ranks_by (lists_total nat_list_cmp_total) name
