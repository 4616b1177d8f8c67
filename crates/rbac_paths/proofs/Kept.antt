-- What has a property among some elements, kept one element after another.
use Rattle.std.proofs.Common.{◌≡◌, ◌↔◌, ◌++◌, ◌∷◌, [], List, Contains, arith, inl, inr, subst, sym}
use Rattle.std.proofs.lemmas.List.Elements.{Contains-append_left, Contains-push, Contains-push_cases}

module _ {X : Type 0} (Has : X → Type 0) where
  -- exactly those of these elements that have the property
  abbrev pub AreKept : List X → List X → Type 0
  AreKept xs kept = (x : X) → Contains kept x ↔ (Contains xs x × Has x)

  pub kept_none : (kept : List X) → kept ≡ [] → AreKept [] kept
  kept_none kept none x = (
    λ c. absurd (let low = (subst (λ (xs : List X). Contains xs x) none c).1 in omega (arith, low)),
    λ w. absurd (let low = w.0.1 in omega (arith, low)),
  )

  module _ (xs : List X) (next : X) (kept : List X) (are : AreKept xs kept) where
    pub kept_more : Has next → AreKept (xs ++ next ∷ []) (kept ++ next ∷ [])
    kept_more has x = (
      λ c. elim (Contains-push_cases kept next x c) [
        | inl old ↦ (let v = (are x).0 old in (Contains-append_left xs (next ∷ []) x v.0, v.1))
        | inr same ↦ subst (λ (y : X). Contains (xs ++ next ∷ []) y × Has y) same (Contains-push xs next, has)
      ],
      λ v. elim (Contains-push_cases xs next x v.0) [
        | inl old ↦ Contains-append_left kept (next ∷ []) x ((are x).1 (old, v.1))
        | inr same ↦ subst (λ (y : X). Contains (kept ++ next ∷ []) y) same (Contains-push kept next)
      ],
    )

    pub kept_same : (Has next → ⊥) → AreKept (xs ++ next ∷ []) kept
    kept_same isnt x = (
      λ c. (let v = (are x).0 c in (Contains-append_left xs (next ∷ []) x v.0, v.1)),
      λ v. elim (Contains-push_cases xs next x v.0) [
        | inl old ↦ (are x).1 (old, v.1)
        | inr same ↦ absurd (isnt (subst Has (sym same) v.1))
      ],
    )
