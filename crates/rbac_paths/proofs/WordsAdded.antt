-- Words, or anything else, added one after another.
use Rattle.std.proofs.Common.{◌≡◌, ◌∙◌, ◌++◌, ◌∷◌, [], ◌⊎◌, ◌↔◌, ◌+◌, ◌<◌, ℕ, List, Any, Contains, ap, arith, inl, inr, length, subst, sym, take}
use Rattle.std.specs.Prelude.{get_or}
use Rattle.std.proofs.lemmas.List.{take_all, take_more}
use Rattle.std.proofs.lemmas.List.Elements.{Contains-append_cases, Contains-append_left, Contains-append_right, Contains-push, Contains-push_cases}
use Rattle.rbac_model.proofs.LabelSets.{any_push}
use Rattle.rbac_paths.specs.SharedWords.{AddsWhere}

module _ {Y : Type 0} where
  -- nothing is added
  pub adds_none : (Is : Y → Type 0) → ((w : Y) → Is w → ⊥) → (ws : List Y) → AddsWhere Is ws ws
  adds_none Is none ws w = (inl, λ h. elim h [ inl old ↦ old | inr is ↦ absurd (none w is) ])

  -- one word is added, which may be there already
  pub adds_word : (Is : Y → Type 0) (word : Y) → ((w : Y) → Is w ↔ (w ≡ word)) → (ws : List Y) → AddsWhere Is ws (ws ++ word ∷ [])
  adds_word Is word one ws w = (
    λ h. elim (Contains-push_cases ws word w h) [ inl old ↦ inl old | inr is ↦ inr ((one w).1 (sym is)) ],
    λ h. elim h [
      | inl old ↦ Contains-append_left ws (word ∷ []) w old
      | inr is ↦ subst (λ (t : Y). Contains (ws ++ word ∷ []) t) (sym ((one w).0 is)) (Contains-push ws word)
    ],
  )

  pub adds_had : (Is : Y → Type 0) (word : Y) → ((w : Y) → Is w → w ≡ word) → (ws : List Y) → Contains ws word → AddsWhere Is ws ws
  adds_had Is word one ws had w = (inl, λ h. elim h [ inl old ↦ old | inr is ↦ subst (λ (t : Y). Contains ws t) (sym (one w is)) had ])

  -- all of these are added
  pub adds_all : (more ws : List Y) → AddsWhere (Contains more) ws (ws ++ more)
  adds_all more ws w = (
    Contains-append_cases ws more w,
    λ h. elim h [ inl old ↦ Contains-append_left ws more w old | inr new ↦ Contains-append_right ws more w new ],
  )

  -- the same holds for an equivalent property
  pub adds_same : (Is Also : Y → Type 0) → ((w : Y) → Is w ↔ Also w) → (old new : List Y) → AddsWhere Is old new → AddsWhere Also old new
  adds_same Is Also same old new adds w = (
    λ h. elim ((adds w).0 h) [ inl was ↦ inl was | inr is ↦ inr ((same w).0 is) ],
    λ h. elim h [ inl was ↦ (adds w).1 (inl was) | inr is ↦ (adds w).1 (inr ((same w).1 is)) ],
  )

  -- one after the other is added
  pub adds_both : (Is Also : Y → Type 0) (a b c : List Y) → AddsWhere Is a b → AddsWhere Also b c → AddsWhere (λ w. Is w ⊎ Also w) a c
  adds_both Is Also a b c first second w = (
    λ h. elim ((second w).0 h) [
      | inl mid ↦ (elim ((first w).0 mid) [ inl old ↦ inl old | inr is ↦ inr (inl is) ])
      | inr is ↦ inr (inr is)
    ],
    λ h. elim h [
      | inl old ↦ (second w).1 (inl ((first w).1 (inl old)))
      | inr (inl is) ↦ (second w).1 (inl ((first w).1 (inr is)))
      | inr (inr is) ↦ (second w).1 (inr is)
    ],
  )

  -- what some of these have is added
  module _ {X : Type 0} (Is : X → Y → Type 0) where
    abbrev pub AddsOf : List X → List Y → List Y → Type 0
    AddsOf xs old new = AddsWhere (λ w. Any (λ x. Is x w) xs) old new

    pub adds_first : (ws : List Y) → AddsOf [] ws ws
    adds_first ws = adds_none (λ w. Any (λ x. Is x w) []) (λ w any. (let low = any.2 in omega (arith, low))) ws

    adds_next : (xs : List X) (x : X) (a b c : List Y) → AddsOf xs a b → AddsWhere (Is x) b c → AddsOf (xs ++ x ∷ []) a c
    adds_next xs x a b c first second w =
        let push = any_push (λ x. Is x w) xs x in (
          λ h. elim ((second w).0 h) [
            | inl mid ↦ (elim ((first w).0 mid) [ inl old ↦ inl old | inr any ↦ inr (push.1 (inl any)) ])
            | inr is ↦ inr (push.1 (inr is))
          ],
          λ h. elim h [
            | inl old ↦ (second w).1 (inl ((first w).1 (inl old)))
            | inr any ↦ (elim (push.0 any) [
              | inl was ↦ (second w).1 (inl ((first w).1 (inr was)))
              | inr is ↦ (second w).1 (inr is)
            ])
          ],
        )

    pub adds_more : (xs : List X) (i : ℕ) (x : X) (a b c : List Y) → i < length xs → x ≡ get_or xs i x → AddsOf (take i xs) a b → AddsWhere (Is x) b c → AddsOf (take (i + 1) xs) a c
    adds_more xs i x a b c low is first second =
        let more : take (i + 1) xs ≡ take i xs ++ x ∷ [] = take_more xs i x low ∙ ap (λ (v : X). take i xs ++ v ∷ []) (sym is) in
        subst (λ (ys : List X). AddsOf ys a c) (sym more) (adds_next (take i xs) x a b c first second)

    pub adds_each : (xs : List X) (i : ℕ) (a b : List Y) → length xs < i + 1 → AddsOf (take i xs) a b → AddsOf xs a b
    adds_each xs i a b end all = subst (λ (ys : List X). AddsOf ys a b) (take_all i xs (omega (arith, end))) all

  -- a list that was empty has exactly what was added
  pub only_added : (Is : Y → Type 0) (ws : List Y) → AddsWhere Is [] ws → (w : Y) → Contains ws w ↔ Is w
  only_added Is ws adds w = (
    λ h. elim ((adds w).0 h) [ inl none ↦ absurd (let low = none.1 in omega (arith, low)) | inr is ↦ is ],
    λ is. (adds w).1 (inr is),
  )
