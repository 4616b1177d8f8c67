-- the holders are one list: a list in an order without ties is determined by its elements
use Rattle.std.proofs.Common.{◌≡◌, ◌∙◌, ℕ, List, [], ◌∷◌, Contains, AllPairs, ◌⊎◌, inl, inr, sym, ap₂, subst, refl, arith, zero, suc}
use Rattle.rbac_terms.specs.Text.{Text}
use Rattle.rbac_terms.specs.Targets.{What}
use Rattle.rbac_model.specs.Policies.{Held}
use Rattle.rbac_model.specs.Holders.{HolderView, AreHolders, IsBefore}

module _ {X : Type 0} (Before : X → X → Type 0) (none_itself : (x : X) → ¬ Before x x) (trans : (x y z : X) → Before x y → Before y z → Before x z) where
  rest_ordered : (x : X) (xs : List X) → AllPairs Before (x ∷ xs) → AllPairs Before xs
  rest_ordered x xs up i j d lt l = up (suc i) (suc j) d (omega arith) (omega arith)

  head_before : (x : X) (xs : List X) (y : X) → AllPairs Before (x ∷ xs) → Contains xs y → Before x y
  head_before x xs y up w = subst (Before x) w.2 (up 0 (suc w.0) y (omega arith) (omega (arith, w.1)))

  among : (x : X) (xs : List X) (y : X) → Contains (x ∷ xs) y → (x ≡ y) ⊎ Contains xs y
  among x xs y (zero, l, e) = inl e
  among x xs y (suc k, l, e) = inr (k, omega arith, e)

  -- what is in the one list and not its head is not the head of the other
  in_rest : (x y : X) (xs ys : List X) (z : X) → AllPairs Before (x ∷ xs) → x ≡ y → Contains xs z → Contains (y ∷ ys) z → Contains ys z
  in_rest x y xs ys z up heads w v = elim (among y ys z v) [
    | inl e ↦ absurd (none_itself x (subst (Before x) (sym (heads ∙ e)) (head_before x xs z up w)))
    | inr u ↦ u
  ]

  one_ordered : (xs ys : List X) → AllPairs Before xs → AllPairs Before ys → ((x : X) → Contains xs x → Contains ys x) → ((x : X) → Contains ys x → Contains xs x) → xs ≡ ys
  one_ordered [] [] up vp f g = refl
  one_ordered [] (y ∷ ys) up vp f g = absurd (omega (arith, (g y (0, omega arith, refl)).1))
  one_ordered (x ∷ xs) [] up vp f g = absurd (omega (arith, (f x (0, omega arith, refl)).1))
  one_ordered (x ∷ xs) (y ∷ ys) up vp f g =
      let heads : x ≡ y = elim (among y ys x (f x (0, omega arith, refl))) [
        | inl e ↦ sym e
        | inr w ↦ elim (among x xs y (g y (0, omega arith, refl))) [
          | inl e ↦ e
          | inr v ↦ absurd (none_itself x (trans x y x (head_before x xs y up v) (head_before y ys x vp w)))
        ]
      ] in
      let rest = one_ordered xs ys (rest_ordered x xs up) (rest_ordered y ys vp)
      (λ z w. in_rest x y xs ys z up heads w (f z (suc w.0, omega (arith, w.1), w.2)))
      (λ z w. in_rest y x ys xs z vp (sym heads) w (g z (suc w.0, omega (arith, w.1), w.2))) in
      ap₂ (λ (h : X) (t : List X). h ∷ t) heads rest

abbrev Earlier : HolderView → HolderView → Type 0
Earlier x y = IsBefore x.binding_place x.subject_place y.binding_place y.subject_place

none_earlier : (i j : ℕ) → ¬ IsBefore i j i j
none_earlier i j (inl m) = omega arith
none_earlier i j (inr e) = omega (arith, e.1)

earlier_still : (i j k l m n : ℕ) → IsBefore i j k l → IsBefore k l m n → IsBefore i j m n
earlier_still i j k l m n (inl a) (inl b) = inl (omega arith)
earlier_still i j k l m n (inl a) (inr b) = inl (omega (arith, b.0))
earlier_still i j k l m n (inr a) (inl b) = inl (omega (arith, a.0))
earlier_still i j k l m n (inr a) (inr b) = inr (a.0 ∙ b.0, omega (arith, a.1, b.1))

-- a list in order of pairs of places is determined by its elements
pub one_in_order : (xs others : List HolderView) → AllPairs Earlier xs → AllPairs Earlier others → ((x : HolderView) → Contains xs x → Contains others x) → ((x : HolderView) → Contains others x → Contains xs x) → xs ≡ others
one_in_order = one_ordered Earlier
    (λ x. none_earlier x.binding_place x.subject_place)
    (λ x y z. earlier_still x.binding_place x.subject_place y.binding_place y.subject_place z.binding_place z.subject_place)

pub one_holders : (held : Held) (namespace verb : Text) (t : What) (xs others : List HolderView) → AreHolders held namespace verb t xs
    → AreHolders held namespace verb t others → xs ≡ others
one_holders held namespace verb t xs others a b =
    one_in_order xs others a.ordered b.ordered (λ x w. (b.exact x).1 ((a.exact x).0 w)) (λ x w. (a.exact x).1 ((b.exact x).0 w))
