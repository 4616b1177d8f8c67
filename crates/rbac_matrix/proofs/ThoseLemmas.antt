-- the elements of a list that have a property, in order
use Rattle.std.proofs.Common.{◌≡◌, List, [], ◌∷◌, ◌++◌, ◌∙◌, Contains, inl, inr, sym, ap, refl, arith, subst, length, get_or, Less}
use Rattle.std.proofs.lemmas.List.Kept.{AllPairs-cons}
use Rattle.std.proofs.lemmas.List.Elements.{Contains-get_or}
use Rattle.rbac_terms.specs.Text.{Text}
use Rattle.rbac_model.specs.Lists.{by_name, IsAscendingBy}
use Rattle.rbac_universe.proofs.Flattened.{in_cons, here, there}
use Rattle.rbac_matrix.specs.Pairs.{AreThose}
use Rattle.rbac_matrix.proofs.Decided.{Decided}
use Rattle.rbac_matrix.proofs.RowLemmas.{head_below, tail_ascends}

module _ {X : Type 0} (P : X → Type 0) where
  pub those_sound : (xs ys : List X) → AreThose P xs ys → (y : X) → Contains ys y → Contains xs y × P y
  those_sound [] ys p y w = let l = w.1 in absurd (omega (arith, ap length p))
  those_sound (x ∷ xs) ys (inl p) y w = elim (in_cons x p.1.0 y (subst (λ (l : List X). Contains l y) p.1.2 w)) [
    | inl e ↦ subst (λ (z : X). Contains (x ∷ xs) z × P z) e (here x xs, p.0)
    | inr v ↦ let rest = those_sound xs p.1.0 p.1.1 y v in (there x xs y rest.0, rest.1)
  ]
  those_sound (x ∷ xs) ys (inr p) y w = let rest = those_sound xs ys p.1 y w in (there x xs y rest.0, rest.1)

  pub those_complete : (xs ys : List X) → AreThose P xs ys → (y : X) → Contains xs y → P y → Contains ys y
  those_complete [] ys p y w has = absurd (omega (arith, w.1))
  those_complete (x ∷ xs) ys (inl p) y w has = subst (λ (l : List X). Contains l y) (sym p.1.2) (elim (in_cons x xs y w) [
    | inl e ↦ subst (λ (z : X). Contains (x ∷ p.1.0) z) e (here x p.1.0)
    | inr v ↦ there x p.1.0 y (those_complete xs p.1.0 p.1.1 y v has)
  ])
  those_complete (x ∷ xs) ys (inr p) y w has = elim (in_cons x xs y w) [
    | inl e ↦ absurd (p.0 (subst P (sym e) has))
    | inr v ↦ those_complete xs ys p.1 y v has
  ]

  pub those_split : (xs ys rows : List X) → AreThose P (xs ++ ys) rows → (rs : List X) × (ss : List X) × AreThose P xs rs × AreThose P ys ss × (rows ≡ rs ++ ss)
  those_split [] ys rows h = ([], rows, refl, h, refl)
  those_split (x ∷ xs) ys rows (inl h) = let r = those_split xs ys h.1.0 h.1.1 in (x ∷ r.0, r.1, inl (h.0, (r.0, r.2, refl)), r.3, h.1.2 ∙ ap (λ (l : List X). x ∷ l) r.4)
  those_split (x ∷ xs) ys rows (inr h) = let r = those_split xs ys rows h.1 in (r.0, r.1, inr (h.0, r.2), r.3, r.4)

  pub those_append : (xs ys rs ss : List X) → AreThose P xs rs → AreThose P ys ss → AreThose P (xs ++ ys) (rs ++ ss)
  those_append [] ys rs ss p q = rw p q
  those_append (x ∷ xs) ys rs ss (inl p) q = inl (p.0, (p.1.0 ++ ss, those_append xs ys p.1.0 ss p.1.1 q, ap (λ (l : List X). l ++ ss) p.1.2))
  those_append (x ∷ xs) ys rs ss (inr p) q = inr (p.0, those_append xs ys rs ss p.1 q)

  pub those_one : (xs rs ss : List X) → AreThose P xs rs → AreThose P xs ss → rs ≡ ss
  those_one [] rs ss p q = p ∙ sym q
  those_one (x ∷ xs) rs ss (inl p) (inl q) = p.1.2 ∙ ap (λ (l : List X). x ∷ l) (those_one xs p.1.0 q.1.0 p.1.1 q.1.1) ∙ sym q.1.2
  those_one (x ∷ xs) rs ss (inl p) (inr q) = absurd (q.0 p.0)
  those_one (x ∷ xs) rs ss (inr p) (inl q) = absurd (p.0 q.0)
  those_one (x ∷ xs) rs ss (inr p) (inr q) = those_one xs rs ss p.1 q.1

  -- if each element either has the property or doesn't, the list of those that have it exists
  pub some_those : (xs : List X) → ((x : X) → Contains xs x → Decided (P x)) → (ys : List X) × AreThose P xs ys
  some_those [] decided = ([], refl)
  some_those (x ∷ xs) decided =
      let rest = some_those xs (λ y w. decided y (there x xs y w)) in
      elim (decided x (here x xs)) [
        | inl p ↦ (x ∷ rest.0, inl (p, (rest.0, rest.1, refl)))
        | inr none ↦ (rest.0, inr (none, rest.1))
      ]

  module _ (name : X → List Text) where
    pub those_ascend : (xs ys : List X) → AreThose P xs ys → IsAscendingBy name xs → IsAscendingBy name ys
    those_ascend [] ys p up = rw p (λ i j d lt l. absurd (omega arith))
    those_ascend (x ∷ xs) ys (inl p) up = rw p.1.2 (
        AllPairs-cons (λ a b. by_name name a b ≡ Less) x p.1.0
        (λ k d l. head_below name x xs (get_or p.1.0 k d) up (those_sound xs p.1.0 p.1.1 (get_or p.1.0 k d) (Contains-get_or p.1.0 k d l)).0)
        (those_ascend xs p.1.0 p.1.1 (tail_ascends name x xs up))
        )
    those_ascend (x ∷ xs) ys (inr p) up = those_ascend xs ys p.1 (tail_ascends name x xs up)
