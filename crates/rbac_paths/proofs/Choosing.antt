-- The rows of a step, row by row.
use Rattle.std.proofs.Common.{◌≡◌, ◌⊎◌, ◌∙◌, zero, suc, List, [], ◌∷◌, ◌++◌, inl, inr, refl, sym, subst, ap, arith, Contains}
use Rattle.std.proofs.lemmas.List.Elements.{Contains-append_left, Contains-append_right, Contains-append_cases}
use Rattle.rbac_paths.specs.Rows.{AddsRow, AreOfStep}
use Rattle.rbac_paths.specs.Steps.{StepRowView}
use Rattle.rbac_steps.specs.declared.steps.Step.{Step}

module _ {X : Type 0} where
  pub last : (xs : List X) (x : X) → Contains (xs ++ x ∷ []) x
  last xs x = Contains-append_right xs (x ∷ []) x (0, omega arith, refl)

  pub only : (x y : X) → Contains (x ∷ []) y → y ≡ x
  only x y (zero, l, e) = sym e
  only x y (suc n, l, e) = absurd (omega (arith, l))

  pub among : (xs : List X) (x y : X) → Contains (xs ++ x ∷ []) y → Contains xs y ⊎ (y ≡ x)
  among xs x y c = elim (Contains-append_cases xs (x ∷ []) y c) [
    | inl h ↦ inl h
    | inr h ↦ inr (only x y h)
  ]

module _ (step : Step) (all rows : List StepRowView) (of : AreOfStep step all rows) (y : StepRowView) where
  more_of_step : y.step ≡ step → AreOfStep step (all ++ y ∷ []) (rows ++ y ∷ [])
  more_of_step is r = (
    λ c. elim (among rows y r c) [
      | inl h ↦ (let w = (of r).0 h in (Contains-append_left all (y ∷ []) r w.0, w.1))
      | inr e ↦ (subst (λ x. Contains (all ++ y ∷ []) x) (sym e) (last all y), ap (λ (x : StepRowView). x.step) e ∙ is)
    ],
    λ h. elim (among all y r h.0) [
      | inl c ↦ Contains-append_left rows (y ∷ []) r ((of r).1 (c, h.1))
      | inr e ↦ subst (λ x. Contains (rows ++ y ∷ []) x) (sym e) (last rows y)
    ],
  )

  others_too : ¬ (y.step ≡ step) → AreOfStep step (all ++ y ∷ []) rows
  others_too isn r = (
    λ c. (let w = (of r).0 c in (Contains-append_left all (y ∷ []) r w.0, w.1)),
    λ h. elim (among all y r h.0) [
      | inl c ↦ (of r).1 (c, h.1)
      | inr e ↦ absurd (isn (ap (λ (x : StepRowView). x.step) (sym e) ∙ h.1))
    ],
  )

pub added : (step : Step) (all rows new : List StepRowView) → AreOfStep step all rows → (y : StepRowView) → AddsRow step y rows new → AreOfStep step (all ++ y ∷ []) new
added step all rows new of y a = elim a [
  | inl h ↦ subst (λ (rs : List StepRowView). AreOfStep step (all ++ y ∷ []) rs) (sym h.1) (more_of_step step all rows of y h.0)
  | inr h ↦ subst (λ (rs : List StepRowView). AreOfStep step (all ++ y ∷ []) rs) (sym h.1) (others_too step all rows of y h.0)
]
