-- flags of bindings, put one behind another
use Rattle.std.proofs.Common.{◌≡◌, ◌<◌, ◌+◌, ◌⊎◌, inl, inr, ℕ, List, [], ◌∷◌, ◌++◌, Bool, false, length, slice_get, arith, sym, ◌∙◌, subst}
use Rattle.std.specs.Prelude.{Some}
use Rattle.std.proofs.lemmas.Bool.{cases_lt}
use Rattle.std.proofs.lemmas.List.{length-append}
use Rattle.std.proofs.lemmas.Option.{same_Some, slice_get_within}
use Rattle.rbac_model.specs.Policies.{PolicyView}
use Rattle.rbac_terms.proofs.Reading.{read_left, read_right}
use Rattle.rbac_diff.specs.Unchanged.{GrantsNoMore, UnflaggedGrantNoMore}

-- one more flag, which is set unless its binding grants no more
pub one_more : (own other : PolicyView) (flags : List Bool) (flag : Bool) (place : ℕ) → (length flags ≡ place) × UnflaggedGrantNoMore own flags other → (flag ≡ false → GrantsNoMore own place other)
    → (length (flags ++ flag ∷ []) ≡ place + 1) × UnflaggedGrantNoMore own (flags ++ flag ∷ []) other
one_more own other flags flag place before last = (
  omega (arith, length-append flags (flag ∷ [])),
  λ at e. elim (cases_lt at (length flags)) [
    | inl lt ↦ before.1 at (sym (read_left flags (flag ∷ []) at lt) ∙ e)
    | inr le ↦
        let within : at < length (flags ++ flag ∷ []) = slice_get_within (flags ++ flag ∷ []) at false e in
        let here : at ≡ length flags = omega (arith, length-append flags (flag ∷ [])) in
        let unset : flag ≡ false = same_Some flag false (sym (read_right flags (flag ∷ []) at 0 (omega arith)) ∙ e) in
        subst (λ (p : ℕ). GrantsNoMore own p other) (sym before.0 ∙ sym here) (last unset)
  ],
)
