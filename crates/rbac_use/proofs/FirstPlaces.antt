-- The first places of the words of a list.
use Rattle.std.proofs.Common.{true, false, not, Bool, IsTrue, ◌↔◌, ◌≡◌, ℕ, ◌<◌, List, Some, Contains, length, slice_get, take, inl, inr, refl, sym, ap, subst, arith, ◌∙◌}
use Rattle.std.proofs.lemmas.List.{get_or-take, length-take}
use Rattle.std.proofs.lemmas.Option.{same_Some, slice_get_read, slice_get_within, get_or_from_slice_get}
use Rattle.rbac_terms.specs.Text.{Text}
use Rattle.rbac_model.specs.Lists.{IsFirstAt}
use Rattle.rbac_model.proofs.Decided.{first_of, same_text}
use Rattle.rbac_model.proofs.OwnWords.{any_from}
use Rattle.rbac_use.specs.Permissions.{IsFirstPlace}

module _ (words : List Text) (i : ℕ) (w : Text) (at : slice_get words i ≡ Some w) where
  -- what is at an earlier place, too
  earlier : (k : ℕ) → k < i → slice_get words k ≡ Some w → Contains (take i words) w
  earlier k low there = (k, omega (arith, low, slice_get_within words k w there, length-take i words), get_or-take i words k w low ∙ get_or_from_slice_get words k w w there)

  pub is_first : (Contains (take i words) w → ⊥) → IsFirstPlace words i
  is_first not = (
    w,
    record {
      here = at;
      holds = refl;
      none_before = λ k y low there e. not (earlier k low (there ∙ ap (λ (x : Text). Some x) e));
    },
  )

  pub isnt_first : Contains (take i words) w → IsFirstPlace words i → ⊥
  isnt_first c first =
      let same : first.0 ≡ w = same_Some first.0 w (sym first.1.here ∙ at) in
      let low : c.0 < i = omega (arith, c.1, length-take i words) in
      let within : c.0 < length words = omega (arith, c.1, length-take i words) in
      let there : slice_get words c.0 ≡ Some w = slice_get_read words (length words) c.0 w refl within (sym (sym (get_or-take i words c.0 w low) ∙ c.2)) in
      first.1.none_before c.0 w low there (sym same)

pub first_with : (xs : List Text) (w : Text) → Contains xs w → (i : ℕ) × IsFirstAt (λ x. x ≡ w) xs i w
first_with xs w c = elim (first_of (λ (x : Text). x ≡ w) (λ x. same_text x w) xs) [
  | inl f ↦ (f.0, subst (λ (x : Text). IsFirstAt (λ y. y ≡ w) xs f.0 x) f.2.holds f.2)
  | inr none ↦ absurd (none (any_from (λ (x : Text). x ≡ w) xs w c refl))
]

-- a test of the earlier places decides it
pub first_by_test : (words : List Text) (i : ℕ) (w : Text) → slice_get words i ≡ Some w → (b : Bool) → (IsTrue b ↔ Contains (take i words) w) → IsTrue (not b) ↔ IsFirstPlace words i
first_by_test words i w at true d = (
  λ t. absurd (let both : false ≡ true = t in cc),
  λ first. absurd (isnt_first words i w at (d.0 refl) first),
)
first_by_test words i w at false d = (
  λ t. is_first words i w at (λ c. (let both : false ≡ true = d.1 c in cc)),
  λ first. refl,
)
