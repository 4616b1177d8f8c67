-- The lines of the subjects of a binding.
use Rattle.std.proofs.Common.{◌≡◌, ◌<◌, ◌++◌, ◌∷◌, [], ◌∙◌, ℕ, List, Some, ap, arith, length, refl, slice_get, subst, sym}
use Rattle.std.proofs.lemmas.Option.{same_Some, slice_get_within}
use Rattle.rbac_terms.specs.declared.granting.Binding.{Binding}
use Rattle.rbac_terms.specs.declared.granting.Subject.{Subject}
use Rattle.rbac_model.specs.Policies.{PolicyView}
use Rattle.rbac_use.specs.Adding.{AddsLines, OfSome, line_at}
use Rattle.rbac_use.specs.Asked.{IsIdleSubject, IsSubjectLine}
use Rattle.rbac_use.specs.Rules.{IsGrantLine}
use Rattle.rbac_use.specs.Unused.{IsBefore, line_places}
use Rattle.rbac_use.specs.declared.request.Request.{Request}
use Rattle.rbac_use.specs.declared.unused.Part.TheVariants.{Subject as ForSubject}
use Rattle.rbac_use.specs.declared.unused.Unused.{Unused}
use Rattle.rbac_use.proofs.Exact.{lines_none, lines_one}
use Rattle.rbac_use.proofs.Places.{StandAt, before_at}
use Rattle.rbac_use.proofs.RuleLines.{grant_stands}

module _ (place : ℕ) (asked : List Request) (b : Binding) where
  pub subject_stands : (i : ℕ) → StandAt (place ∷ 0 ∷ i ∷ []) (IsSubjectLine place asked b i)
  subject_stands i x (s, at, e, idle) = ([], ap line_places e)

  pub subject_within : (i : ℕ) (x : Unused) → IsSubjectLine place asked b i x → i < length b.subjects
  subject_within i x h = slice_get_within b.subjects i h.0 h.1

  module _ (i : ℕ) (s : Subject) (at : slice_get b.subjects i ≡ Some s) where
    pub subject_line : (old new : List Unused) → IsIdleSubject asked b.namespace s → new ≡ old ++ line_at place (ForSubject i) ∷ [] → AddsLines (IsSubjectLine place asked b i) old new
    subject_line old new idle e = lines_one (IsSubjectLine place asked b i) old new (line_at place (ForSubject i)) e (s, at, refl, idle) (λ y h. h.2)

    pub no_subject_line : (old : List Unused) → ¬ IsIdleSubject asked b.namespace s → AddsLines (IsSubjectLine place asked b i) old old
    no_subject_line old not = lines_none (IsSubjectLine place asked b i) old
        (λ x h. not (subst (λ (t : Subject). IsIdleSubject asked b.namespace t) (same_Some h.0 s (sym h.1 ∙ at)) h.3))

  -- subjects come before rules
  pub subjects_first : (p : PolicyView) (x y : Unused) → OfSome (IsSubjectLine place asked b) x → OfSome (IsGrantLine p place asked) y → IsBefore x y
  subjects_first p x y (i, h) (n, g) =
      let one = subject_stands i x h in
      let other = grant_stands p place asked n y g in
      before_at (place ∷ []) 0 1 x y (omega arith) (i ∷ one.0, one.1) (n ∷ other.0, other.1)
