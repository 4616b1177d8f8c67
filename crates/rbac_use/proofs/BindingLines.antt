-- The lines of one binding after another.
use Rattle.std.proofs.Common.{◌≡◌, ◌≢◌, ◌≤◌, [], ◌∷◌, ◌∙◌, ℕ, Bool, List, Some, ap, length, refl, slice_get, subst, sym}
use Rattle.std.proofs.lemmas.Option.{same_Some, slice_get_within}
use Rattle.rbac_terms.specs.declared.granting.Binding.{Binding}
use Rattle.rbac_model.specs.Policies.{PolicyView}
use Rattle.rbac_diff.specs.Requests.{RequestView}
use Rattle.rbac_use.specs.Adding.{AddsLines, OfFirst, OfSome}
use Rattle.rbac_use.specs.Asked.{AreAskedAt, IsSubjectLine}
use Rattle.rbac_use.specs.Requests.{log_of}
use Rattle.rbac_use.specs.Rules.{IsGrantLine}
use Rattle.rbac_use.specs.Unused.{AreUnused, IsPartLine, IsUnused, IsUnusedAt, Keeps, part_places}
use Rattle.rbac_use.specs.declared.request.Request.{Request}
use Rattle.rbac_use.specs.declared.unused.Unused.{Unused}
use Rattle.rbac_use.proofs.Exact.{added_alone, lines_append, lines_none, lines_same, lines_some}
use Rattle.rbac_use.proofs.PartLines.{part_lines}
use Rattle.rbac_use.proofs.Places.{StandAt}
use Rattle.rbac_use.proofs.SubjectLines.{subjects_first}

pub binding_lines : (p : PolicyView) (place : ℕ) (requests asked : List Request) → AreAskedAt p place requests asked → (b : Binding) → slice_get p.held.bindings place ≡ Some b → asked ≢ [] → (old mid new : List Unused) → AddsLines (OfSome (IsSubjectLine place asked b)) old mid → AddsLines (OfSome (IsGrantLine p place asked)) mid new → AddsLines (IsPartLine p (log_of requests) place) old new
binding_lines p place requests asked are b there some old mid new subjects grants =
    lines_append (OfSome (IsSubjectLine place asked b)) (OfSome (IsGrantLine p place asked)) (IsPartLine p (log_of requests) place) old mid new subjects grants (subjects_first place asked b p)
    (part_lines p place requests asked are b there some)

module _ (p : PolicyView) (log : List RequestView) (skip_system : Bool) where
  module _ (place : ℕ) (b : Binding) (there : slice_get p.held.bindings place ≡ Some b) where
    -- a binding that is left out has no lines
    pub left_out : (old : List Unused) → ¬ Keeps skip_system b → AddsLines (IsUnusedAt p log skip_system place) old old
    left_out old not = lines_none (IsUnusedAt p log skip_system place) old
        (λ x h. not (subst (λ (v : Binding). Keeps skip_system v) (same_Some h.0.0 b (sym h.0.1 ∙ there)) h.0.2))

    pub kept : (old new : List Unused) → Keeps skip_system b → AddsLines (IsPartLine p log place) old new → AddsLines (IsUnusedAt p log skip_system place) old new
    kept old new keeps q = lines_same (IsPartLine p log place) (IsUnusedAt p log skip_system place) old new q (λ x. (λ h. h.1, λ h. ((b, there, keeps), h)))

  pub binding_stands : (place : ℕ) → StandAt (place ∷ []) (IsUnusedAt p log skip_system place)
  binding_stands place x h = (part_places x.part, ap (λ (n : ℕ). n ∷ part_places x.part) h.1.0)

  same_place : (place : ℕ) (x : Unused) → IsUnusedAt p log skip_system place x → IsUnused p log skip_system x
  same_place place x (kept, (e, part)) = subst (λ (n : ℕ). IsUnused p log skip_system (let y : Unused = record { binding = n; part = x.part } in y)) (sym e) (kept, part)

  -- all of them are what isn't used
  pub all_unused : (i : ℕ) (found : List Unused) → length p.held.bindings ≤ i → AddsLines (OfFirst (IsUnusedAt p log skip_system) i) [] found → AreUnused p log skip_system found
  all_unused i found le q =
      let each : AddsLines (OfSome (IsUnusedAt p log skip_system)) [] found = lines_some (IsUnusedAt p log skip_system) (length p.held.bindings) i [] found le
      (λ k x h. slice_get_within p.held.bindings k h.0.0 h.0.1) q in
      added_alone (IsUnused p log skip_system) found
      (lines_same (OfSome (IsUnusedAt p log skip_system)) (IsUnused p log skip_system) [] found each (λ x. (
        λ h. (x.binding, (h.0, (refl, h.1))),
        λ h. same_place h.0 x h.1,
      )))
