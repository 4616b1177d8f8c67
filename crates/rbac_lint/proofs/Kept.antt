-- the lines about objects that are kept, and those that are asked for
use Rattle.std.proofs.Common.{◌≡◌, ℕ, ◌↔◌, inl, inr, List, length, sym, ◌∙◌, subst, arith, false}
use Rattle.std.specs.Prelude.{None}
use Rattle.std.proofs.lemmas.Option.{slice_get_within}
use Rattle.rbac_terms.specs.Text.{Text}
use Rattle.rbac_terms.specs.declared.matching.Rule.{Rule}
use Rattle.rbac_model.specs.Places.{rules_of}
use Rattle.rbac_model.specs.Policies.{Held, Source}
use Rattle.rbac_manifest.specs.declared.replacement.Replaced.{Replaced}
use Rattle.rbac_lint.specs.declared.finding.Finding.{Finding}
use Rattle.rbac_lint.specs.Lines.{Line, ObjectName, object_texts, AddsLines, OfFirst, OfEach}
use Rattle.rbac_lint.specs.Findings.{IsFinding, AreFindings}
use Rattle.rbac_lint.specs.Wanted.{WantedView, IsUserFacing, IsSystem, HasCode, IsKept, IsWanted, AreWanted, OfKept, OfWanted}
use Rattle.rbac_lint.proofs.Exact.{AddsLines-none, AddsLines-same, AreShown-same}
use Rattle.rbac_lint.proofs.Order.{Names}
use Rattle.rbac_lint.proofs.RoleLines.{source_texts}
use Rattle.rbac_lint.specs.Roles.{IsPlainRole, source_object}

-- whether an object is kept depends on its texts alone
system_texts : (a b : ObjectName) → object_texts a ≡ object_texts b → IsSystem b → IsSystem a
unfolding IsSystem
system_texts a b e s =
    let kinds : a.kind ≡ b.kind = cc (e) in
    let names : a.name ≡ b.name = cc (e) in
    elim s [ inl p ↦ inl (p.0, names ∙ p.1) | inr p ↦ inr (kinds ∙ p.0, subst (λ (n : Text). IsUserFacing n) (sym names) p.1) ]

kept_texts : (w : WantedView) (a b : ObjectName) → object_texts a ≡ object_texts b → IsKept w a → IsKept w b
kept_texts w a b e k = λ skips s. k skips (system_texts a b e s)

module _ {X : Type 0} (name : X → List Text) (P : X → Line → Type 0) (code : ℕ) (names : Names name P code) (w : WantedView) where
  pub kept_names : Names name (λ y. OfKept w (P y)) code
  kept_names = record {
    code_is = λ y x p. names.code_is y x p.0;
    object_is = λ y x p. names.object_is y x p.0;
  }

  -- the lines of an element whose object is left out, and of one whose object is kept
  pub AddsLines-dropped : (y : X) (o : ObjectName) (old : List Finding) → object_texts o ≡ name y → (IsKept w o → ⊥) → AddsLines (OfKept w (P y)) old old
  AddsLines-dropped y o old texts never =
      AddsLines-none (OfKept w (P y)) old (λ x p. never (kept_texts w x.object o (names.object_is y x p.0 ∙ sym texts) p.1))

  pub AddsLines-kept : (y : X) (o : ObjectName) (old new : List Finding) → object_texts o ≡ name y → IsKept w o → AddsLines (P y) old new → AddsLines (OfKept w (P y)) old new
  AddsLines-kept y o old new texts kept p =
      AddsLines-same (P y) (OfKept w (P y)) old new p (λ x. (λ h. h.0, λ h. (h, kept_texts w o x.object (texts ∙ sym (names.object_is y x h)) kept)))

  -- the lines of all elements whose objects are kept, if the code is asked for; otherwise none
  pub AddsLines-wanted : (xs : List X) (n : ℕ) (old new : List Finding) → n ≡ length xs → HasCode w code → AddsLines (OfFirst (λ k y. OfKept w (P y)) xs n) old new → AddsLines (OfWanted w (OfEach (λ k y. P y) xs)) old new
  AddsLines-wanted xs n old new e has p =
      AddsLines-same (OfFirst (λ k y. OfKept w (P y)) xs n) (OfWanted w (OfEach (λ k y. P y) xs)) old new p (λ x. (
        λ h. (h.0.0, h.0.1, omega (arith, e, slice_get_within xs h.0.0 h.0.1 h.0.2), h.0.2, (h.0.3, h.1.1)),
        λ h. ((h.0, h.1, h.3, h.4.0), (subst (λ c. HasCode w c) (sym (names.code_is h.1 x h.4.0)) has, h.4.1)),
      ))

  pub AddsLines-unwanted : (xs : List X) (old : List Finding) → (HasCode w code → ⊥) → AddsLines (OfWanted w (OfEach (λ k y. P y) xs)) old old
  AddsLines-unwanted xs old never =
      AddsLines-none (OfWanted w (OfEach (λ k y. P y) xs)) old (λ x h. never (subst (λ c. HasCode w c) (names.code_is h.0.1 x h.0.3) h.1.0))

-- the lines of a role's rules, if these are asked for
module _ (Q : Source → List Rule → ℕ → Rule → Line → Type 0) (code : ℕ) (names : Names source_texts (λ s x. IsPlainRole s × OfEach (Q s (rules_of s)) (rules_of s) x) code) (w : WantedView) (s : Source) where
  abbrev OfRules : Line → Type 0
  OfRules x = IsPlainRole s × OfEach (Q s (rules_of s)) (rules_of s) x

  pub AddsLines-unasked : (old : List Finding) → (IsKept w (source_object s) × IsPlainRole s → ⊥) → AddsLines (OfKept w OfRules) old old
  AddsLines-unasked old never = AddsLines-none (OfKept w OfRules) old (λ x p. never (kept_texts w x.object (source_object s) (names.object_is s x p.0) p.1, p.0.0))

  pub AddsLines-asked : (rules : List Rule) (old new : List Finding) → IsKept w (source_object s) × IsPlainRole s × (rules ≡ rules_of s) → AddsLines (OfEach (Q s rules) rules) old new → AddsLines (OfKept w OfRules) old new
  AddsLines-asked rules old new asked p =
      let P : List Rule → Type 0 = λ rs. AddsLines (OfEach (Q s rs) rs) old new in
      AddsLines-same (OfEach (Q s (rules_of s)) (rules_of s)) (OfKept w OfRules) old new (subst P asked.2 p)
      (λ x. (λ h. h.0.1, λ h. ((asked.1, h), kept_texts w (source_object s) x.object (sym (names.object_is s x (asked.1, h))) asked.0)))

-- everything is asked for
pub all_wanted : (h : Held) (rs : List Replaced) (found : List Finding) → AreWanted (record { only = None; skip_system = false }) h rs found ↔ AreFindings h rs found
all_wanted h rs found =
    let w : WantedView = record { only = None; skip_system = false } in (
      λ p. AreShown-same (λ x. IsFinding h rs x × IsWanted w x) (IsFinding h rs) found p (λ x. (λ f. (f, (tt, λ skips s. cc)), λ f. f.0)),
      λ p. AreShown-same (IsFinding h rs) (λ x. IsFinding h rs x × IsWanted w x) found p (λ x. (λ f. f.0, λ f. (f, (tt, λ skips s. cc)))),
    )
