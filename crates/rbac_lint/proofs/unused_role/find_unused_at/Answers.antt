use Rattle.std.proofs.Common.{◌≡◌, ℕ, ◌∙◌, sym, ap, subst, refl, []}
use Rattle.std.specs.Prelude.{Some, None, slice_get}
use Rattle.std.proofs.lemmas.Bool.{both_ways}
use Rattle.std.proofs.lemmas.Option.{same_Some}
use Rattle.rbac_terms.proofs.Cases.{on_ok}
use Rattle.rbac_model.specs.Policies.{Held, Source}
use Rattle.rbac_model.specs.Sources.{source_of}
use Rattle.rbac_lint.specs.declared.finding.Finding.{Finding}
use Rattle.rbac_lint.specs.Lines.{Line, shown, object_text}
use Rattle.rbac_lint.specs.Roles.{roles_in, source_object}
use Rattle.rbac_lint.specs.Findings.{IsUsed, IsUnusedOf, role_line}
use Rattle.rbac_lint.specs.Wanted.{IsKept}
use Rattle.rbac_lint.proofs.Exact.{AddsLines-nowhere, AddsLines-if}
use Rattle.rbac_lint.proofs.RoleLines.{source_texts}
use Rattle.rbac_lint.proofs.Named.{unused_names}
use Rattle.rbac_lint.proofs.Kept.{AddsLines-dropped, AddsLines-kept}
use Rattle.rbac_lint.proofs.unused_role.find_unused_at.Goals as goal

-- the role that was read is the one at the place
the_role : (h objects : Held) (place : ℕ) (r s : Source) → objects ≡ h → slice_get (roles_in objects) place ≡ Some r → slice_get (roles_in h) place ≡ Some s → r ≡ s
the_role h objects place r s held read here =
    same_Some r s (sym read ∙ ap (λ (v : Held). slice_get (roles_in v) place) held ∙ here)

pub returns-then-not-keeps_role : goal.returns-then-not-keeps_role
returns-then-not-keeps_role c = λ s here.
    let h = c.args.policy.now.held in
    let w = c.args.wanted.now in
    let r = source_of c.role_at-role.result in
    let one = the_role h c.objects.result.now c.args.place r s c.objects.ensures.held c.role_at-role.ensures here in
    AddsLines-dropped source_texts (IsUnusedOf h) 2 (unused_names h) w s (source_object s) c.args.found.now refl
    (λ kept. both_ways _ c.if-not-keeps_role.true (c.keeps_role.ensures.1 (subst (λ (v : Source). IsKept w (source_object v)) (sym one) kept)))

pub returns-then-is_used : goal.returns-then-is_used
unfolding IsUnusedOf
returns-then-is_used c = λ s here.
    let h = c.args.policy.now.held in
    let w = c.args.wanted.now in
    let old = c.args.found.now in
    let r = source_of c.role_at-role.result in
    let one = the_role h c.objects.result.now c.args.place r s c.objects.ensures.held c.role_at-role.ensures here in
    let kept = subst (λ (v : Source). IsKept w (source_object v)) one (c.keeps_role.ensures.0 c.if-not-keeps_role.false) in
    AddsLines-kept source_texts (IsUnusedOf h) 2 (unused_names h) w s (source_object s) old old refl kept
    (AddsLines-nowhere (IsUsed h s → ⊥) (λ x. x ≡ role_line 2 s None []) old
    (λ never. never ((c.is_used.ensures s here).0 c.if-is_used.true)))

pub returns : goal.returns
unfolding IsUnusedOf
returns c =
    let h = c.args.policy.now.held in
    let w = c.args.wanted.now in
    let old = c.args.found.now in
    let new = c.push.new.self in
    let r = source_of c.role_at-role.result in
    on_ok c.push.result
    (λ e s here. (
    let one = the_role h c.objects.result.now c.args.place r s c.objects.ensures.held c.role_at-role.ensures here in
    let kept = subst (λ (v : Source). IsKept w (source_object v)) one (c.keeps_role.ensures.0 c.if-not-keeps_role.false) in
    let made : Finding = record { code = 2; object = c.in_ok-object.object; place = None; other = c.new.result } in
    let line : Line = role_line 2 s None [] in
    let object = c.in_ok-object.ensures ∙ ap (λ (v : Source). object_text (source_object v)) one in
    let other = c.new.ensures in
    let same : made ≡ shown line = cc (object, other) in
    AddsLines-kept source_texts (IsUnusedOf h) 2 (unused_names h) w s (source_object s) old new refl kept
    (AddsLines-if (IsUsed h s → ⊥) line old new made
    (λ used. both_ways _ c.if-is_used.false ((c.is_used.ensures s here).1 used)) same e)
    ))
    c.push.ensures
