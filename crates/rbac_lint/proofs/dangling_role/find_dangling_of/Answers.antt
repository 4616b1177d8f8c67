use Rattle.std.proofs.Common.{◌≡◌}
use Rattle.std.specs.Prelude.{None}
use Rattle.std.proofs.lemmas.Bool.{both_ways}
use Rattle.rbac_terms.proofs.Cases.{on_ok}
use Rattle.rbac_model.specs.Policies.{binding_name}
use Rattle.rbac_lint.specs.declared.finding.Finding.{Finding}
use Rattle.rbac_lint.specs.Lines.{Line, shown, object_text}
use Rattle.rbac_lint.specs.Roles.{binding_object, named_object}
use Rattle.rbac_lint.specs.Findings.{Dangles, IsDanglingOf, binding_line}
use Rattle.rbac_lint.proofs.Exact.{AddsLines-nowhere, AddsLines-if}
use Rattle.rbac_lint.proofs.Order.{binding_object-name}
use Rattle.rbac_lint.proofs.Named.{dangling_names}
use Rattle.rbac_lint.proofs.Kept.{AddsLines-dropped, AddsLines-kept}
use Rattle.rbac_lint.proofs.dangling_role.find_dangling_of.Goals as goal

pub returns-then-not-keeps_binding : goal.returns-then-not-keeps_binding
returns-then-not-keeps_binding c =
    let h = c.args.objects.now in
    let b = c.args.binding.now in
    AddsLines-dropped binding_name (IsDanglingOf h) 1 (dangling_names h) c.args.wanted.now b (binding_object b) c.args.found.now (binding_object-name b)
    (λ kept. both_ways _ c.if-not-keeps_binding.true (c.keeps_binding.ensures.1 kept))

pub returns-then-not-dangles : goal.returns-then-not-dangles
unfolding IsDanglingOf
returns-then-not-dangles c =
    let h = c.args.objects.now in
    let b = c.args.binding.now in
    let old = c.args.found.now in
    AddsLines-kept binding_name (IsDanglingOf h) 1 (dangling_names h) c.args.wanted.now b (binding_object b) old old (binding_object-name b) (c.keeps_binding.ensures.0 c.if-not-keeps_binding.false)
    (AddsLines-nowhere (Dangles h b) (λ x. x ≡ binding_line 1 b None (object_text (named_object b.namespace b.role))) old
    (λ d. both_ways _ c.if-not-dangles.true (c.dangles.ensures.1 d)))

pub returns : goal.returns
unfolding IsDanglingOf
returns c =
    let h = c.args.objects.now in
    let b = c.args.binding.now in
    let old = c.args.found.now in
    let new = c.push.new.self in
    let object = c.in_ok-object.ensures in
    let other = c.in_ok-other.ensures in
    let made : Finding = record { code = 1; object = c.in_ok-object.object; place = None; other = c.in_ok-other.other } in
    let line : Line = binding_line 1 b None (object_text (named_object b.namespace b.role)) in
    let same : made ≡ shown line = cc (object, other) in
    on_ok c.push.result
    (λ e. AddsLines-kept binding_name (IsDanglingOf h) 1 (dangling_names h) c.args.wanted.now b (binding_object b) old new (binding_object-name b) (c.keeps_binding.ensures.0 c.if-not-keeps_binding.false)
    (AddsLines-if (Dangles h b) line old new made (c.dangles.ensures.0 c.if-not-dangles.false) same e))
    c.push.ensures
