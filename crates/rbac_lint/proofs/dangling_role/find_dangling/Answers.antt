use Rattle.std.proofs.Common.{arith, refl, subst, sym, List}
use Rattle.std.proofs.lemmas.Bool.{both_ways}
use Rattle.std.proofs.lemmas.Option.{slice_get_read}
use Rattle.rbac_terms.specs.declared.granting.Binding.{Binding}
use Rattle.rbac_model.specs.Lists.{IsAscendingBy}
use Rattle.rbac_model.specs.Policies.{binding_name}
use Rattle.rbac_lint.specs.Lines.{AddsLines, OfEach}
use Rattle.rbac_lint.specs.Findings.{IsDanglingOf}
use Rattle.rbac_lint.specs.Wanted.{OfKept, OfWanted}
use Rattle.rbac_lint.proofs.Exact.{AddsLines-start}
use Rattle.rbac_lint.proofs.Order.{AddsLines-next}
use Rattle.rbac_lint.proofs.Named.{dangling_names}
use Rattle.rbac_lint.proofs.Kept.{kept_names, AddsLines-wanted, AddsLines-unwanted}
use Rattle.rbac_lint.proofs.dangling_role.find_dangling.Goals as goal

pub returns-then-not-has_code : goal.returns-then-not-has_code
returns-then-not-has_code c =
    let h = c.args.objects.now in
    AddsLines-unwanted binding_name (IsDanglingOf h) 1 (dangling_names h) c.args.wanted.now h.bindings c.args.found.now
    (λ has. both_ways _ c.if-not-has_code.true (c.has_code.ensures.1 has))

pub loop-binding-init : goal.loop-binding-init
loop-binding-init c = AddsLines-start (λ k b. OfKept c.args.wanted.now (IsDanglingOf c.args.objects.now b)) c.bindings-bindings.result.now c.args.found.now

pub loop-binding-preserved : goal.loop-binding-preserved
loop-binding-preserved c =
    let h = c.args.objects.now in
    let w = c.args.wanted.now in
    let bindings = c.bindings-bindings.result.now in
    let i = c.loop-binding.binding-index in
    let b = c.binding-item.result in
    let A : List Binding → Type 0 = λ bs. IsAscendingBy binding_name bs in
    let up = subst A (sym c.bindings-bindings.ensures.bindings) c.bindings-bindings.ensures.held.bindings in
    AddsLines-next binding_name (λ y. OfKept w (IsDanglingOf h y)) 1 (kept_names binding_name (IsDanglingOf h) 1 (dangling_names h) w) bindings i b c.args.found.now c.loop-binding.found c.find_dangling_of.new.found
    up (slice_get_read bindings _ i b refl c.loop-binding-test.true c.binding-item.is) c.loop-binding.invariant c.in_ok-find_dangling_of.ensures

pub returns : goal.returns
returns c =
    let h = c.args.objects.now in
    let w = c.args.wanted.now in
    let P : List Binding → Type 0 = λ bs. AddsLines (OfWanted w (OfEach (λ k b. IsDanglingOf h b) bs)) c.args.found.now c.loop-binding.found in
    subst P c.bindings-bindings.ensures.bindings
    (AddsLines-wanted binding_name (IsDanglingOf h) 1 (dangling_names h) w c.bindings-bindings.result.now c.loop-binding.binding-index c.args.found.now c.loop-binding.found (omega arith)
    (c.has_code.ensures.0 c.if-not-has_code.false) c.loop-binding.invariant)
