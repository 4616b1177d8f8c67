use Rattle.std.proofs.Common.{◌≡◌, arith, refl, subst, List}
use Rattle.std.specs.Prelude.{None, Option, Some, Bool, true, false, is_some}
use Rattle.std.proofs.lemmas.Bool.{both_ways}
use Rattle.std.proofs.lemmas.Option.{slice_get_read}
use Rattle.rbac_terms.specs.Text.{Text}
use Rattle.rbac_terms.specs.declared.granting.Subject.{Subject}
use Rattle.rbac_model.specs.Policies.{binding_name}
use Rattle.rbac_lint.specs.Lines.{AddsLines, OfEach}
use Rattle.rbac_lint.specs.Roles.{binding_object}
use Rattle.rbac_lint.specs.Findings.{IsAccountWithoutAt, IsAccountWithoutOf}
use Rattle.rbac_lint.proofs.Exact.{AddsLines-start, AddsLines-each, AddsLines-where, AddsLines-nowhere}
use Rattle.rbac_lint.proofs.Order.{AddsLines-next_place, binding_object-name}
use Rattle.rbac_lint.proofs.Named.{account_places, account_names}
use Rattle.rbac_lint.proofs.Kept.{AddsLines-dropped, AddsLines-kept}
use Rattle.rbac_lint.proofs.accounts.find_accounts_of.Goals as goal

scoped_none : (o : Option Text) (r : Bool) → r ≡ is_some o → r ≡ false → o ≡ None
scoped_none None r e f = refl
scoped_none (Some x) r e f = cc

scoped_some : (o : Option Text) (r : Bool) → r ≡ is_some o → r ≡ true → o ≡ None → ⊥
scoped_some None r e f g = cc
scoped_some (Some x) r e f g = cc

pub returns-then-not-keeps_binding : goal.returns-then-not-keeps_binding
returns-then-not-keeps_binding c =
    let b = c.args.binding.now in
    AddsLines-dropped binding_name IsAccountWithoutOf 5 account_names c.args.wanted.now b (binding_object b) c.args.found.now (binding_object-name b)
    (λ kept. both_ways _ c.if-not-keeps_binding.true (c.keeps_binding.ensures.1 kept))

pub returns-then-is_some : goal.returns-then-is_some
unfolding IsAccountWithoutOf
returns-then-is_some c =
    let b = c.args.binding.now in
    let old = c.args.found.now in
    AddsLines-kept binding_name IsAccountWithoutOf 5 account_names c.args.wanted.now b (binding_object b) old old (binding_object-name b) (c.keeps_binding.ensures.0 c.if-not-keeps_binding.false)
    (AddsLines-nowhere (b.namespace ≡ None) (OfEach (IsAccountWithoutAt b) b.subjects) old (scoped_some b.namespace c.is_some.result c.is_some.ensures c.if-is_some.true))

pub loop-place-init : goal.loop-place-init
loop-place-init c = AddsLines-start (IsAccountWithoutAt c.args.binding.now) c.as_slice-subjects.result.now c.args.found.now

pub loop-place-preserved : goal.loop-place-preserved
loop-place-preserved c =
    let b = c.args.binding.now in
    let subjects = c.as_slice-subjects.result.now in
    let i = c.loop-place.place in
    let s = c.index-subjects-place.result in
    AddsLines-next_place (IsAccountWithoutAt b) 5 (binding_object b) (account_places b) subjects i s c.args.found.now c.loop-place.found c.find_account.new.found
    (slice_get_read subjects _ i s refl c.loop-place-test.true c.index-subjects-place.is) c.loop-place.invariant c.in_ok-find_account.ensures

pub returns : goal.returns
unfolding IsAccountWithoutOf
returns c =
    let b = c.args.binding.now in
    let old = c.args.found.now in
    let new = c.loop-place.found in
    let P : List Subject → Type 0 = λ ss. AddsLines (OfEach (IsAccountWithoutAt b) ss) old new in
    AddsLines-kept binding_name IsAccountWithoutOf 5 account_names c.args.wanted.now b (binding_object b) old new (binding_object-name b) (c.keeps_binding.ensures.0 c.if-not-keeps_binding.false)
    (AddsLines-where (b.namespace ≡ None) (OfEach (IsAccountWithoutAt b) b.subjects) old new (scoped_none b.namespace c.is_some.result c.is_some.ensures c.if-is_some.false)
    (subst P c.as_slice-subjects.ensures (AddsLines-each (IsAccountWithoutAt b) c.as_slice-subjects.result.now c.loop-place.place old new (omega arith) c.loop-place.invariant)))
