use Rattle.std.proofs.Common.{◌≡◌, ◌∙◌, ◌↔◌, IsTrue, List, arith, false, length, replicate, subst, sym}
use Rattle.std.proofs.lemmas.Option.{same_Some}
use Rattle.rbac_terms.specs.declared.granting.Binding.{Binding}
use Rattle.rbac_model.specs.Policies.{GrantView}
use Rattle.rbac_model.specs.Sources.{grant_of}
use Rattle.rbac_paths.specs.Access.{access_of}
use Rattle.rbac_paths.specs.Aims.{Serves, ToBeAllowed}
use Rattle.rbac_paths.specs.Allowed.{IsAllowingAt}
use Rattle.rbac_paths.specs.Having.{HoldingView}
use Rattle.rbac_paths.proofs.ByBinding.{marked_all, marked_more, marked_same, none_marked, place_within}
use Rattle.rbac_paths.proofs.allowed.allowing_bindings.Goals as goal
use Rattle.rbac_paths.proofs.allowed.allowing_bindings.Goals.{then-is_given_by, else-is_given_by}

pub loop-no-init : goal.loop-no-init
loop-no-init c =
    let p = c.args.policy.now in
    let marks = c.in_ok-marks.marks.items in
    none_marked p c.requires (IsAllowingAt p (access_of c.args.access)) marks
    (subst (λ (bindings : List Binding). marks ≡ replicate (length bindings) false) c.bindings.ensures.bindings (c.in_ok-marks.ensures.items_if_clones_equal (λ y same. same)))

pub index_mut-requires : goal.index_mut-requires
index_mut-requires c =
    let p = c.args.policy.now in
    let fits = place_within p c.requires (IsAllowingAt p (access_of c.args.access)) c.loop-no.no c.loop-no.marks.items c.loop-no.invariant c.grant-grant.result.binding_place c.grant-grant.ensures.binding in
    omega (arith, fits, c.loop-no.marks.ok)

pub loop-no-preserved : goal.loop-no-preserved
loop-no-preserved c =
    let p = c.args.policy.now in
    let asked = access_of c.args.access in
    let number = c.loop-no.no in
    let marks = c.loop-no.marks.items in
    let place = c.grant-grant.result.binding_place in
    let g = grant_of c.grant-grant.result in
    let here = c.grant-grant.ensures.grant in
    let by = subst (λ (h : HoldingView). IsTrue c.is_given_by.result ↔ Serves (ToBeAllowed asked) h.home h.rule) c.by.ensures c.is_given_by.ensures in
    elim c.if-is_given_by.branch [
      | then-is_given_by w ↦ rw w.marks-is
          (marked_more p c.requires (IsAllowingAt p asked) number marks c.loop-no.invariant place c.grant-grant.ensures.binding (g, here, by.0 w.if-is_given_by.true))
      | else-is_given_by w ↦ rw w.marks-is
          (marked_same p c.requires (IsAllowingAt p asked) number marks c.loop-no.invariant
          (λ is. (let serves = subst (λ (x : GrantView). Serves (ToBeAllowed asked) x.binding.namespace x.rule.rule) (same_Some is.0 g (sym is.1 ∙ here)) is.2 in let both = by.1 serves in let not = w.if-is_given_by.false in cc)))
    ]

pub returns : goal.returns
returns c =
    let p = c.args.policy.now in
    marked_all p c.requires (IsAllowingAt p (access_of c.args.access)) c.loop-no.no c.loop-no.marks.items c.loop-no.invariant (let test = c.loop-no-test.false in let low = c.loop-no.auto.no-end in let len = c.len-no-end.ensures.len in omega (arith, test, low, len))
