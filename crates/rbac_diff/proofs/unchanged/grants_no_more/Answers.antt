use Rattle.std.proofs.Common.{◌≡◌, ◌<◌, ◌∙◌, length, slice_get, Some, sym, ap, subst, subst₂, refl, arith, rules, List}
use Rattle.std.proofs.lemmas.Option.{slice_get_read, slice_get-get_or}
use Rattle.rbac_terms.specs.declared.granting.Binding.{Binding}
use Rattle.rbac_diff.specs.Unchanged.{AreAmong}
use Rattle.rbac_diff.proofs.CoveredGrants.{grants_too}
use Rattle.rbac_diff.proofs.Results.{ok_weaker}
use Rattle.rbac_diff.proofs.unchanged.grants_no_more.Goals as goal

pub returns : goal.returns
returns c =
    let own = c.args.own.now in
    let other = c.args.other.now in
    let b = c.index-bindings-place.result in
    let h = c.in-Some.held.now in
    let low : c.args.place < length c.bindings.result.now = omega (arith, c.requires, ap length c.bindings.ensures.bindings) in
    let mine : slice_get own.held.bindings c.args.place ≡ Some b = subst (λ (bs : List Binding). slice_get bs c.args.place ≡ Some b) c.bindings.ensures.bindings (slice_get-get_or c.bindings.result.now c.args.place b low ∙ ap (λ (x : Binding). Some x) (sym c.index-bindings-place.is)) in
    let found = rw c.bindings-2.ensures.bindings at c.in-Some.ensures.lookup in
    let theirs : slice_get other.held.bindings c.args.at ≡ Some h = slice_get_read _ _ _ _ refl found.3.0 found.1 in
    let namespace : h.namespace ≡ b.namespace = search rules in
    ok_weaker _ _ c.are_among.result
    (λ no_more among t. grants_too own other c.args.place c.args.at b h mine theirs namespace (subst₂ AreAmong c.as_slice.ensures c.as_slice-2.ensures (among t)) (c.in_ok-are_rules_covered.ensures c.if-not-branch.false)) c.are_among.ensures
