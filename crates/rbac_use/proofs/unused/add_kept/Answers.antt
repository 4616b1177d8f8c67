use Rattle.std.proofs.Common.{◌≡◌, Some, refl, slice_get}
use Rattle.std.proofs.lemmas.Bool.{both_ways}
use Rattle.std.proofs.lemmas.Option.{slice_get_read}
use Rattle.rbac_terms.proofs.Cases.{on_ok}
use Rattle.rbac_use.specs.Requests.{log_of}
use Rattle.rbac_use.proofs.BindingLines.{kept, left_out}
use Rattle.rbac_use.proofs.unused.add_kept.Goals as goal

pub returns-then-not-is_kept : goal.returns-then-not-is_kept
returns-then-not-is_kept c requests are =
    let p = c.args.policy.now in
    let b = c.index-bindings-place.result in
    let there : slice_get p.held.bindings c.args.place ≡ Some b = slice_get_read _ _ _ _ refl c.requires (rw c.bindings.ensures.bindings at c.index-bindings-place.is) in
    left_out p (log_of requests) c.args.skip_system c.args.place b there c.args.found.now.items (λ keeps. both_ways _ c.if-not-is_kept.true (c.is_kept.ensures.1 keeps))

pub returns : goal.returns
returns c requests are =
    let p = c.args.policy.now in
    let b = c.index-bindings-place.result in
    let there : slice_get p.held.bindings c.args.place ≡ Some b = slice_get_read _ _ _ _ refl c.requires (rw c.bindings.ensures.bindings at c.index-bindings-place.is) in
    on_ok c.add_of_binding.result
    (λ q. kept p (log_of requests) c.args.skip_system c.args.place b there c.args.found.now.items c.add_of_binding.new.found.items (c.is_kept.ensures.0 c.if-not-is_kept.false) q) (c.add_of_binding.ensures requests are)
