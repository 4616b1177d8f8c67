use Rattle.std.proofs.Common.{◌≡◌, [], Some, refl, slice_get}
use Rattle.std.proofs.lemmas.Bool.{both_ways}
use Rattle.std.proofs.lemmas.Option.{slice_get_read}
use Rattle.rbac_terms.proofs.Cases.{on_ok}
use Rattle.rbac_use.specs.Requests.{log_of}
use Rattle.rbac_use.specs.Unused.{IsPartLine}
use Rattle.rbac_use.proofs.AskedOf.{used_some}
use Rattle.rbac_use.proofs.BindingLines.{binding_lines}
use Rattle.rbac_use.proofs.Exact.{lines_same}
use Rattle.rbac_use.proofs.PartLines.{WholeLine, whole_lines}
use Rattle.rbac_use.proofs.bindings.add_of_binding.Goals as goal

pub returns-then-are_none : goal.returns-then-are_none
returns-then-are_none c requests are =
    let p = c.args.policy.now in
    let place = c.args.place in
    let none : c.args.asked.now ≡ [] = c.are_none.ensures.0 c.if-are_none.true in
    on_ok c.add_whole.result
    (λ q. lines_same (WholeLine p place (log_of requests)) (IsPartLine p (log_of requests) place) c.args.found.now.items c.add_whole.new.found.items q
    (whole_lines p place (log_of requests) (λ w. used_some p place requests c.args.asked.now are w none))) c.add_whole.ensures

pub returns : goal.returns
returns c requests are =
    let p = c.args.policy.now in
    let place = c.args.place in
    let asked = c.args.asked.now in
    let b = c.index-bindings-place.result in
    let there : slice_get p.held.bindings place ≡ Some b = slice_get_read _ _ _ _ refl c.requires (rw c.bindings.ensures.bindings at c.index-bindings-place.is) in
    on_ok c.add_grants.result
    (λ q. binding_lines p place requests asked are b there (λ e. both_ways _ c.if-are_none.false (c.are_none.ensures.1 e)) c.args.found.now.items c.add_subjects.new.found.items c.add_grants.new.found.items c.in_ok-add_subjects.ensures q) c.add_grants.ensures
