use Rattle.std.proofs.Common.{arith, refl}
use Rattle.std.proofs.lemmas.Option.{slice_get_read}
use Rattle.rbac_terms.specs.declared.matching.Rule.{Rule}
use Rattle.rbac_model.specs.Sources.{source_of}
use Rattle.rbac_lint.specs.Roles.{source_object}
use Rattle.rbac_lint.specs.Findings.{IsRedundantAt}
use Rattle.rbac_lint.proofs.Exact.{AddsLines-start, AddsLines-each}
use Rattle.rbac_lint.proofs.Order.{AddsLines-next_place}
use Rattle.rbac_lint.proofs.Named.{redundant_places}
use Rattle.rbac_lint.proofs.redundant_rule.find_in_ordered.Goals as goal

pub find_at-requires-clause-here : goal.find_at-requires-clause-here
find_at-requires-clause-here c = slice_get_read c.args.rules.now _ c.loop-place.place c.index-rules-place.result refl c.loop-place-test.true c.index-rules-place.is

pub loop-place-init : goal.loop-place-init
loop-place-init c = AddsLines-start (λ i (r : Rule). IsRedundantAt (source_of c.args.role) c.args.rules.now i) c.args.rules.now c.args.found.now

pub loop-place-preserved : goal.loop-place-preserved
loop-place-preserved c =
    let s = source_of c.args.role in
    let rules = c.args.rules.now in
    let i = c.loop-place.place in
    let r = c.index-rules-place.result in
    AddsLines-next_place (λ k (z : Rule). IsRedundantAt s rules k) 3 (source_object s) (redundant_places s rules) rules i r c.args.found.now c.loop-place.found c.find_at.new.found
    (slice_get_read rules _ i r refl c.loop-place-test.true c.index-rules-place.is) c.loop-place.invariant c.in_ok-find_at.ensures

pub returns : goal.returns
returns c = AddsLines-each (λ i (r : Rule). IsRedundantAt (source_of c.args.role) c.args.rules.now i) c.args.rules.now c.loop-place.place c.args.found.now c.loop-place.found (omega arith) c.loop-place.invariant
