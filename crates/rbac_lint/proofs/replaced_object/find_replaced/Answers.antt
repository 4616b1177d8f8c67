use Rattle.std.proofs.Common.{arith, refl}
use Rattle.std.proofs.lemmas.Bool.{both_ways}
use Rattle.std.proofs.lemmas.Option.{slice_get_read}
use Rattle.rbac_manifest.specs.Replaced.{replaced_name}
use Rattle.rbac_lint.specs.Replaced.{IsReplacedOf}
use Rattle.rbac_lint.specs.Wanted.{OfKept}
use Rattle.rbac_lint.proofs.Exact.{AddsLines-start}
use Rattle.rbac_lint.proofs.Order.{AddsLines-next}
use Rattle.rbac_lint.proofs.Named.{replaced_names}
use Rattle.rbac_lint.proofs.Kept.{kept_names, AddsLines-wanted, AddsLines-unwanted}
use Rattle.rbac_lint.proofs.replaced_object.find_replaced.Goals as goal

pub returns-then-not-has_code : goal.returns-then-not-has_code
returns-then-not-has_code c =
    AddsLines-unwanted replaced_name IsReplacedOf 7 replaced_names c.args.wanted.now c.args.replaced.now c.args.found.now
    (λ has. both_ways _ c.if-not-has_code.true (c.has_code.ensures.1 has))

pub loop-object-init : goal.loop-object-init
loop-object-init c = AddsLines-start (λ k r. OfKept c.args.wanted.now (IsReplacedOf r)) c.args.replaced.now c.args.found.now

pub loop-object-preserved : goal.loop-object-preserved
loop-object-preserved c =
    let w = c.args.wanted.now in
    let rs = c.args.replaced.now in
    let i = c.loop-object.object-index in
    let r = c.object-item.result in
    AddsLines-next replaced_name (λ z. OfKept w (IsReplacedOf z)) 7 (kept_names replaced_name IsReplacedOf 7 replaced_names w) rs i r c.args.found.now c.loop-object.found c.find_replaced_of.new.found
    c.requires (slice_get_read rs _ i r refl c.loop-object-test.true c.object-item.is) c.loop-object.invariant c.in_ok-find_replaced_of.ensures

pub returns : goal.returns
returns c =
    AddsLines-wanted replaced_name IsReplacedOf 7 replaced_names c.args.wanted.now c.args.replaced.now c.loop-object.object-index c.args.found.now c.loop-object.found (omega arith)
    (c.has_code.ensures.0 c.if-not-has_code.false) c.loop-object.invariant
