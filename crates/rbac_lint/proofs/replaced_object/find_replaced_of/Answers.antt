use Rattle.std.proofs.Common.{◌≡◌, refl}
use Rattle.std.specs.Prelude.{None, decimal}
use Rattle.std.proofs.lemmas.Bool.{both_ways}
use Rattle.rbac_terms.proofs.Cases.{on_ok}
use Rattle.rbac_manifest.specs.Replaced.{replaced_name}
use Rattle.rbac_lint.specs.declared.finding.Finding.{Finding}
use Rattle.rbac_lint.specs.Lines.{Line, shown}
use Rattle.rbac_lint.specs.Replaced.{replaced_object, IsReplacedOf}
use Rattle.rbac_lint.proofs.Exact.{AddsLines-one}
use Rattle.rbac_lint.proofs.Named.{replaced_names, replaced_object-name}
use Rattle.rbac_lint.proofs.Kept.{AddsLines-dropped, AddsLines-kept}
use Rattle.rbac_lint.proofs.replaced_object.find_replaced_of.Goals as goal

pub returns-then-not-keeps_replaced : goal.returns-then-not-keeps_replaced
returns-then-not-keeps_replaced c =
    let r = c.args.replaced.now in
    AddsLines-dropped replaced_name IsReplacedOf 7 replaced_names c.args.wanted.now r (replaced_object r) c.args.found.now (replaced_object-name r)
    (λ kept. both_ways _ c.if-not-keeps_replaced.true (c.keeps_replaced.ensures.1 kept))

pub returns : goal.returns
unfolding IsReplacedOf
returns c =
    let r = c.args.replaced.now in
    let old = c.args.found.now in
    let new = c.push.new.self in
    let object = c.in_ok-object.ensures in
    let other = c.in_ok-other.ensures in
    let made : Finding = record { code = 7; object = c.in_ok-object.object; place = None; other = c.in_ok-other.other } in
    let line : Line = record { code = 7; object = replaced_object r; place = None; other = decimal r.earlier } in
    let same : made ≡ shown line = cc (object, other) in
    on_ok c.push.result
    (λ e. AddsLines-kept replaced_name IsReplacedOf 7 replaced_names c.args.wanted.now r (replaced_object r) old new (replaced_object-name r) (c.keeps_replaced.ensures.0 c.if-not-keeps_replaced.false)
    (AddsLines-one (IsReplacedOf r) old new made line e same refl (λ y h. h)))
    c.push.ensures
