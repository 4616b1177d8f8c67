use Rattle.std.proofs.Common.{arith}
use Rattle.std.proofs.lemmas.Bool.{both_ways}
use Rattle.rbac_model.specs.Sources.{source_of}
use Rattle.rbac_lint.specs.Roles.{roles_in}
use Rattle.rbac_lint.specs.Findings.{IsRedundantOf}
use Rattle.rbac_lint.specs.Wanted.{OfKept}
use Rattle.rbac_lint.proofs.Exact.{AddsLines-start}
use Rattle.rbac_lint.proofs.Order.{AddsLines-next}
use Rattle.rbac_lint.proofs.RoleLines.{source_texts, roles_ascend}
use Rattle.rbac_lint.proofs.Named.{redundant_names}
use Rattle.rbac_lint.proofs.Kept.{kept_names, AddsLines-wanted, AddsLines-unwanted}
use Rattle.rbac_lint.proofs.redundant_rule.find_redundant.Goals as goal

pub returns-then-not-has_code : goal.returns-then-not-has_code
returns-then-not-has_code c =
    AddsLines-unwanted source_texts IsRedundantOf 3 redundant_names c.args.wanted.now (roles_in c.args.objects.now) c.args.found.now
    (λ has. both_ways _ c.if-not-has_code.true (c.has_code.ensures.1 has))

pub loop-place-init : goal.loop-place-init
loop-place-init c = AddsLines-start (λ k s. OfKept c.args.wanted.now (IsRedundantOf s)) (roles_in c.args.objects.now) c.args.found.now

pub loop-place-preserved : goal.loop-place-preserved
loop-place-preserved c =
    let h = c.args.objects.now in
    let w = c.args.wanted.now in
    AddsLines-next source_texts (λ s. OfKept w (IsRedundantOf s)) 3 (kept_names source_texts IsRedundantOf 3 redundant_names w) (roles_in h) c.loop-place.place (source_of c.role_at.result) c.args.found.now c.loop-place.found c.find_in_role.new.found
    (roles_ascend h c.role_count-place-end.ensures.held) c.role_at.ensures c.loop-place.invariant c.in_ok-find_in_role.ensures

pub returns : goal.returns
returns c =
    AddsLines-wanted source_texts IsRedundantOf 3 redundant_names c.args.wanted.now (roles_in c.args.objects.now) c.loop-place.place c.args.found.now c.loop-place.found (omega (arith, c.role_count-place-end.ensures.count))
    (c.has_code.ensures.0 c.if-not-has_code.false) c.loop-place.invariant
