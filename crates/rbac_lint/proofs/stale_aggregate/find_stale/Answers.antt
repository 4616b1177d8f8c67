use Rattle.std.proofs.Common.{◌≡◌, ◌∙◌, arith, ap, refl, subst, sym, List}
use Rattle.std.specs.Prelude.{slice_get}
use Rattle.std.proofs.lemmas.Bool.{both_ways}
use Rattle.std.proofs.lemmas.Option.{slice_get_read}
use Rattle.rbac_terms.specs.declared.granting.ClusterRole.{ClusterRole}
use Rattle.rbac_model.specs.Lists.{IsAscendingBy}
use Rattle.rbac_model.specs.Policies.{Held, cluster_role_name}
use Rattle.rbac_lint.specs.Lines.{AddsLines, OfEach}
use Rattle.rbac_lint.specs.Findings.{IsStaleOf}
use Rattle.rbac_lint.specs.Wanted.{OfKept, OfWanted}
use Rattle.rbac_lint.proofs.Exact.{AddsLines-start}
use Rattle.rbac_lint.proofs.Order.{AddsLines-next}
use Rattle.rbac_lint.proofs.Named.{stale_names}
use Rattle.rbac_lint.proofs.Kept.{kept_names, AddsLines-wanted, AddsLines-unwanted}
use Rattle.rbac_lint.proofs.stale_aggregate.find_stale.Goals as goal

pub returns-then-not-has_code : goal.returns-then-not-has_code
returns-then-not-has_code c =
    let h = c.args.policy.now.held in
    AddsLines-unwanted cluster_role_name (IsStaleOf h) 6 (stale_names h) c.args.wanted.now h.cluster_roles c.args.found.now
    (λ has. both_ways _ c.if-not-has_code.true (c.has_code.ensures.1 has))

pub find_stale_role-requires : goal.find_stale_role-requires
find_stale_role-requires c =
    let h = c.args.policy.now.held in
    let roles = c.cluster_roles-roles.result.now in
    let same : roles ≡ h.cluster_roles = c.cluster_roles-roles.ensures.cluster_roles ∙ ap (λ (v : Held). v.cluster_roles) c.objects.ensures.held in
    ap (λ (rs : List ClusterRole). slice_get rs c.loop-place.place) (sym same)
    ∙ slice_get_read roles _ c.loop-place.place c.index-roles-place.result refl c.loop-place-test.true c.index-roles-place.is

pub loop-place-init : goal.loop-place-init
loop-place-init c = AddsLines-start (λ k r. OfKept c.args.wanted.now (IsStaleOf c.args.policy.now.held r)) c.cluster_roles-roles.result.now c.args.found.now

pub loop-place-preserved : goal.loop-place-preserved
loop-place-preserved c =
    let h = c.args.policy.now.held in
    let roles = c.cluster_roles-roles.result.now in
    let same : roles ≡ h.cluster_roles = c.cluster_roles-roles.ensures.cluster_roles ∙ ap (λ (v : Held). v.cluster_roles) c.objects.ensures.held in
    let A : List ClusterRole → Type 0 = λ rs. IsAscendingBy cluster_role_name rs in
    let w = c.args.wanted.now in
    AddsLines-next cluster_role_name (λ z. OfKept w (IsStaleOf h z)) 6 (kept_names cluster_role_name (IsStaleOf h) 6 (stale_names h) w) roles c.loop-place.place c.index-roles-place.result c.args.found.now c.loop-place.found c.find_stale_role.new.found
    (subst A (sym same) c.objects.ensures.policy.0.cluster_roles)
    (slice_get_read roles _ c.loop-place.place c.index-roles-place.result refl c.loop-place-test.true c.index-roles-place.is) c.loop-place.invariant c.in_ok-find_stale_role.ensures

pub returns : goal.returns
returns c =
    let h = c.args.policy.now.held in
    let roles = c.cluster_roles-roles.result.now in
    let same : roles ≡ h.cluster_roles = c.cluster_roles-roles.ensures.cluster_roles ∙ ap (λ (v : Held). v.cluster_roles) c.objects.ensures.held in
    let P : List ClusterRole → Type 0 = λ rs. AddsLines (OfWanted c.args.wanted.now (OfEach (λ k r. IsStaleOf h r) rs)) c.args.found.now c.loop-place.found in
    subst P same
    (AddsLines-wanted cluster_role_name (IsStaleOf h) 6 (stale_names h) c.args.wanted.now roles c.loop-place.place c.args.found.now c.loop-place.found (omega arith)
    (c.has_code.ensures.0 c.if-not-has_code.false) c.loop-place.invariant)
