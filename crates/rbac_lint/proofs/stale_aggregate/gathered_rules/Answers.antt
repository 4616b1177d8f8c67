use Rattle.std.proofs.Common.{◌≡◌, ◌∙◌, ap, arith, length, refl, sym, List}
use Rattle.std.specs.Prelude.{slice_get}
use Rattle.std.proofs.lemmas.Option.{slice_get_read}
use Rattle.rbac_terms.specs.declared.granting.ClusterRole.{ClusterRole}
use Rattle.rbac_model.specs.Policies.{Held}
use Rattle.rbac_lint.specs.Gathering.{rules_at}
use Rattle.rbac_lint.proofs.StaleRules.{gathered_start, gathered_all}
use Rattle.rbac_lint.proofs.stale_aggregate.gathered_rules.Goals as goal

pub loop-at-init : goal.loop-at-init
loop-at-init c = gathered_start c.args.policy.now.held c.args.place _ (ap rules_at c.new-gathered.ensures.items)

pub push_source-requires-clause-source : goal.push_source-requires-clause-source
push_source-requires-clause-source c =
    let h = c.args.policy.now.held in
    let roles = c.cluster_roles-roles.result.now in
    let same : roles ≡ h.cluster_roles = c.cluster_roles-roles.ensures.cluster_roles ∙ ap (λ (v : Held). v.cluster_roles) c.objects.ensures.held in
    ap (λ (rs : List ClusterRole). slice_get rs c.loop-at.at) (sym same)
    ∙ slice_get_read roles _ c.loop-at.at c.index-roles-at.result refl c.loop-at-test.true c.index-roles-at.is

pub loop-at-preserved : goal.loop-at-preserved
loop-at-preserved c = c.in_ok-push_source.ensures c.loop-at.invariant

pub returns : goal.returns
returns c =
    let h = c.args.policy.now.held in
    let count : length c.cluster_roles-roles.result.now ≡ length h.cluster_roles = ap length c.cluster_roles-roles.ensures.cluster_roles ∙ ap (λ (v : Held). length v.cluster_roles) c.objects.ensures.held in
    gathered_all h c.args.place c.loop-at.at (rules_at c.loop-at.gathered.items) (omega (arith, count)) c.loop-at.invariant
