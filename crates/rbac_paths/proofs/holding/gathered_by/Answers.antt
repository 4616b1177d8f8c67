use Rattle.std.proofs.Common.{◌≡◌, ◌∙◌, ◌∷◌, [], Bor, List, ap, arith, length, map, refl, slice_get, subst}
use Rattle.std.specs.Prelude.{Some}
use Rattle.std.proofs.lemmas.List.{map-append}
use Rattle.std.proofs.lemmas.Option.{slice_get_read, slice_get_within}
use Rattle.rbac_terms.specs.declared.granting.ClusterRole.{ClusterRole}
use Rattle.rbac_model.specs.Policies.{Held}
use Rattle.rbac_paths.proofs.GatheredRoles.{all_sources, no_source_more, no_sources, source_more}
use Rattle.rbac_paths.proofs.holding.gathered_by.Goals.{then-is_source+in_ok-push, else-is_source}
use Rattle.rbac_paths.proofs.holding.gathered_by.Goals as goal

-- the roles that these references point to
abbrev roles_of : List (Bor ClusterRole) → List ClusterRole
roles_of xs = map (λ s. s.now) xs

pub loop-to-init : goal.loop-to-init
loop-to-init c = no_sources c.args.policy.now.held c.args.role.now (roles_of c.new-gathered.result.items) (ap roles_of c.new-gathered.ensures.items)

pub is_source-requires-clause-at : goal.is_source-requires-clause-at
is_source-requires-clause-at c =
    let all : c.cluster_roles-roles.result.now ≡ c.args.policy.now.held.cluster_roles = c.cluster_roles-roles.ensures.cluster_roles ∙ ap (λ (h : Held). h.cluster_roles) c.objects.ensures.held in
    slice_get_within c.args.policy.now.held.cluster_roles c.in-Some.at c.args.role.now (subst (λ (rs : List ClusterRole). slice_get rs c.in-Some.at ≡ Some c.args.role.now) all c.in-Some.ensures)

pub loop-to-preserved : goal.loop-to-preserved
loop-to-preserved c =
    let h = c.args.policy.now.held in
    let r = c.args.role.now in
    let to = c.loop-to.to in
    let s = c.index-roles-to.result in
    let xs = c.loop-to.gathered.items in
    let all : c.cluster_roles-roles.result.now ≡ h.cluster_roles = c.cluster_roles-roles.ensures.cluster_roles ∙ ap (λ (h : Held). h.cluster_roles) c.objects.ensures.held in
    let at = subst (λ (rs : List ClusterRole). slice_get rs c.in-Some.at ≡ Some r) all c.in-Some.ensures in
    let here = subst (λ (rs : List ClusterRole). slice_get rs to ≡ Some s) all (slice_get_read c.cluster_roles-roles.result.now _ to s refl c.loop-to-test.true c.index-roles-to.is) in
    elim c.if-is_source.branch [
      | then-is_source+in_ok-push w ↦
          rw w.gathered-is (source_more h r to s (roles_of xs) (roles_of w.push.new.self.items) here ((w.if-is_source.ensures r at).0 refl)
          (ap roles_of w.in_ok-push.ensures.items ∙ map-append (λ (x : Bor ClusterRole). x.now) xs (_ ∷ [])) c.loop-to.invariant)
      | else-is_source w ↦ rw w.gathered-is (no_source_more h r to (roles_of xs) (λ is. (let both = (w.if-is_source.ensures r at).1 is in cc)) c.loop-to.invariant)
    ]

pub returns : goal.returns
returns c =
    let h = c.args.policy.now.held in
    let all : c.cluster_roles-roles.result.now ≡ h.cluster_roles = c.cluster_roles-roles.ensures.cluster_roles ∙ ap (λ (h : Held). h.cluster_roles) c.objects.ensures.held in
    let end : c.loop-to.to ≡ length h.cluster_roles = omega (arith, c.loop-to.auto.to-end, c.loop-to-test.false, ap length all) in
    all_sources h c.args.role.now c.objects.ensures.policy.0 c.loop-to.to end (roles_of c.loop-to.gathered.items) c.loop-to.invariant
