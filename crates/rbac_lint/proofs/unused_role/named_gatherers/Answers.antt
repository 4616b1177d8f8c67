use Rattle.std.proofs.Common.{◌≡◌, ◌∙◌, ◌+◌, ℕ, List, Vec, Global, ap, arith, length, refl, subst, sym}
use Rattle.std.specs.Prelude.{Some, slice_get}
use Rattle.std.proofs.lemmas.Bool.{both_ways}
use Rattle.std.proofs.lemmas.Option.{slice_get_read}
use Rattle.rbac_terms.specs.declared.granting.ClusterRole.{ClusterRole}
use Rattle.rbac_model.specs.Policies.{InClusterRole}
use Rattle.rbac_lint.proofs.RoleLines.{cluster_role_there, roles_length}
use Rattle.rbac_lint.proofs.Flags.{AreGatherersBelow, gatherers_more, gatherers_same, gatherers_all}
use Rattle.rbac_lint.proofs.unused_role.named_gatherers.Goals as goal
use Rattle.rbac_lint.proofs.unused_role.named_gatherers.Goals.{then-is_gatherer+in_ok-push, else-is_gatherer}

pub is_gatherer-requires : goal.is_gatherer-requires
is_gatherer-requires c = omega (arith, c.requires.len, roles_length c.args.objects.now, ap length c.cluster_roles-roles.ensures.cluster_roles)

pub loop-place-preserved : goal.loop-place-preserved
loop-place-preserved c =
    let h = c.args.objects.now in
    let i = c.loop-place.place in
    let r = c.index-roles-place.result in
    let roles = c.cluster_roles-roles.result.now in
    let here : slice_get h.cluster_roles i ≡ Some r = ap (λ (rs : List ClusterRole). slice_get rs i) (sym c.cluster_roles-roles.ensures.cluster_roles)
    ∙ slice_get_read roles (length roles) i r refl c.loop-place-test.true c.index-roles-place.is in
    let named = c.requires.exact i (InClusterRole r) (cluster_role_there h i r here) in
    let P : Vec ℕ Global → Type 0 = λ v. AreGatherersBelow h (i + 1) v.items in
    elim c.if-is_gatherer.branch [
      | then-is_gatherer+in_ok-push w ↦
          subst P (sym w.gatherers-is) (gatherers_more h i r c.loop-place.gatherers.items w.push.new.self.items here (named.0 (c.is_gatherer.ensures.0 w.if-is_gatherer.true).0) w.in_ok-push.ensures.items c.loop-place.invariant)
      | else-is_gatherer w ↦
          subst P (sym w.gatherers-is) (gatherers_same h i r c.loop-place.gatherers.items here (λ is gathers. both_ways _ w.if-is_gatherer.false (c.is_gatherer.ensures.1 (named.1 is, gathers))) c.loop-place.invariant)
    ]

pub returns : goal.returns
returns c =
    let h = c.args.objects.now in
    gatherers_all h c.loop-place.place c.loop-place.gatherers.items (omega (arith, ap length c.cluster_roles-roles.ensures.cluster_roles)) c.loop-place.invariant
