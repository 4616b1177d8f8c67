use Rattle.std.proofs.Common.{◌≡◌, ◌∙◌, ◌+◌, ◌++◌, ◌∷◌, [], Bor, Contains, List, ap, false, map, subst, sym, take, true}
use Rattle.std.proofs.lemmas.List.{map_push, take_all}
use Rattle.rbac_terms.specs.Text.{Text}
use Rattle.rbac_terms.specs.declared.granting.ClusterRole.{ClusterRole}
use Rattle.rbac_model.proofs.Stairs.{take_read}
use Rattle.rbac_model.specs.Policies.{Held}
use Rattle.rbac_paths.proofs.Kept.{AreKept, kept_more, kept_none, kept_same}
use Rattle.rbac_paths.proofs.nodes.named_cluster_roles.Goals as goal
use Rattle.rbac_paths.proofs.nodes.named_cluster_roles.Goals.{then-is_among+in_ok-push, else-is_among}

abbrev role_is : Bor ClusterRole → ClusterRole
role_is each = each.now

abbrev IsNamed : List Text → ClusterRole → Type 0
IsNamed names role = Contains names role.name

pub loop-role-init : goal.loop-role-init
loop-role-init c = kept_none (IsNamed c.args.names.now) (map role_is c.new-named.result.items) (ap (map role_is) c.new-named.ensures.items)

pub loop-role-preserved : goal.loop-role-preserved
loop-role-preserved c =
    let names = c.args.names.now in
    let items = c.cluster_roles-role-items.result.now in
    let i = c.loop-role.role-index in
    let role = c.role-item.result in
    let xs = c.loop-role.named.items in
    let told = c.is_among.ensures in
    let name : c.as_bytes-name.result.now ≡ role.name = c.as_bytes-name.ensures in
    let passed = take_read items i role c.loop-role-test.true c.role-item.is in
    elim c.if-is_among.branch [
      | then-is_among+in_ok-push w ↦ rw w.named-is
          (subst (λ (rs : List ClusterRole). AreKept (IsNamed names) (take (i + 1) items) rs) (sym (ap (map role_is) w.in_ok-push.ensures.items ∙ map_push role_is xs _))
          (subst (λ (rs : List ClusterRole). AreKept (IsNamed names) rs (map role_is xs ++ role ∷ [])) (sym passed)
          (kept_more (IsNamed names) (take i items) role (map role_is xs) c.loop-role.invariant (subst (λ (t : Text). Contains names t) name (told.0 w.if-is_among.true)))))
      | else-is_among w ↦ rw w.named-is
          (subst (λ (rs : List ClusterRole). AreKept (IsNamed names) rs (map role_is xs)) (sym passed)
          (kept_same (IsNamed names) (take i items) role (map role_is xs) c.loop-role.invariant
          (λ has. (let both : true ≡ false = sym (told.1 (subst (λ (t : Text). Contains names t) (sym name) has)) ∙ w.if-is_among.false in cc))))
    ]

pub returns : goal.returns
returns c =
    subst (λ (rs : List ClusterRole). AreKept (IsNamed c.args.names.now) rs (map role_is c.loop-role.named.items))
    (take_all c.loop-role.role-index c.cluster_roles-role-items.result.now c.loop-role-test.false
    ∙ c.cluster_roles-role-items.ensures.cluster_roles ∙ ap (λ (h : Held). h.cluster_roles) c.objects.ensures.held)
    c.loop-role.invariant
