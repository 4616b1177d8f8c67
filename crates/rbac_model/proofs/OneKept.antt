-- what is kept of given objects is one
use Rattle.std.proofs.Common.{◌≡◌, List, ap, ◌∙◌}
use Rattle.std.specs.List.{filter_map}
use Rattle.rbac_terms.specs.Text.{Text}
use Rattle.rbac_terms.specs.declared.granting.Role.{Role}
use Rattle.rbac_terms.specs.declared.granting.ClusterRole.{ClusterRole}
use Rattle.rbac_terms.specs.declared.granting.Binding.{Binding}
use Rattle.rbac_model.specs.declared.objects.Object.{Object}
use Rattle.rbac_model.specs.Kept.{AreLastNamed, AreKept, as_role, as_cluster_role, as_binding}
use Rattle.rbac_model.specs.Policies.{Held, role_name, cluster_role_name, binding_name}
use Rattle.rbac_model.proofs.OneList.{one_list}

last_named_one : {X : Type 0} (name : X → List Text) (xs ys zs : List X) → AreLastNamed name xs ys → AreLastNamed name xs zs → ys ≡ zs
last_named_one name xs ys zs p q = one_list name ys zs p.ordered q.ordered (λ x w. (q.exact x).1 ((p.exact x).0 w)) (λ x w. (p.exact x).1 ((q.exact x).0 w))

held_of : List Role → List ClusterRole → List Binding → Held
held_of rs cs bs = record { roles = rs; cluster_roles = cs; bindings = bs }

same_held : (h k : Held) → h.roles ≡ k.roles → h.cluster_roles ≡ k.cluster_roles → h.bindings ≡ k.bindings → h ≡ k
unfolding held_of
same_held h k a b c =
    ap (λ (v : List Role). held_of v h.cluster_roles h.bindings) a
    ∙ ap (λ (v : List ClusterRole). held_of k.roles v h.bindings) b
    ∙ ap (λ (v : List Binding). held_of k.roles k.cluster_roles v) c

pub one_kept : (given : List Object) (h k : Held) → AreKept given h → AreKept given k → h ≡ k
one_kept given h k p q =
    same_held h k
    (last_named_one role_name (filter_map as_role given) h.roles k.roles p.roles q.roles)
    (last_named_one cluster_role_name (filter_map as_cluster_role given) h.cluster_roles k.cluster_roles p.cluster_roles q.cluster_roles)
    (last_named_one binding_name (filter_map as_binding given) h.bindings k.bindings p.bindings q.bindings)
