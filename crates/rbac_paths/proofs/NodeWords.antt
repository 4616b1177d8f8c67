-- The printed text of a node determines which node of a policy it is.
use Rattle.std.proofs.Common.{◌≡◌, ◌≢◌, ◌++◌, ◌∷◌, [], ◌∙◌, ℕ, List, Option, Some, AllPairs, Contains, ap, ap₂, arith, cond, get_or, inl, inr, ltb, map, refl, subst, sym}
use Rattle.std.specs.Prelude.{codes}
use Rattle.std.proofs.lemmas.Bool.{cases_eq, cases_lt}
use Rattle.std.proofs.lemmas.List.{append_cancel_left, get_or_default, same_from_push}
use Rattle.rbac_terms.specs.Text.{Text}
use Rattle.rbac_terms.specs.Principals.{Who, AsUser, AsMember, who_key}
use Rattle.rbac_terms.specs.declared.granting.ClusterRole.{ClusterRole}
use Rattle.rbac_terms.specs.declared.granting.Role.{Role}
use Rattle.rbac_model.specs.Policies.{IsHeld, PolicyView, cluster_role_name, role_name}
use Rattle.rbac_model.proofs.OneList.{one_of_name}
use Rattle.rbac_text.specs.Choice.{choice_and_tab, choice_text}
use Rattle.rbac_text.specs.Row.{tab}
use Rattle.rbac_text.proofs.Choices.{choice_text-one, field-one}
use Rattle.rbac_paths.specs.NodeLists.{IsNode, node_text, where_text, who_or_what}
use Rattle.rbac_paths.specs.Nodes.{NodeView, Somebody, ClusterRoleIn, OwnRole, EverythingIn}
use Rattle.rbac_paths.proofs.Mapped.{contains_map}

-- ---- the two fields

pub same_fields : (y z : NodeView) → node_text y ≡ node_text z → (who_or_what y ≡ who_or_what z) × (where_text y ≡ where_text z)
same_fields y z e = field-one (who_or_what y) (who_or_what z) (where_text y) (where_text z) e

same_scope : (s t : Option Text) → choice_and_tab s ≡ choice_and_tab t → s ≡ t
same_scope s t e = choice_text-one s t (same_from_push (choice_text s) (choice_text t) tab tab e).0

-- ---- the first byte shows the kind of a node

abbrev kind_by : ℕ → ℕ
kind_by b = cond (ltb 100 b) 0 b

abbrev kind : NodeView → ℕ
kind (Somebody who) = 0
kind (ClusterRoleIn role scope) = 67
kind (OwnRole role) = 82
kind (EverythingIn scope) = 42

kind_is : (y : NodeView) → kind y ≡ kind_by (get_or (who_or_what y) 0 0)
kind_is (Somebody (AsUser name given)) = refl
kind_is (Somebody (AsMember group)) = refl
kind_is (ClusterRoleIn role scope) = refl
kind_is (OwnRole role) = refl
kind_is (EverythingIn scope) = refl

same_kind : (y z : NodeView) → node_text y ≡ node_text z → kind y ≡ kind z
same_kind y z e = kind_is y ∙ ap (λ (t : Text). kind_by (get_or t 0 0)) (same_fields y z e).0 ∙ sym (kind_is z)

-- no other node is printed like everything in a scope
pub everything_told : (s : Option Text) (y : NodeView) → node_text (EverythingIn s) ≡ node_text y → y ≡ EverythingIn s
everything_told s (EverythingIn t) e = ap EverythingIn (sym (same_scope s t (same_fields (EverythingIn s) (EverythingIn t) e).1))
everything_told s y e = absurd (omega (arith, same_kind (EverythingIn s) y e))

-- ---- a key determines a user or a group

module _ {X : Type 0} (f : X → Who) (xs : List X) (apart : AllPairs (λ a b. who_key (f a) ≢ who_key (f b)) xs) where
  one_by_key : (x y : X) → Contains xs x → Contains xs y → who_key (f x) ≡ who_key (f y) → x ≡ y
  one_by_key x y a b e = elim (cases_lt a.0 b.0) [
    | inl low ↦ absurd (apart a.0 b.0 x low b.1 (ap (λ (z : X). who_key (f z)) a.2 ∙ e ∙ sym (ap (λ (z : X). who_key (f z)) (get_or_default xs b.0 x y b.1 ∙ b.2))))
    | inr high ↦ elim (cases_eq a.0 b.0) [
      | inl same ↦ sym a.2 ∙ get_or_default xs a.0 x y a.1 ∙ ap (λ (k : ℕ). get_or xs k y) same ∙ b.2
      | inr other ↦ absurd (apart b.0 a.0 y (omega (arith, high, other)) a.1 (ap (λ (z : X). who_key (f z)) b.2 ∙ sym e ∙ sym (ap (λ (z : X). who_key (f z)) (get_or_default xs a.0 y x a.1 ∙ a.2))))
    ]
  ]

  pub keys_tell : (who other : Who) → Contains (map f xs) who → Contains (map f xs) other → who_key who ≡ who_key other → who ≡ other
  keys_tell who other a b e =
      let x = contains_map f xs who a in
      let y = contains_map f xs other b in
      sym x.2 ∙ ap f (one_by_key x.0 y.0 x.1 y.1 (ap who_key x.2 ∙ e ∙ sym (ap who_key y.2))) ∙ y.2

-- ---- the printed text determines each node

module _ (p : PolicyView) (held : IsHeld p.held) (ps : List Who) (tell : (who other : Who) → Contains ps who → Contains ps other → who_key who ≡ who_key other → who ≡ other) where
  one_cluster_role : (r q : ClusterRole) → Contains p.held.cluster_roles r → Contains p.held.cluster_roles q → r.name ≡ q.name → r ≡ q
  one_cluster_role r q a b e = one_of_name cluster_role_name p.held.cluster_roles r q held.cluster_roles a b (ap (λ (t : Text). codes "ClusterRole" ∷ [] ∷ t ∷ []) e)

  one_role : (r q : Role) → Contains p.held.roles r → Contains p.held.roles q → r.namespace ≡ q.namespace → r.name ≡ q.name → r ≡ q
  one_role r q a b e f = one_of_name role_name p.held.roles r q held.roles a b (ap₂ (λ (s : Text) (t : Text). codes "Role" ∷ s ∷ t ∷ []) e f)

  -- if two Roles have the same namespace and the same text, they have the same name
  same_name : (s t m n : Text) → s ≡ t → codes "Role/" ++ s ++ codes "/" ++ m ≡ codes "Role/" ++ t ++ codes "/" ++ n → m ≡ n
  same_name s t m n same e =
      let there : codes "Role/" ++ t ++ codes "/" ++ m ≡ codes "Role/" ++ t ++ codes "/" ++ n = subst (λ (w : Text). codes "Role/" ++ w ++ codes "/" ++ m ≡ codes "Role/" ++ t ++ codes "/" ++ n) same e in
      append_cancel_left (codes "Role/" ++ t ++ codes "/") m n there

  some_is : (s t : Text) → Some s ≡ Some t → s ≡ t
  some_is s t e = cc

  pub one_node : (y z : NodeView) → IsNode p ps y → IsNode p ps z → node_text y ≡ node_text z → y ≡ z
  one_node (Somebody who) (Somebody other) a b e = ap Somebody (tell who other a b (same_fields (Somebody who) (Somebody other) e).0)
  one_node (ClusterRoleIn r s) (ClusterRoleIn q t) a b e =
      let told = same_fields (ClusterRoleIn r s) (ClusterRoleIn q t) e in
      ap₂ ClusterRoleIn (one_cluster_role r q a.0 b.0 (append_cancel_left (codes "ClusterRole/") r.name q.name told.0)) (same_scope s t told.1)
  one_node (OwnRole r) (OwnRole q) a b e =
      let told = same_fields (OwnRole r) (OwnRole q) e in
      let home : r.namespace ≡ q.namespace = some_is r.namespace q.namespace (same_scope (Some r.namespace) (Some q.namespace) told.1) in
      ap OwnRole (one_role r q a.0 b.0 home (same_name r.namespace q.namespace r.name q.name home told.0))
  one_node (EverythingIn s) (EverythingIn t) a b e = ap EverythingIn (same_scope s t (same_fields (EverythingIn s) (EverythingIn t) e).1)
  one_node y z a b e = absurd (omega (arith, same_kind y z e))
