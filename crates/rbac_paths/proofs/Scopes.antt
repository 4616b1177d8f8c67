-- The scopes of a policy, binding by binding, and the nodes in each scope.
use Rattle.std.proofs.Common.{◌≡◌, ◌≢◌, ◌⊎◌, ◌↔◌, ◌++◌, ◌∷◌, [], ◌∙◌, Any, Bor, Contains, IsSome, List, None, Option, Some, ap, arith, false, inl, inr, map, refl, subst, sym, true}
use Rattle.std.specs.BTreeMap.{get}
use Rattle.std.specs.Option.{option_copied, option_eq}
use Rattle.std.specs.Str.{bytes_eq}
use Rattle.std.proofs.lemmas.List.{map_push}
use Rattle.std.proofs.lemmas.Slice.Eq.{bytes_eq-Decides}
use Rattle.std.proofs.lemmas.List.Elements.{Contains-append_cases, Contains-append_left, Contains-append_right}
use Rattle.rbac_terms.specs.Text.{Text, text_cmp}
use Rattle.rbac_terms.specs.Principals.{Who}
use Rattle.rbac_terms.specs.declared.granting.Binding.{Binding}
use Rattle.rbac_terms.specs.declared.granting.ClusterRole.{ClusterRole}
use Rattle.rbac_terms.specs.declared.granting.Role.{Role}
use Rattle.rbac_model.specs.Policies.{PolicyView}
use Rattle.rbac_model.proofs.LabelSets.{any_push, none_any}
use Rattle.rbac_paths.specs.AddingNodes.{AddsNodes, IsBoundRole, IsInScope, IsInSomeScope, IsNamedInScope, IsNamedRole, IsRoleThere, IsSomeBoundRole, PrintedNodes, ScopesAreThere, filled_namespace}
use Rattle.rbac_paths.specs.NodeLists.{IsNamedOf, IsNode, IsScope, node_text}
use Rattle.rbac_paths.specs.Nodes.{NodeView, Somebody, ClusterRoleIn, OwnRole, EverythingIn, node_of}
use Rattle.rbac_paths.specs.declared.node.Node.{Node}
use Rattle.rbac_paths.proofs.Mapped.{contains_map, is_element, map_contains, one_element, some_is}
use Rattle.rbac_paths.proofs.NodeWords.{everything_told}
use Rattle.rbac_paths.proofs.NodesAdded.{adds_nothing, adds_same}

-- exactly the whole cluster and the namespaces of these bindings, with the last scope among them
pub record AreScopesOf (bs : List Binding) (ss : List (Option Text)) (last : Option Text) : Type 0 where
  pub last_is : Contains ss last
  pub exact : (s : Option Text) → Contains ss s ↔ ((s ≡ None) ⊎ Any (λ b. filled_namespace b.namespace ≡ s) bs)

pub scopes_none : AreScopesOf [] (None ∷ []) None
scopes_none = record {
  last_is = is_element None None refl;
  exact = λ s. (
    λ c. inl (sym (one_element None s c)),
    λ any. elim any [
      | inl e ↦ is_element None s (sym e)
      | inr any ↦ absurd (none_any (λ b. filled_namespace b.namespace ≡ s) any)
    ],
  );
}

module _ (bs : List Binding) (b : Binding) (ss : List (Option Text)) (last : Option Text) (are : AreScopesOf bs ss last) where
  -- a binding in the same scope as the one before
  pub scopes_same : filled_namespace b.namespace ≡ last → AreScopesOf (bs ++ b ∷ []) ss last
  scopes_same same = record {
    last_is = are.last_is;
    exact = λ s. (let push = any_push (λ b. filled_namespace b.namespace ≡ s) bs b in (
      λ c. elim ((are.exact s).0 c) [
        | inl e ↦ inl e
        | inr any ↦ inr (push.1 (inl any))
      ],
      λ any. elim any [
        | inl e ↦ (are.exact s).1 (inl e)
        | inr any ↦ elim (push.0 any) [
          | inl any ↦ (are.exact s).1 (inr any)
          | inr e ↦ subst (λ (o : Option Text). Contains ss o) (sym same ∙ e) are.last_is
        ]
      ],
    ));
  }

  -- a binding in another scope
  pub scopes_more : (s : Option Text) → filled_namespace b.namespace ≡ s → AreScopesOf (bs ++ b ∷ []) (ss ++ s ∷ []) s
  scopes_more new is = record {
    last_is = Contains-append_right ss (new ∷ []) new (is_element new new refl);
    exact = λ s. (let push = any_push (λ b. filled_namespace b.namespace ≡ s) bs b in (
      λ c. elim (Contains-append_cases ss (new ∷ []) s c) [
        | inl old ↦ elim ((are.exact s).0 old) [
          | inl e ↦ inl e
          | inr any ↦ inr (push.1 (inl any))
        ]
        | inr own ↦ inr (push.1 (inr (is ∙ one_element new s own)))
      ],
      λ any. elim any [
        | inl e ↦ Contains-append_left ss (new ∷ []) s ((are.exact s).1 (inl e))
        | inr any ↦ elim (push.0 any) [
          | inl any ↦ Contains-append_left ss (new ∷ []) s ((are.exact s).1 (inr any))
          | inr e ↦ Contains-append_right ss (new ∷ []) s (is_element new s (sym is ∙ e))
        ]
      ],
    ));
  }

-- a namespace that isn't empty is kept
filled : (o : Option Text) (namespace : Text) → (filled_namespace o ≡ Some namespace) ↔ ((o ≡ Some namespace) × (namespace ≢ []))
filled None namespace = (
  λ e. absurd (let both : None ≡ Some namespace = e in cc),
  λ is. absurd (let both : None ≡ Some namespace = is.0 in cc),
)
filled (Some []) namespace = (
  λ e. absurd (let both : None ≡ Some namespace = e in cc),
  λ is. absurd (is.1 (let both : Some [] ≡ Some namespace = is.0 in cc)),
)
filled (Some (byte ∷ rest)) namespace = (
  λ e. (e, λ none. (let both : Some (byte ∷ rest) ≡ Some [] = e ∙ ap (λ (t : Text). Some t) none in cc)),
  λ is. is.0,
)

-- the scopes of all bindings are all scopes
is_scope : (p : PolicyView) (s : Option Text) → ((s ≡ None) ⊎ Any (λ b. filled_namespace b.namespace ≡ s) p.held.bindings) ↔ IsScope p s
is_scope p None = (λ any. tt, λ is. inl refl)
is_scope p (Some namespace) = (
  λ any. elim any [
    | inl e ↦ absurd (let both : Some namespace ≡ None = e in cc)
    | inr any ↦ (let is = (filled any.1.namespace namespace).0 any.4 in ((any.0, any.1, any.2, any.3, is.0), is.1))
  ],
  λ is. inr (is.0.0, is.0.1, is.0.2, is.0.3, (filled is.0.1.namespace namespace).1 (is.0.4, is.1)),
)

pub all_scopes : (p : PolicyView) (ss : List (Option Text)) (last : Option Text) → AreScopesOf p.held.bindings ss last → (s : Option Text) → Contains ss s ↔ IsScope p s
all_scopes p ss last are s = (λ c. (is_scope p s).0 ((are.exact s).0 c), λ is. (are.exact s).1 ((is_scope p s).1 is))

-- scopes that compare as equal are the same
pub same_option : (a b : Option (Bor Text)) → option_eq (λ x y. bytes_eq x.now y.now) a b ≡ true → option_copied a ≡ option_copied b
same_option None None e = refl
same_option None (Some y) e = absurd (let both : false ≡ true = e in cc)
same_option (Some x) None e = absurd (let both : false ≡ true = e in cc)
same_option (Some x) (Some y) e = ap (λ (t : Text). Some t) ((bytes_eq-Decides x.now y.now).0 e)

module _ {R : Type 0} (f : R → Option Text) where
  pub scopes_pushed : (bs more : List Binding) (b : Binding) (xs ys : List R) (last x : R) → more ≡ bs ++ b ∷ [] → ys ≡ xs ++ x ∷ [] → f x ≡ filled_namespace b.namespace → AreScopesOf bs (map f xs) (f last) → AreScopesOf more (map f ys) (f x)
  scopes_pushed bs more b xs ys last x passed pushed is are =
      subst (λ (cs : List Binding). AreScopesOf cs (map f ys) (f x)) (sym passed)
      (subst (λ (ss : List (Option Text)). AreScopesOf (bs ++ b ∷ []) ss (f x)) (sym (ap (map f) pushed ∙ map_push f xs x))
      (scopes_more bs b (map f xs) (f last) are (f x) (sym is)))

-- the nodes in some scope
module _ (p : PolicyView) (names : List Text) (rs : List (Bor ClusterRole)) (named : (role : ClusterRole) → Contains (map (λ each. each.now) rs) role ↔ IsNamedRole p.held.cluster_roles names role) where
  in_scope : (s : Option Text) (y : NodeView) → IsInScope rs s y ↔ ((y ≡ EverythingIn s) ⊎ IsNamedInScope p names s y)
  in_scope s y = (
    λ any. elim any [
      | inl e ↦ inl e
      | inr any ↦ inr (any.1.now, (named any.1.now).0 (map_contains (λ each. each.now) rs any.1 (any.0, any.2, any.3)), any.4)
    ],
    λ any. elim any [
      | inl e ↦ inl e
      | inr own ↦ (let x = contains_map (λ each. each.now) rs own.0 ((named own.0).1 own.1) in
          inr (x.1.0, x.0, x.1.1, x.1.2, own.2 ∙ ap (λ (role : ClusterRole). ClusterRoleIn role s) (sym x.2)))
    ],
  )

  pub in_scopes : {R : Type 0} (f : R → Option Text) (xs : List R) → ((s : Option Text) → Contains (map f xs) s ↔ IsScope p s) → (y : NodeView) → Any (λ x. IsInScope rs (f x) y) xs ↔ IsInSomeScope p names y
  in_scopes f xs are y = (
    λ any. (f any.1, (are (f any.1)).0 (map_contains f xs any.1 (any.0, any.2, any.3)), (in_scope (f any.1) y).0 any.4),
    λ some. (let x = contains_map f xs some.0 ((are some.0).1 some.1) in
        (x.1.0, x.0, x.1.1, x.1.2, (in_scope (f x.0) y).1 (subst (λ (s : Option Text). (y ≡ EverythingIn s) ⊎ IsNamedInScope p names s y) (sym x.2) some.2))),
  )

-- ---- which nodes there are

module _ {X : Type 0} (f : X → Who) (xs : List X) (p : PolicyView) (listed names : List Text) where
  abbrev pub IsOfThese : NodeView → Type 0
  IsOfThese y = Any (λ who. y ≡ Somebody (f who)) xs

  abbrev pub IsListed : NodeView → Type 0
  IsListed y = IsNode p (map f xs) y × IsNamedOf listed names y

  is_node : (y : NodeView) → (IsOfThese y ⊎ IsInSomeScope p listed y) ⊎ IsSomeBoundRole p names y → IsListed y
  is_node y (inl (inl any)) = subst (λ z. IsListed z) (sym any.4) (map_contains f xs any.1 (any.0, any.2, any.3), tt)
  is_node y (inl (inr (scope, is, inl e))) = subst (λ z. IsListed z) (sym e) (is, tt)
  is_node y (inl (inr (scope, is, inr own))) = subst (λ z. IsListed z) (sym own.2) ((own.1.0, is), own.1.1)
  is_node y (inr any) = subst (λ z. IsListed z) (sym any.4.0) (((any.0, any.2, any.3), any.4.1), any.4.2)

  from_node : (y : NodeView) → IsNode p (map f xs) y → IsNamedOf listed names y → (IsOfThese y ⊎ IsInSomeScope p listed y) ⊎ IsSomeBoundRole p names y
  from_node (Somebody who) c named = let x = contains_map f xs who c in inl (inl (x.1.0, x.0, x.1.1, x.1.2, ap Somebody (sym x.2)))
  from_node (ClusterRoleIn role scope) (c, is) named = inl (inr (scope, is, inr (role, (c, named), refl)))
  from_node (OwnRole role) (c, is) named = inr (c.0, role, c.1, c.2, (refl, is, named))
  from_node (EverythingIn scope) is named = inl (inr (scope, is, inl refl))

  pub which_nodes : (y : NodeView) → ((IsOfThese y ⊎ IsInSomeScope p listed y) ⊎ IsSomeBoundRole p names y) ↔ IsListed y
  which_nodes y = (is_node y, λ is. from_node y is.0 is.1)

  -- ---- everything in a namespace is there exactly if it is a scope

  of_namespace : (namespace : Text) (y : NodeView) → y ≡ EverythingIn (Some namespace) → IsOfThese y ⊎ IsInSomeScope p listed y → IsScope p (Some namespace)
  of_namespace namespace y e (inl any) = absurd (let both : EverythingIn (Some namespace) ≡ Somebody (f any.1) = sym e ∙ any.4 in cc)
  of_namespace namespace y e (inr (scope, is, inl own)) =
      let both : EverythingIn scope ≡ EverythingIn (Some namespace) = sym own ∙ e in
      let same : scope ≡ Some namespace = cc in
      subst (λ (s : Option Text). IsScope p s) same is
  of_namespace namespace y e (inr (scope, is, inr own)) = absurd (let both : EverythingIn (Some namespace) ≡ ClusterRoleIn own.0 scope = sym e ∙ own.2 in cc)

  pub scopes_there : (a b : PrintedNodes) → ((t : Text) → get text_cmp a t ≡ None) → AddsNodes (λ y. IsOfThese y ⊎ IsInSomeScope p listed y) a b → ScopesAreThere p b
  scopes_there a b empty adds namespace = (
    λ there. (let x = some_is (get text_cmp b (node_text (EverythingIn (Some namespace)))) there in
        elim (adds.only (node_text (EverythingIn (Some namespace))) x.0 x.1) [
          | inl old ↦ absurd (let both : None ≡ Some x.0 = sym (empty (node_text (EverythingIn (Some namespace)))) ∙ old in cc)
          | inr new ↦ of_namespace namespace (node_of x.0) (everything_told (Some namespace) (node_of x.0) new.0) new.1
        ]),
    λ has. adds.has (EverythingIn (Some namespace)) (inr (Some namespace, has, inl refl)),
  )

-- after roles were added, this still holds
module _ {X : Type 0} (Is : X → NodeView → Type 0) (are_roles : (x : X) (y : NodeView) → Is x y → (s : Option Text) → ¬ (y ≡ EverythingIn s)) (p : PolicyView) where
  pub still_there : (xs : List X) (a b : PrintedNodes) → ScopesAreThere p a → AddsNodes (λ y. Any (λ x. Is x y) xs) a b → ScopesAreThere p b
  still_there xs a b there adds namespace = (
    λ is. (let t = node_text (EverythingIn (Some namespace)) in
        let x = some_is (get text_cmp b t) is in
        elim (adds.only t x.0 x.1) [
          | inl old ↦ (there namespace).0 (subst (λ (o : Option Node). IsSome o) (sym old) refl)
          | inr new ↦ absurd (are_roles new.1.1 (node_of x.0) new.1.4 (Some namespace) (everything_told (Some namespace) (node_of x.0) new.0))
        ]),
    λ has. adds.kept (node_text (EverythingIn (Some namespace))) ((there namespace).1 has),
  )

module _ (p : PolicyView) (names : List Text) (role : Role) where
  pub bound : (a b : PrintedNodes) → (IsSome (get text_cmp a (node_text (EverythingIn (Some role.namespace)))) ↔ IsScope p (Some role.namespace)) → Contains names role.name → AddsNodes (IsRoleThere a role) a b → AddsNodes (IsBoundRole p names role) a b
  bound a b there named adds =
      adds_same (IsRoleThere a role) (IsBoundRole p names role) a b
      (λ y. (λ is. (is.0, there.0 is.1, named), λ is. (is.0, there.1 is.1))) adds

  pub unnamed : (a : PrintedNodes) → ¬ Contains names role.name → AddsNodes (IsBoundRole p names role) a a
  unnamed a none = adds_nothing (IsBoundRole p names role) a (λ y is. none is.2)

  pub is_own : (y : NodeView) → IsBoundRole p names role y → (s : Option Text) → ¬ (y ≡ EverythingIn s)
  is_own y is s e = let both : OwnRole role ≡ EverythingIn s = sym is.0 ∙ e in cc

-- a Role is added if the map has everything in its namespace
module _ (role : Role) (a : PrintedNodes) where
  pub role_there : (b : PrintedNodes) → IsSome (get text_cmp a (node_text (EverythingIn (Some role.namespace)))) → AddsNodes (λ y. y ≡ OwnRole role) a b → AddsNodes (IsRoleThere a role) a b
  role_there b some adds = adds_same (λ y. y ≡ OwnRole role) (IsRoleThere a role) a b (λ y. (λ e. (e, some), λ is. is.0)) adds

  pub role_nowhere : ¬ IsSome (get text_cmp a (node_text (EverythingIn (Some role.namespace)))) → AddsNodes (IsRoleThere a role) a a
  role_nowhere none = adds_nothing (IsRoleThere a role) a (λ y is. none is.1)
