-- The nodes with bound names are enough to search among.
use Rattle.std.proofs.Common.{◌≡◌, ◌∙◌, ◌+◌, ◌<◌, ◌↔◌, ℕ, List, Some, All, Contains, ap, arith, get_or, slice_get}
use Rattle.std.specs.Ordering.{is_lt, ordering_reverse}
use Rattle.std.specs.List.Sorted.{IsSorted, IsStrictlySortedBy}
use Rattle.std.proofs.lemmas.Cmp.{nat_list_cmp_total}
use Rattle.std.proofs.lemmas.List.{get_or_default}
use Rattle.std.proofs.lemmas.Map.Keys.{Less-from_sorted}
use Rattle.rbac_terms.specs.Principals.{Who}
use Rattle.rbac_terms.specs.Text.{Text, text_cmp}
use Rattle.rbac_model.specs.Policies.{IsPolicy, PolicyView}
use Rattle.rbac_paths.specs.BoundNames.{AreBoundNames}
use Rattle.rbac_paths.specs.NodeLists.{AreNodes, IsNamedOf, IsNode}
use Rattle.rbac_paths.specs.Nodes.{NodeView, Somebody, ClusterRoleIn, OwnRole, EverythingIn}
use Rattle.rbac_paths.specs.Searching.{AreEnough}
use Rattle.rbac_paths.specs.TakingOver.{TakesOver}
use Rattle.rbac_paths.specs.Told.{HasItsRole}
use Rattle.rbac_steps.specs.declared.steps.Step.{Step}
use Rattle.rbac_paths.proofs.Closed.{HasOwnRole, cluster_role_bound, role_bound}

-- names in strict order are in order
pub in_order : (names : List Text) → IsStrictlySortedBy text_cmp names → IsSorted text_cmp names
in_order names up k d low high =
    let less = Less-from_sorted text_cmp names k (k + 1) d up (omega arith) high in
    ap is_lt (nat_list_cmp_total.antisymm (get_or names (k + 1) d) (get_or names k d) ∙ ap ordering_reverse less)

module _ (p : PolicyView) (all : List Who) where
  its_role : (y : NodeView) → IsNode p all y → HasItsRole p.held y
  its_role (Somebody who) is = tt
  its_role (ClusterRoleIn role scope) is = is.0
  its_role (OwnRole role) is = tt
  its_role (EverythingIn scope) is = tt

  own_role : (y : NodeView) → IsNode p all y → HasOwnRole p.held y
  own_role (Somebody who) is = tt
  own_role (ClusterRoleIn role scope) is = is.0
  own_role (OwnRole role) is = is.0
  own_role (EverythingIn scope) is = tt

  module _ (listed names : List Text) (ys : List NodeView) (are : AreNodes p all listed names ys) where
    pub held : All (HasItsRole p.held) ys
    held k d low =
        let y = get_or ys k d in
        its_role y ((are.exact y).0 (k, low, get_or_default ys k y d low)).0

    module _ (ok : IsPolicy p) (steps : List Step) (bound : AreBoundNames steps p.held listed names) where
      named : (x y : NodeView) → IsNode p all x → IsNode p all y → TakesOver p steps x y → IsNamedOf listed names y
      named x (Somebody who) is node takes = tt
      named x (ClusterRoleIn role scope) is node takes = (bound.of_rules role.name).1 (cluster_role_bound p ok steps x (own_role x is) takes.0 role scope takes.1)
      named x (OwnRole role) is node takes = (bound.exact role.name).1 (role_bound p ok steps x (own_role x is) takes.0 role node.0 takes.1)
      named x (EverythingIn scope) is node takes = tt

      pub enough : AreEnough p all steps ys
      enough = record {
        ordered = are.ordered;
        nodes = λ y c. ((are.exact y).0 c).0;
        somebody = λ who c. (are.exact (Somebody who)).1 (c, tt);
        closed = λ x y c goes. (are.exact y).1 (goes.0, named x y ((are.exact x).0 c).0 goes.0 goes.1);
      }
