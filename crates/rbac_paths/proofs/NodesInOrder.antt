-- The nodes that were put under their printed texts are all nodes, each once, in order of these
-- texts.
use Rattle.std.proofs.Common.{◌≡◌, ◌<◌, ◌∙◌, ℕ, AllPairs, Contains, List, None, Some, ap, ap₂, arith, get_or, inl, inr, length, map, refl, slice_get, subst, sym}
use Rattle.std.specs.BTreeMap.{get, IsOrdered, values}
use Rattle.std.specs.Ordering.{is_eq}
use Rattle.std.specs.declared.cmp.Ordering.TheVariants.{Less}
use Rattle.std.proofs.lemmas.Cmp.{nat_list_cmp_total}
use Rattle.std.proofs.lemmas.Map.Entries.{btree_map_get_place, place_from_lookup}
use Rattle.std.proofs.lemmas.Option.{get_or_from_slice_get, slice_get-get_or, slice_get_read, slice_get_within}
use Rattle.rbac_terms.specs.Text.{Text, text_cmp}
use Rattle.rbac_terms.specs.Principals.{Who, who_key}
use Rattle.rbac_model.specs.Policies.{IsHeld, PolicyView}
use Rattle.rbac_paths.specs.AddingNodes.{AddsNodes, PrintedNodes}
use Rattle.rbac_paths.specs.NodeLists.{AreNodes, IsNamedOf, IsNode, node_text}
use Rattle.rbac_paths.specs.Nodes.{NodeView, node_of}
use Rattle.rbac_paths.specs.declared.node.Node.{Node}
use Rattle.rbac_paths.proofs.Entries.{strict}
use Rattle.rbac_paths.proofs.Mapped.{contains_map, map_contains, pairs_map, some_is}
use Rattle.rbac_paths.proofs.NodeWords.{one_node}

module _ (p : PolicyView) (held : IsHeld p.held) (ps : List Who) (tell : (who other : Who) → Contains ps who → Contains ps other → who_key who ≡ who_key other → who ≡ other)
    (m n : PrintedNodes) (empty : (t : Text) → get text_cmp m t ≡ None) (up : IsOrdered text_cmp n) (listed_names names : List Text) (adds : AddsNodes (λ y. IsNode p ps y × IsNamedOf listed_names names y) m n) where
  abbrev IsListed : NodeView → Type 0
  IsListed y = IsNode p ps y × IsNamedOf listed_names names y

  told : (t : Text) (x : Node) → get text_cmp n t ≡ Some x → (t ≡ node_text (node_of x)) × IsListed (node_of x)
  told t x e = elim (adds.only t x e) [
    | inl old ↦ absurd (let both : None ≡ Some x = sym (empty t) ∙ old in cc)
    | inr new ↦ new
  ]

  entry_at : (i : ℕ) (e : Text × Node) → slice_get n.entries i ≡ Some e → (e.0 ≡ node_text (node_of e.1)) × IsListed (node_of e.1)
  entry_at i e at = told e.0 e.1 (btree_map_get_place nat_list_cmp_total n i e.0 e.1 up at)

  abbrev Before : Node → Node → Type 0
  Before x y = text_cmp (node_text (node_of x)) (node_text (node_of y)) ≡ Less

  entries_in_order : AllPairs (λ a b. Before a.1 b.1) n.entries
  entries_in_order i j d low within =
      let es = n.entries in
      let key : (k : ℕ) → k < length es → node_text (node_of (get_or es k d).1) ≡ (get_or es k d).0 = λ k there. sym (entry_at k (get_or es k d) (slice_get-get_or es k d there)).0 in
      ap₂ (λ (x : Text) (y : Text). text_cmp x y) (key i (omega (arith, low, within))) (key j within) ∙ strict es up i j d low within

  in_order : AllPairs (λ y z. text_cmp (node_text y) (node_text z) ≡ Less) (map node_of (values n))
  in_order = pairs_map node_of (λ y z. text_cmp (node_text y) (node_text z) ≡ Less) (values n) (pairs_map (λ e. e.1) Before n.entries entries_in_order)

  is_listed : (y : NodeView) → Contains (map node_of (values n)) y → IsListed y
  is_listed y c =
      let x = contains_map node_of (values n) y c in
      let e = contains_map (λ e. e.1) n.entries x.0 x.1 in
      let at : slice_get n.entries e.1.0 ≡ Some e.0 = slice_get_read n.entries (length n.entries) e.1.0 e.0 refl e.1.1 (sym e.1.2) in
      subst (λ z. IsListed z) (ap node_of e.2 ∙ x.2) (entry_at e.1.0 e.0 at).1

  listed : (y : NodeView) → IsListed y → Contains (map node_of (values n)) y
  listed y is =
      let x = some_is (get text_cmp n (node_text y)) (adds.has y is) in
      let own = told (node_text y) x.0 x.1 in
      let at = place_from_lookup (λ k. is_eq (text_cmp (node_text y) k)) n.entries x.0 x.1 in
      let e : Text × Node = (at.1, x.0) in
      let there : Contains n.entries e = (at.0, slice_get_within n.entries at.0 e at.2, get_or_from_slice_get n.entries at.0 e e at.2) in
      subst (λ z. Contains (map node_of (values n)) z) (sym (one_node p held ps tell y (node_of x.0) is.0 own.1.0 own.0))
      (map_contains node_of (values n) x.0 (map_contains (λ e. e.1) n.entries e there))

  pub all_nodes : AreNodes p ps listed_names names (map node_of (values n))
  all_nodes = record { ordered = in_order; exact = λ y. (is_listed y, listed y) }
