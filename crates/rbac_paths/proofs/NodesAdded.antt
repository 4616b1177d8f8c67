-- Nodes that are put under their printed texts, one after another.
use Rattle.std.proofs.Common.{◌≡◌, ◌⊎◌, ◌↔◌, ◌+◌, ◌<◌, ◌≤◌, ◌++◌, ◌∷◌, [], ◌∙◌, ℕ, Any, Bool, IsSome, List, Option, Some, ap, cond, false, get_or, inl, inr, length, refl, subst, sym, take, true}
use Rattle.std.specs.BTreeMap.{get}
use Rattle.std.specs.Ordering.{is_eq}
use Rattle.std.proofs.lemmas.Cmp.{nat_list_cmp_total, tied_itself}
use Rattle.std.proofs.lemmas.List.{take_all}
use Rattle.std.proofs.lemmas.Map.Lookups.{exact_bytes}
use Rattle.std.proofs.lemmas.Option.{same_Some}
use Rattle.rbac_terms.proofs.Cases.{by_bool}
use Rattle.rbac_terms.proofs.Orderings.{equal_from_test}
use Rattle.rbac_terms.specs.Text.{Text, text_cmp}
use Rattle.rbac_model.proofs.LabelSets.{any_push, none_any}
use Rattle.rbac_model.proofs.Stairs.{take_read}
use Rattle.rbac_paths.specs.AddingNodes.{AddsNodes, PrintedNodes}
use Rattle.rbac_paths.specs.NodeLists.{node_text}
use Rattle.rbac_paths.specs.Nodes.{NodeView, node_of}
use Rattle.rbac_paths.specs.declared.node.Node.{Node}

-- nothing is added
pub adds_nothing : (Is : NodeView → Type 0) (m : PrintedNodes) → ((y : NodeView) → ¬ Is y) → AddsNodes Is m m
adds_nothing Is m none = record { kept = λ t is. is; has = λ y is. absurd (none y is); only = λ t x e. inl e }

pub adds_same : (P Q : NodeView → Type 0) (a b : PrintedNodes) → ((y : NodeView) → P y ↔ Q y) → AddsNodes P a b → AddsNodes Q a b
adds_same P Q a b same adds = record {
  kept = adds.kept;
  has = λ y is. adds.has y ((same y).1 is);
  only = λ t x e. elim (adds.only t x e) [
    | inl old ↦ inl old
    | inr new ↦ inr (new.0, (same (node_of x)).0 new.1)
  ];
}

pub adds_both : (P Q : NodeView → Type 0) (a b c : PrintedNodes) → AddsNodes P a b → AddsNodes Q b c → AddsNodes (λ y. P y ⊎ Q y) a c
adds_both P Q a b c first second = record {
  kept = λ t is. second.kept t (first.kept t is);
  has = λ y any. elim any [
    | inl is ↦ second.kept (node_text y) (first.has y is)
    | inr is ↦ second.has y is
  ];
  only = λ t x e. elim (second.only t x e) [
    | inl mid ↦ elim (first.only t x mid) [
      | inl old ↦ inl old
      | inr new ↦ inr (new.0, inl new.1)
    ]
    | inr new ↦ inr (new.0, inr new.1)
  ];
}

-- ---- one node

module _ (node : Node) (a b : PrintedNodes) where
  abbrev text : Text
  text = node_text (node_of node)

  abbrev IsPut : Type 0
  IsPut = (k : Text) → get text_cmp b k ≡ cond (is_eq (text_cmp text k)) (Some node) (get text_cmp a k)

  put_there : IsPut → (k : Text) → is_eq (text_cmp text k) ≡ true → get text_cmp b k ≡ Some node
  put_there put k is = put k ∙ ap (λ (test : Bool). cond test (Some node) (get text_cmp a k)) is

  put_apart : IsPut → (k : Text) → is_eq (text_cmp text k) ≡ false → get text_cmp b k ≡ get text_cmp a k
  put_apart put k is = put k ∙ ap (λ (test : Bool). cond test (Some node) (get text_cmp a k)) is

  pub adds_one : IsPut → AddsNodes (λ y. y ≡ node_of node) a b
  adds_one put = record {
    kept = λ k is. by_bool (is_eq (text_cmp text k))
        (λ same. subst (λ (o : Option Node). IsSome o) (sym (put_there put k same)) refl)
        (λ apart. subst (λ (o : Option Node). IsSome o) (sym (put_apart put k apart)) is);
    has = λ y is. subst (λ (z : NodeView). IsSome (get text_cmp b (node_text z))) (sym is)
        (subst (λ (o : Option Node). IsSome o) (sym (put_there put text (ap is_eq (tied_itself nat_list_cmp_total text)))) refl);
    only = λ k x e. by_bool (is_eq (text_cmp text k))
        (λ same. (let now : node ≡ x = same_Some node x (sym (put_there put k same) ∙ e) in
        inr (sym (exact_bytes text k (equal_from_test (text_cmp text k) same)) ∙ ap (λ (z : Node). node_text (node_of z)) now, ap node_of (sym now))))
        (λ apart. inl (sym (put_apart put k apart) ∙ e));
  }

-- ---- the nodes of a list, one after another

module _ {X : Type 0} (Is : X → NodeView → Type 0) where
  pub adds_none : (m : PrintedNodes) → AddsNodes (λ y. Any (λ x. Is x y) []) m m
  adds_none m = adds_nothing (λ y. Any (λ x. Is x y) []) m (λ y any. none_any (λ x. Is x y) any)

  adds_next : (xs : List X) (x : X) (a b c : PrintedNodes) → AddsNodes (λ y. Any (λ x. Is x y) xs) a b → AddsNodes (Is x) b c → AddsNodes (λ y. Any (λ x. Is x y) (xs ++ x ∷ [])) a c
  adds_next xs x a b c before own =
      adds_same (λ y. Any (λ x. Is x y) xs ⊎ Is x y) (λ y. Any (λ x. Is x y) (xs ++ x ∷ [])) a c
      (λ y. (let push = any_push (λ x. Is x y) xs x in (push.1, push.0))) (adds_both (λ y. Any (λ x. Is x y) xs) (Is x) a b c before own)

  pub adds_more : (xs : List X) (i : ℕ) (x : X) (a b c : PrintedNodes) → i < length xs → x ≡ get_or xs i x → AddsNodes (λ y. Any (λ x. Is x y) (take i xs)) a b → AddsNodes (Is x) b c → AddsNodes (λ y. Any (λ x. Is x y) (take (i + 1) xs)) a c
  adds_more xs i x a b c low read before own =
      subst (λ (passed : List X). AddsNodes (λ y. Any (λ x. Is x y) passed) a c) (sym (take_read xs i x low read)) (adds_next (take i xs) x a b c before own)

  pub adds_all : (xs all : List X) (i : ℕ) (a b : PrintedNodes) → length xs ≤ i → xs ≡ all → AddsNodes (λ y. Any (λ x. Is x y) (take i xs)) a b → AddsNodes (λ y. Any (λ x. Is x y) all) a b
  adds_all xs all i a b end same adds = subst (λ (passed : List X). AddsNodes (λ y. Any (λ x. Is x y) passed) a b) (take_all i xs end ∙ same) adds
