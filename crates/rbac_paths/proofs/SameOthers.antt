-- Nodes that take over the same other nodes, because the same holdings decide it.
use Rattle.std.proofs.Common.{◌≡◌, ◌∙◌, ◌+◌, ◌<◌, ◌++◌, ◌∷◌, [], ℕ, List, Some, Contains, ap, get_or, slice_get, subst, sym}
use Rattle.std.proofs.lemmas.List.{length_push}
use Rattle.std.proofs.lemmas.Option.{same_Some}
use Rattle.rbac_terms.specs.Text.{Text}
use Rattle.rbac_terms.specs.declared.matching.Rule.{Rule}
use Rattle.rbac_model.specs.Policies.{PolicyView}
use Rattle.rbac_paths.specs.Having.{HoldingView}
use Rattle.rbac_paths.specs.Joints.{AreOthers, AreTaken, DecideOn, IsNobody, OthersTakenView}
use Rattle.rbac_paths.specs.Nodes.{NodeView, EverythingIn}
use Rattle.rbac_paths.specs.SharedLists.{AreShared}
use Rattle.rbac_paths.specs.Taking.{CanTakeOver}
use Rattle.rbac_paths.specs.TakingOver.{BindsNode, HasAll, MayGoOn, TakesOver}
use Rattle.rbac_steps.specs.declared.steps.Step.{Step}
use Rattle.rbac_steps.specs.declared.steps.Step.TheVariants.{Bind}
use Rattle.rbac_paths.proofs.GraphOf.{pushed}
use Rattle.rbac_paths.proofs.SharedLists.{shared_new, shared_old}
use Rattle.rbac_paths.proofs.Untold.{untold_too}

-- rules of the same five lists are the same
pub same_lists : (a b : Rule) → a.verbs ≡ b.verbs → a.urls ≡ b.urls → a.groups ≡ b.groups → a.resources ≡ b.resources → a.resource_names ≡ b.resource_names → a ≡ b
same_lists a b verbs urls groups resources names =
    let with_verbs : List Text → Rule = λ l. record { verbs = l; groups = a.groups; resources = a.resources; resource_names = a.resource_names; urls = a.urls } in
    let with_groups : List Text → Rule = λ l. record { verbs = b.verbs; groups = l; resources = a.resources; resource_names = a.resource_names; urls = a.urls } in
    let with_resources : List Text → Rule = λ l. record { verbs = b.verbs; groups = b.groups; resources = l; resource_names = a.resource_names; urls = a.urls } in
    let with_names : List Text → Rule = λ l. record { verbs = b.verbs; groups = b.groups; resources = b.resources; resource_names = l; urls = a.urls } in
    let with_urls : List Text → Rule = λ l. record { verbs = b.verbs; groups = b.groups; resources = b.resources; resource_names = b.resource_names; urls = l } in
    ap with_verbs verbs ∙ ap with_groups groups ∙ ap with_resources resources ∙ ap with_names names ∙ ap with_urls urls

module _ (p : PolicyView) (steps : List Step) (few : List HoldingView) where
  can_too : (x z : NodeView) → DecideOn p steps x few IsNobody → DecideOn p steps z few IsNobody → (step : Step) (y : NodeView) → Contains steps step → IsNobody y → CanTakeOver p x step y → CanTakeOver p z step y
  can_too x z decide too step y among nobody can = (too step y among nobody).0 ((decide step y among nobody).1 can)

  takes_too : (x z : NodeView) → DecideOn p steps x few IsNobody → DecideOn p steps z few IsNobody → (y : NodeView) → MayGoOn z y → IsNobody y → TakesOver p steps x y → TakesOver p steps z y
  takes_too x z decide too y on nobody t = (
    t.0,
    record {
      goes_on = on;
      among = t.1.among;
      can = can_too x z decide too t.0 y t.1.among nobody t.1.can;
      told = λ writes untold. t.1.told writes (untold_too (HasAll p steps z) (HasAll p steps x) (BindsNode p steps z) (BindsNode p steps x)
          (λ scope w. (w.0, w.1, w.2, can_too z x too decide w.0 (EverythingIn scope) w.2 tt w.3))
          (λ v other w. (w.0, can_too z x too decide Bind v w.0 other w.1)) y untold);
    },
  )

  pub same_others : (x z : NodeView) → DecideOn p steps x few IsNobody → DecideOn p steps z few IsNobody → ((y : NodeView) → MayGoOn x y) → ((y : NodeView) → MayGoOn z y)
      → (ys : List NodeView) (js : List ℕ) → AreOthers p steps x ys js → AreOthers p steps z ys js
  same_others x z decide too on goes ys js of j = (
    λ c. (let o = (of j).0 c in (o.0, o.1, o.2, takes_too x z decide too o.0 (goes o.0) o.2 o.3)),
    λ o. (of j).1 (o.0, o.1, o.2, takes_too z x too decide o.0 (on o.0) o.2 o.3),
  )

-- ---- one node more

module _ (p : PolicyView) (steps : List Step) (ys : List NodeView) (count : ℕ) (o : OthersTakenView) (taken : AreTaken p steps ys count o) (z : NodeView) (here : slice_get ys count ≡ Some z)
    (few : List HoldingView) (decide : DecideOn p steps z few IsNobody) where
  abbrev Has : ℕ → List ℕ → Type 0
  Has k js = (y : NodeView) → slice_get ys k ≡ Some y → AreOthers p steps y ys js

  has : (js : List ℕ) → AreOthers p steps z ys js → Has count js
  has js are y there = subst (λ (x : NodeView). AreOthers p steps x ys js) (same_Some z y (sym here ∙ there)) are

  with_lists : (lists : List (List ℕ)) (places : List ℕ) → AreShared ℕ Has (count + 1) lists places → AreTaken p steps ys (count + 1) (record { overs = o.overs ++ few ∷ []; lists = lists; places = places })
  with_lists lists places shared = record {
    len = length_push o.overs few ∙ ap (λ (n : ℕ). n + 1) taken.len;
    decide = pushed (λ k y hs. DecideOn p steps y hs IsNobody) ys [] o.overs few count taken.len taken.decide (λ y there. subst (λ (x : NodeView). DecideOn p steps x few IsNobody) (same_Some z y (sym here ∙ there)) decide);
    others = shared;
  }

  -- with a list of its own
  pub taken_new : (js : List ℕ) → AreOthers p steps z ys js → AreTaken p steps ys (count + 1) (record { overs = o.overs ++ few ∷ []; lists = o.lists ++ js ∷ []; places = o.places ++ count ∷ [] })
  taken_new js are = with_lists (o.lists ++ js ∷ []) (o.places ++ count ∷ []) (shared_new ℕ Has count o.lists o.places taken.others js (has js are))

  -- with the list of a node before
  pub taken_old : (list : ℕ) (js : List ℕ) → list < count → AreOthers p steps z ys (get_or o.lists list []) → AreTaken p steps ys (count + 1) (record { overs = o.overs ++ few ∷ []; lists = o.lists ++ js ∷ []; places = o.places ++ list ∷ [] })
  taken_old list js low are = with_lists (o.lists ++ js ∷ []) (o.places ++ list ∷ []) (shared_old ℕ Has count o.lists o.places taken.others list js low (has (get_or o.lists list []) are))
