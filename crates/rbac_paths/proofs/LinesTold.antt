-- Lines of paths and ways, listed one after another by where their nodes are on shortest ways.
use Rattle.std.proofs.Common.{◌≡◌, ◌≢◌, ◌↔◌, ◌∙◌, ◌<◌, ◌+◌, ◌++◌, ◌⊎◌, ℕ, List, [], ◌∷◌, Option, MatchOption, None, Some, AllPairs, Contains, IsSome, ap, ap₂, arith, get_or, inl, inr, length, refl, slice_get, subst, sym, take}
use Rattle.std.specs.declared.cmp.Ordering.TheVariants.{Less}
use Rattle.std.proofs.lemmas.Bool.{cases_eq}
use Rattle.std.proofs.lemmas.List.{get_or_default, get_or-take, length-take}
use Rattle.std.proofs.lemmas.List.Elements.{Contains-append_left, Contains-push, Contains-push_cases}
use Rattle.std.proofs.lemmas.List.Quantifiers.{all_pairs_push}
use Rattle.std.proofs.lemmas.Option.{get_or_from_slice_get, same_Some, slice_get_within}
use Rattle.rbac_terms.specs.Text.{text_cmp}
use Rattle.rbac_model.proofs.LabelSets.{any_push}
use Rattle.rbac_model.specs.Policies.{PolicyView}
use Rattle.rbac_ways.specs.Ways.{AreInOrder, IsMetBefore}
use Rattle.rbac_ways.specs.declared.graph.Stop.{Stop}
use Rattle.rbac_paths.specs.Joints.{DecidesOf, DecidingView, IsDeciding}
use Rattle.rbac_paths.specs.NodeLists.{node_text}
use Rattle.rbac_paths.specs.Nodes.{NodeView, node_of}
use Rattle.rbac_paths.specs.TakingOver.{TakesOver}
use Rattle.rbac_paths.specs.Tracing.{Along, AreToldAt, IsAt, IsLineAt, IsLineOf, IsPassed, IsUnlisted, TakesAt, taker}
use Rattle.rbac_paths.specs.WaysTo.{IsShorter, WayView}
use Rattle.rbac_paths.specs.declared.access.Access.{Access}
use Rattle.rbac_paths.specs.declared.node.Node.{Node}
use Rattle.rbac_paths.specs.declared.tracing.Direction.{Direction}
use Rattle.rbac_paths.specs.declared.tracing.Direction.TheVariants as toward
use Rattle.rbac_steps.specs.declared.steps.Step.{Step}

-- ---- places below a bound, one after another

abbrev pub AreBelow : (ℕ → Type 0) → ℕ → List ℕ → Type 0
AreBelow P bound js = (j : ℕ) → Contains js j ↔ ((j < bound) × P j)

module _ (P : ℕ → Type 0) where
  pub below_none : (js : List ℕ) → js ≡ [] → AreBelow P 0 js
  below_none js empty j = (
    λ c. absurd (let low = (subst (λ (ks : List ℕ). Contains ks j) empty c).1 in omega (arith, low)),
    λ w. absurd (let low = w.0 in omega (arith, low)),
  )

  module _ (place : ℕ) (js : List ℕ) (below : AreBelow P place js) where
    pub below_more : P place → AreBelow P (place + 1) (js ++ place ∷ [])
    below_more is j = (
      λ c. elim (Contains-push_cases js place j c) [
        | inl old ↦ (let w = (below j).0 old in (let low = w.0 in omega (arith, low), w.1))
        | inr same ↦ (omega (arith, same), subst P same is)
      ],
      λ w. elim (cases_eq j place) [
        | inl same ↦ subst (λ (k : ℕ). Contains (js ++ place ∷ []) k) (sym same) (Contains-push js place)
        | inr other ↦ Contains-append_left js (place ∷ []) j ((below j).1 (let low = w.0 in omega (arith, low, other), w.1))
      ],
    )

    pub below_same : (P place → ⊥) → AreBelow P (place + 1) js
    below_same none j = (
      λ c. (let w = (below j).0 c in (let low = w.0 in omega (arith, low), w.1)),
      λ w. elim (cases_eq j place) [
        | inl same ↦ absurd (none (subst P same w.1))
        | inr other ↦ (below j).1 (let low = w.0 in omega (arith, low, other), w.1)
      ],
    )

  pub all_below : (bound : ℕ) (js : List ℕ) → ((j : ℕ) → P j → j < bound) → AreBelow P bound js → (j : ℕ) → Contains js j ↔ P j
  all_below bound js within below j = (λ c. ((below j).0 c).1, λ is. (below j).1 (within j is, is))

-- if a place has a node with the property, the node at that place has the property
pub is_here : (Is : NodeView → Type 0) (ys : List NodeView) (j : ℕ) (y : NodeView) → slice_get ys j ≡ Some y → IsAt Is ys j → Is y
is_here Is ys j y at has = subst Is (same_Some has.0 y (sym has.1 ∙ at)) has.2

-- what a match says of an option without a value, and of one with a value
pub matched_none : {X : Type 0} (o : Option X) (N : Type 0) (P : X → Type 0) → ((x : X) → o ≡ Some x → ⊥) → MatchOption o N P → N
matched_none None N P none m = m
matched_none (Some x) N P none m = absurd (none x refl)

pub matched_some : {X : Type 0} (o : Option X) (N : Type 0) (P : X → Type 0) (x : X) → o ≡ Some x → MatchOption o N P → P x
matched_some {X = X} o N P x is m = subst (λ (v : Option X). MatchOption v N P) is m

-- ---- one line

-- what holds of both nodes, or of both places, holds of the one that takes the step
pub taker_has : {A : Type 0} (d : Direction) (P : A → Type 0) (x y : A) → P x → P y → P (taker d x y)
taker_has toward.On P x y before here = before
taker_has (toward.Back asked) P x y before here = here

pub taker_at : (d : Direction) (ys : List NodeView) (i j : ℕ) (x y : NodeView) → slice_get ys i ≡ Some x → slice_get ys j ≡ Some y → slice_get ys (taker d i j) ≡ Some (taker d x y)
taker_at toward.On ys i j x y before here = before
taker_at (toward.Back asked) ys i j x y before here = here

pub taker_of : (d : Direction) (x y : Node) → node_of (taker d x y) ≡ taker d (node_of x) (node_of y)
taker_of toward.On x y = refl
taker_of (toward.Back asked) x y = refl

pub unlisted : (d : Direction) (s : Stop) → s.edges ≡ 0 → ((asked : Access) → d ≡ toward.Back asked → ⊥) → IsUnlisted d s
unlisted toward.On s none on = none
unlisted (toward.Back asked) s none on = absurd (on asked refl)

-- what is listed at a place with no stop, and at one with a stop
pub passed_none : (d : Direction) (come stops : List (Option Stop)) (j : ℕ) → (get_or come j None ≡ None) ⊎ (get_or stops j None ≡ None) → IsPassed d come stops j
passed_none d come stops j (inl none) = inl none
passed_none d come stops j (inr none) = inr (λ s at. absurd (let both : None ≡ Some s = sym none ∙ at in cc))

pub line_there : (d : Direction) (p : PolicyView) (steps : List Step) (ys : List NodeView) (come stops : List (Option Stop)) (j : ℕ) (s : Stop) → IsSome (get_or come j None) → get_or stops j None ≡ Some s
    → (o : Option WayView) → MatchOption o (IsUnlisted d s) (IsLineOf d p steps ys s j) → MatchOption o (IsPassed d come stops j) (IsLineAt d p steps ys come stops j)
line_there d p steps ys come stops j s met at None un = inr (λ t that. subst (IsUnlisted d) (same_Some s t (sym at ∙ that)) un)
line_there d p steps ys come stops j s met at (Some x) is = (met, (s, at, is))

module _ (p : PolicyView) (steps : List Step) (ys : List NodeView) where
  takes_both : (i j : ℕ) (x y : NodeView) → slice_get ys i ≡ Some x → slice_get ys j ≡ Some y → TakesAt p steps ys i j → TakesOver p steps x y
  takes_both i j x y at there w =
      subst (λ (z : NodeView). TakesOver p steps z y) (same_Some w.0 x (sym w.2 ∙ at)) (subst (λ (z : NodeView). TakesOver p steps w.0 z) (same_Some w.1 y (sym w.3 ∙ there)) w.4)

  -- one of the nodes takes over the other
  pub takes_along : (d : Direction) (i j : ℕ) (x y : NodeView) → slice_get ys i ≡ Some x → slice_get ys j ≡ Some y → Along d (TakesAt p steps ys) i j → Along d (TakesOver p steps) x y
  takes_along toward.On i j x y before here takes = takes_both i j x y before here takes
  takes_along (toward.Back asked) i j x y before here takes = takes_both j i y x here before takes

  -- what decides about the one node at its place
  pub deciding_there : (k : DecidingView) (at : ℕ) (x : NodeView) → slice_get ys at ≡ Some x → k.place ≡ at → DecidesOf p steps x k → IsDeciding p steps ys k
  deciding_there k at x here same of = λ y there. subst (λ (z : NodeView). DecidesOf p steps z k) (same_Some x y (sym here ∙ subst (λ (i : ℕ). slice_get ys i ≡ Some y) same there)) of

  -- a node that is met before another has its line before
  module _ (up : AllPairs (λ y z. text_cmp (node_text y) (node_text z) ≡ Less) ys) (d : Direction) (come stops : List (Option Stop)) where
    pub shorter : (i j : ℕ) (x y : WayView) → IsMetBefore stops i j → IsLineAt d p steps ys come stops i x → IsLineAt d p steps ys come stops j y → IsShorter x y
    shorter i j x y (v, w, first, second, before) (met, (s, at, a)) (also, (t, there, b)) =
        let one : x.count ≡ v.edges = a.count ∙ ap (λ (r : Stop). r.edges) (same_Some s v (sym at ∙ first)) in
        let two : y.count ≡ w.edges = b.count ∙ ap (λ (r : Stop). r.edges) (same_Some t w (sym there ∙ second)) in
        elim before [
          | inl fewer ↦ inl (omega (arith, fewer, one, two))
          | inr (same, low) ↦ inr (one ∙ same ∙ sym two, ap₂ (λ (a : NodeView) (b : NodeView). text_cmp (node_text a) (node_text b)) (sym (get_or_from_slice_get ys i x.node x.node a.node)) (sym (get_or_from_slice_get ys j y.node x.node b.node)) ∙ up i j x.node low (slice_get_within ys j y.node b.node))
        ]

-- what is listed at places, one after another
module _ {X : Type 0} (IsAt : ℕ → X → Type 0) (IsPassed : ℕ → Type 0) (ComesBefore : X → X → Type 0) where
  pub told_none : (xs : List X) → xs ≡ [] → AreToldAt IsAt IsPassed ComesBefore [] xs
  told_none xs empty = record {
    each = λ x c. absurd (let low = (subst (λ (zs : List X). Contains zs x) empty c).1 in omega (arith, low));
    has = λ j c. absurd (let low = c.1 in omega (arith, low));
    ordered = λ i j d low within. absurd (let len = ap length empty in omega (arith, low, within, len));
  }

  module _ (places : List ℕ) (place : ℕ) (xs : List X) (are : AreToldAt IsAt IsPassed ComesBefore places xs) where
    each_before : (x : X) → Contains xs x → (j : ℕ) × Contains (places ++ place ∷ []) j × IsAt j x
    each_before x c = let w = are.each x c in (w.0, Contains-append_left places (place ∷ []) w.0 w.1, w.2)

    pub told_same : IsPassed place → AreToldAt IsAt IsPassed ComesBefore (places ++ place ∷ []) xs
    told_same passed = record {
      each = each_before;
      has = λ j c. elim (Contains-push_cases places place j c) [
        | inl old ↦ are.has j old
        | inr same ↦ inl (subst IsPassed same passed)
      ];
      ordered = are.ordered;
    }

    pub told_more : (x : X) → IsAt place x → ((j : ℕ) (z : X) → Contains places j → IsAt j z → ComesBefore z x) → AreToldAt IsAt IsPassed ComesBefore (places ++ place ∷ []) (xs ++ x ∷ [])
    told_more x is later = record {
      each = λ z c. elim (Contains-push_cases xs x z c) [
        | inl old ↦ each_before z old
        | inr same ↦ (place, Contains-push places place, subst (IsAt place) same is)
      ];
      has = λ j c. elim (Contains-push_cases places place j c) [
        | inl old ↦ (elim (are.has j old) [ inl passed ↦ inl passed | inr some ↦ inr ((any_push (IsAt j) xs x).1 (inl some)) ])
        | inr same ↦ inr ((any_push (IsAt j) xs x).1 (inr (subst (λ (k : ℕ). IsAt k x) same is)))
      ];
      ordered = all_pairs_push ComesBefore xs x are.ordered (λ k d low.
          let w = are.each (get_or xs k d) (k, low, get_or_default xs k (get_or xs k d) d low) in
          later w.0 (get_or xs k d) w.1 w.2);
    }

-- each node that is earlier in the order is met before the node at place i
pub met_before : (stops : List (Option Stop)) (order : List ℕ) → AreInOrder stops order → (i place : ℕ) → i < length order → place ≡ get_or order i place → (j : ℕ) → Contains (take i order) j → IsMetBefore stops j place
met_before stops order are i place low is j c =
    let len = length-take i order in
    let under : c.0 < i = omega (arith, c.1, len, low) in
    let here : get_or order c.0 j ≡ j = sym (get_or-take i order c.0 j under) ∙ c.2 in
    let first : get_or order c.0 place ≡ j = get_or_default order c.0 place j (omega (arith, under, low)) ∙ here in
    subst (λ (k : ℕ). IsMetBefore stops k place) first (subst (λ (k : ℕ). IsMetBefore stops (get_or order c.0 place) k) (sym is) (are.ordered c.0 i place under low))
