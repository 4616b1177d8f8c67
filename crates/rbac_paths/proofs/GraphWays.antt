-- The paths between nodes are the ways through the graph of the nodes.
use Rattle.std.proofs.Common.{◌≡◌, ◌≢◌, ◌∙◌, ◌<◌, ◌+◌, ◌↔◌, ℕ, zero, suc, List, MatchOption, None, Option, Some, Contains, AllPairs, slice_get, length, ap, ap₂, arith, inl, inr, refl, subst, sym}
use Rattle.std.specs.Prelude.{get_or}
use Rattle.std.specs.Ordering.{ordering_reverse}
use Rattle.std.specs.declared.cmp.Ordering.TheVariants.{Less, Greater}
use Rattle.std.proofs.Math.ListN.{get_or-eq_default}
use Rattle.std.proofs.lemmas.Bool.{cases_lt}
use Rattle.std.proofs.lemmas.Cmp.{nat_list_cmp_total}
use Rattle.std.proofs.lemmas.Option.{same_Some, slice_get_within, slice_get-get_or, get_or_from_slice_get}
use Rattle.rbac_terms.specs.Text.{text_cmp}
use Rattle.rbac_ways.specs.Ways.{AreStops, GraphView, IsEdge, IsLeastBefore, IsNearest, IsReachedIn, IsStop}
use Rattle.rbac_ways.specs.declared.graph.Stop.{Stop}
use Rattle.rbac_paths.specs.NodeLists.{node_text}
use Rattle.rbac_paths.specs.Nodes.{EverythingIn, NodeView}
use Rattle.rbac_paths.specs.Paths.{IsBeforeOn, IsFewest, LeadsTo}

-- a node at a place is in the list, and each node in the list has a place
pub among : (ys : List NodeView) (j : ℕ) (y : NodeView) → slice_get ys j ≡ Some y → Contains ys y
among ys j y at = (j, slice_get_within ys j y at, get_or_from_slice_get ys j y y at)

at_place : (ys : List NodeView) (y : NodeView) → Contains ys y → (j : ℕ) × (slice_get ys j ≡ Some y)
at_place ys y (j, low, is) = (j, slice_get-get_or ys j y low ∙ ap (λ (v : NodeView). Some v) is)

at_low : (ys : List NodeView) (j : ℕ) (y : NodeView) → j < length ys → (z : NodeView) × (slice_get ys j ≡ Some z)
at_low ys j y low = (get_or ys j y, slice_get-get_or ys j y low)

-- no node is printed before itself, and no two nodes are each printed before the other
irreflexive : (y : NodeView) → text_cmp (node_text y) (node_text y) ≡ Less → ⊥
irreflexive y less = let both : Less ≡ Greater = sym less ∙ nat_list_cmp_total.antisymm (node_text y) (node_text y) ∙ ap ordering_reverse less in cc

both_less : (x y : NodeView) → text_cmp (node_text x) (node_text y) ≡ Less → text_cmp (node_text y) (node_text x) ≡ Less → ⊥
both_less x y less more = irreflexive x (nat_list_cmp_total.trans (node_text x) (node_text y) (node_text x) less more)

-- the graph of these nodes by their steps, with the places of the nodes that are starts; steps that lead to a node that fits pass through such nodes alone, and these are among the nodes
pub record IsGraphBy (GoesTo : NodeView → NodeView → Type 0) (IsStart Fits : NodeView → Type 0) (ys : List NodeView) (g : GraphView) (starts : List ℕ) : Type 0 where
  pub len : length g.takes ≡ length ys
  pub edges : (i j : ℕ) (x y : NodeView) → slice_get ys i ≡ Some x → slice_get ys j ≡ Some y → IsEdge g i j ↔ GoesTo x y
  pub start_at : (j : ℕ) (y : NodeView) → slice_get ys j ≡ Some y → Contains starts j ↔ IsStart y
  pub start_in : (y : NodeView) → Fits y → IsStart y → Contains ys y
  pub fits : (y : NodeView) → Contains ys y → Fits y
  pub back : (x y : NodeView) → Fits y → GoesTo x y → Fits x
  pub closed : (x y : NodeView) → Fits y → Contains ys x → GoesTo x y → Contains ys y
  pub ordered : AllPairs (λ y z. text_cmp (node_text y) (node_text z) ≡ Less) ys

module _ (GoesTo : NodeView → NodeView → Type 0) (IsStart Fits : NodeView → Type 0) (ys : List NodeView) (g : GraphView) (starts : List ℕ) (of : IsGraphBy GoesTo IsStart Fits ys g starts) where
  within : (n j : ℕ) → IsReachedIn g starts n j → j < length ys
  within zero j (h, low) = subst (λ (k : ℕ). j < k) of.len low
  within (suc n) j (i, r, edge) = subst (λ (k : ℕ). j < k) of.len edge.node

  pub leads : (n j : ℕ) (y : NodeView) → slice_get ys j ≡ Some y → IsReachedIn g starts n j → LeadsTo GoesTo IsStart n y
  leads zero j y here (h, low) = (of.start_at j y here).0 h
  leads (suc n) j y here (i, r, edge) =
      let m = at_low ys i y (within n i r) in
      (m.0, leads n i m.0 m.1 r, (of.edges i j m.0 y m.1 here).0 edge)

  pub reached : (n : ℕ) (y : NodeView) → Fits y → LeadsTo GoesTo IsStart n y → (j : ℕ) × (slice_get ys j ≡ Some y) × IsReachedIn g starts n j
  reached zero y fits start =
      let j = at_place ys y (of.start_in y fits start) in
      (j.0, j.1, ((of.start_at j.0 y j.1).1 start, subst (λ (k : ℕ). j.0 < k) (sym of.len) (slice_get_within ys j.0 y j.1)))
  reached (suc n) y fits (m, l, goes) =
      let r = reached n m (of.back m y fits goes) l in
      let there = at_place ys y (of.closed m y fits (among ys r.0 m r.1) goes) in
      (there.0, there.1, (r.0, r.2, (of.edges r.0 there.0 m y r.1 there.1).1 goes))

  -- places are in the order in which nodes are printed, so each node has one place
  is_less : (i j : ℕ) (x y : NodeView) → slice_get ys i ≡ Some x → slice_get ys j ≡ Some y → i < j → text_cmp (node_text x) (node_text y) ≡ Less
  is_less i j x y at there low =
      ap₂ (λ (a : NodeView) (b : NodeView). text_cmp (node_text a) (node_text b)) (sym (get_or_from_slice_get ys i x x at)) (sym (get_or_from_slice_get ys j y x there)) ∙ of.ordered i j x low (slice_get_within ys j y there)

  one_place : (i j : ℕ) (y : NodeView) → slice_get ys i ≡ Some y → slice_get ys j ≡ Some y → i ≡ j
  one_place i j y at there = elim (cases_lt i j) [
    | inl low ↦ absurd (irreflexive y (is_less i j y y at there low))
    | inr high ↦ (elim (cases_lt j i) [
      | inl low ↦ absurd (irreflexive y (is_less j i y y there at low))
      | inr same ↦ omega (arith, high, same)
    ])
  ]

  reached_at : (n j : ℕ) (y : NodeView) → slice_get ys j ≡ Some y → LeadsTo GoesTo IsStart n y → IsReachedIn g starts n j
  reached_at n j y at l = let r = reached n y (of.fits y (among ys j y at)) l in subst (λ (i : ℕ). IsReachedIn g starts n i) (one_place r.0 j y r.1 at) r.2

  -- the least number of edges is the least number of steps
  fewest : (n j : ℕ) (y : NodeView) → slice_get ys j ≡ Some y → IsNearest g starts n j → IsFewest GoesTo IsStart n y
  fewest n j y at near = record { leads = leads n j y at near.leads; fewest = λ k low l. near.fewest k low (reached_at k j y at l) }

  nearest : (n j : ℕ) (y : NodeView) → slice_get ys j ≡ Some y → IsFewest GoesTo IsStart n y → IsNearest g starts n j
  nearest n j y at few = record { leads = reached_at n j y at few.leads; fewest = λ k low r. few.fewest k low (leads k j y at r) }

  -- the least place before a node's place is that of the first node before it as printed
  before : (n j b : ℕ) (y x : NodeView) → slice_get ys j ≡ Some y → slice_get ys b ≡ Some x → IsLeastBefore g starts (suc n) j b → IsBeforeOn GoesTo IsStart n y x
  before n j b y x at there least = record {
    fewest = fewest n b x there least.0;
    goes = (of.edges b j x y there at).0 least.1;
    first = λ m less few goes. (
        let r = reached n m (of.back m y (of.fits y (among ys j y at)) goes) few.leads in
        let low : r.0 < b = elim (cases_lt r.0 b) [
          | inl low ↦ low
          | inr high ↦ absurd (elim (cases_lt b r.0) [
            | inl more ↦ both_less m x less (is_less b r.0 x m there r.1 more)
            | inr same ↦ irreflexive m (subst (λ (v : NodeView). text_cmp (node_text m) (node_text v) ≡ Less) (same_Some x m (sym there ∙ ap (slice_get ys) (let is : b ≡ r.0 = omega (arith, high, same) in is) ∙ r.1)) less)
          ])
        ] in
        least.2 r.0 low (nearest n r.0 m r.1 few) ((of.edges r.0 j m y r.1 at).1 goes)
        );
  }

  -- ---- what the stops of a search show

  module _ (stops : List (Option Stop)) (found : AreStops g starts stops) where
    pub stop_is : (j : ℕ) (s : Stop) → get_or stops j None ≡ Some s → IsStop g starts j s
    stop_is j s at = elim (cases_lt j (length stops)) [
      | inl low ↦ subst (λ (o : Option Stop). MatchOption o ((n : ℕ) → IsReachedIn g starts n j → ⊥) (IsStop g starts j)) at (found.each j low)
      | inr past ↦ absurd (let both : None ≡ Some s = sym (get_or-eq_default stops None past) ∙ at in cc)
    ]

    -- a node to which steps lead has a stop
    pub stop_at : (n j : ℕ) (y : NodeView) → slice_get ys j ≡ Some y → LeadsTo GoesTo IsStart n y → (s : Stop) × (get_or stops j None ≡ Some s)
    stop_at n j y at l =
        let way = reached_at n j y at l in
        let low : j < length stops = (let inside = within n j way in let nodes = of.len in let len = found.len in omega (arith, inside, nodes, len)) in
        read (get_or stops j None) (found.each j low)
      where
        read : (o : Option Stop) → MatchOption o ((k : ℕ) → IsReachedIn g starts k j → ⊥) (IsStop g starts j) → (s : Stop) × (o ≡ Some s)
        read None none = absurd (none n (reached_at n j y at l))
        read (Some s) is = (s, refl)

    module _ (j : ℕ) (s : Stop) (at : get_or stops j None ≡ Some s) where
      pub node_here : j < length ys
      node_here = within s.edges j (stop_is j s at).nearest.leads

      one_less : s.edges ≢ 0 → (m : ℕ) × (s.edges ≡ m + 1) × IsLeastBefore g starts (suc m) j s.before
      one_less led = less s.edges led (stop_is j s at).before
        where
          less : (n : ℕ) → n ≢ 0 → IsLeastBefore g starts n j s.before → (m : ℕ) × (n ≡ m + 1) × IsLeastBefore g starts (suc m) j s.before
          less zero differ is = absurd (differ refl)
          less (suc m) differ is = (m, omega arith, is)

      -- a step goes from the node before to the node
      pub step_here : s.edges ≢ 0 → (x y : NodeView) × (slice_get ys s.before ≡ Some x) × (slice_get ys j ≡ Some y) × GoesTo x y
      step_here led =
          let (m, count, least) = one_less led in
          let x = at_low ys s.before (EverythingIn None) (within m s.before least.0.leads) in
          let y = at_low ys j (EverythingIn None) node_here in
          (x.0, y.0, x.1, y.1, (of.edges s.before j x.0 y.0 x.1 y.1).0 least.1)

      pub fewest_here : (y : NodeView) → slice_get ys j ≡ Some y → IsFewest GoesTo IsStart s.edges y
      fewest_here y here = fewest s.edges j y here (stop_is j s at).nearest

      pub before_here : (y x : NodeView) → slice_get ys j ≡ Some y → slice_get ys s.before ≡ Some x → s.edges ≢ 0 → (m : ℕ) × (s.edges ≡ m + 1) × IsBeforeOn GoesTo IsStart m y x
      before_here y x here there led = let (m, count, least) = one_less led in (m, count, before m j s.before y x here there least)

      pub before_low : s.before < length ys
      before_low = low s.edges refl
        where
          low : (n : ℕ) → s.edges ≡ n → s.before < length ys
          low zero none = subst (λ (k : ℕ). k < length ys) (sym (subst (λ (n : ℕ). IsLeastBefore g starts n j s.before) none (stop_is j s at).before)) node_here
          low (suc n) more = within n s.before (subst (λ (n : ℕ). IsLeastBefore g starts n j s.before) more (stop_is j s at).before).0.leads
