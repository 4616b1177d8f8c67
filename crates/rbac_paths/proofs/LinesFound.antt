-- A search of the graph of nodes finds exactly the paths from a principal, and a search back exactly
-- the ways to a request.
use Rattle.std.proofs.Common.{◌≡◌, ◌≢◌, ◌↔◌, ◌∙◌, ◌+◌, ℕ, zero, suc, List, [], ◌∷◌, MatchOption, Option, None, Some, IsSome, All, AllPairs, Any, Contains, arith, ap, get_or, inl, inr, length, refl, slice_get, subst, sym}
use Rattle.std.specs.List.{cons_option, filter_map}
use Rattle.std.specs.Option.{option_map}
use Rattle.std.proofs.lemmas.List.{get_or_default}
use Rattle.std.proofs.lemmas.List.Elements.{Contains-get_or}
use Rattle.std.proofs.lemmas.List.Kept.{AllPairs-cons}
use Rattle.std.proofs.lemmas.Option.{same_Some}
use Rattle.rbac_terms.specs.Principals.{Who, who_key}
use Rattle.rbac_model.specs.Policies.{PolicyView}
use Rattle.rbac_model.proofs.OwnWords.{any_from}
use Rattle.rbac_model.proofs.SubjectPrincipals.{pickable, picked}
use Rattle.rbac_ways.specs.Ways.{AreStops, GraphView, IsEdge, IsReachedIn}
use Rattle.rbac_ways.specs.declared.graph.Stop.{Stop}
use Rattle.rbac_paths.specs.Access.{AllowsAccess, access_of}
use Rattle.rbac_paths.specs.NodeLists.{IsNode}
use Rattle.rbac_paths.specs.Nodes.{NodeView, Somebody, ClusterRoleIn, OwnRole, EverythingIn}
use Rattle.rbac_paths.specs.Paths.{ArePaths, GoesTo, IsBeforeOn, IsFewest, IsGraphOf, IsNearer, IsPath, LeadsTo, PathView}
use Rattle.rbac_paths.specs.Principals.{IsOneWith}
use Rattle.rbac_paths.specs.Searching.{AreEnough}
use Rattle.rbac_paths.specs.Seeking.{HasKeyOf, IsSomebody}
use Rattle.rbac_paths.specs.TakingOver.{TakesOver}
use Rattle.rbac_paths.specs.Tracing.{Along, AreLinked, AreTraced, BeginsAt, BeginsBy, IsAt, IsFrom, IsLineAt, IsLineOf, IsTold, IsUnlisted, TakesAt, path_by}
use Rattle.rbac_paths.specs.WaysTo.{AreWays, GoesBack, IsComeTo, IsOnward, IsPrincipal, IsShorter, IsWayOn, NextView, WayView}
use Rattle.rbac_paths.specs.declared.access.Access.{Access}
use Rattle.rbac_paths.specs.declared.tracing.Direction.{Direction}
use Rattle.rbac_paths.specs.declared.tracing.Direction.TheVariants as toward
use Rattle.rbac_steps.specs.declared.steps.Step.{Step}
use Rattle.rbac_paths.proofs.GraphWays.{IsGraphBy, among, before_here, before_low, fewest_here, node_here, reached, step_here, stop_at, stop_is}
use Rattle.rbac_paths.proofs.LinesTold.{is_here}

-- ---- in either direction

module _ (d : Direction) (p : PolicyView) (steps : List Step) (ys : List NodeView) (R : NodeView → NodeView → Type 0) (S Fits : NodeView → Type 0) (g : GraphView) (starts : List ℕ) (of : IsGraphBy R S Fits ys g starts) (stops : List (Option Stop)) (found : AreStops g starts stops) where
  linked_by : ((x y : NodeView) → R x y → Along d (TakesOver p steps) x y) → ((j : ℕ) → Contains starts j → BeginsAt d p ys j) → AreLinked d p steps ys stops
  linked_by to begins j s at = record {
    here = node_here R S Fits ys g starts of stops found j s at;
    before = before_low R S Fits ys g starts of stops found j s at;
    takes = λ led. (let (x, y, before, here, goes) = step_here R S Fits ys g starts of stops found j s at led in at_places d x y before here (to x y goes));
    begins = λ none. begins j (subst (λ (n : ℕ). IsReachedIn g starts n j) none (stop_is R S Fits ys g starts of stops found j s at).nearest.leads).0;
  }
    where
      at_places : (d : Direction) (x y : NodeView) → slice_get ys s.before ≡ Some x → slice_get ys j ≡ Some y → Along d (TakesOver p steps) x y → Along d (TakesAt p steps ys) s.before j
      at_places toward.On x y before here takes = (x, y, before, here, takes)
      at_places (toward.Back asked) x y before here takes = (y, x, here, before, takes)

  -- what a line shows: the fewest steps, and the first of the nodes before
  abbrev Follows : WayView → NextView → Type 0
  Follows x next = (m : ℕ) × (x.count ≡ m + 1) × IsBeforeOn R S m x.node next.node × Along d (IsTold p steps next.step x.reason) next.node x.node

  module _ (j : ℕ) (s : Stop) (at : get_or stops j None ≡ Some s) (x : WayView) (is : IsLineOf d p steps ys s j x) where
    fewest_of : IsFewest R S x.count x.node
    fewest_of = subst (λ (n : ℕ). IsFewest R S n x.node) (sym is.count) (fewest_here R S Fits ys g starts of stops found j s at x.node is.node)

    next_of : (o : Option NextView) → MatchOption o ((s.edges ≡ 0) × BeginsBy d p x.node x.reason) (λ next. (s.edges ≢ 0) × (slice_get ys s.before ≡ Some next.node) × Along d (IsTold p steps next.step x.reason) next.node x.node)
        → MatchOption o ((x.count ≡ 0) × BeginsBy d p x.node x.reason) (Follows x)
    next_of None (none, by) = (is.count ∙ none, by)
    next_of (Some next) (led, there, told) =
        let (m, count, before) = before_here R S Fits ys g starts of stops found j s at x.node next.node is.node there led in (m, is.count ∙ count, before, told)

  -- each node to which steps lead has a line, unless it isn't to be listed
  module _ (come : List (Option Stop)) (order : List ℕ) (exact : (j : ℕ) → Contains order j ↔ IsSome (get_or stops j None)) (lines : List WayView) (traced : AreTraced d p steps ys come stops order lines) where
    some_line : (n j : ℕ) (y : NodeView) → slice_get ys j ≡ Some y → ((s : Stop) → get_or stops j None ≡ Some s → IsSome (get_or come j None)) → LeadsTo R S n y → ((s : Stop) → get_or stops j None ≡ Some s → IsUnlisted d s → ⊥) → Any (λ x. x.node ≡ y) lines
    some_line n j y at come_there l listed =
        let (s, there) = stop_at R S Fits ys g starts of stops found n j y at l in
        elim (traced.has j ((exact j).1 (subst (λ (o : Option Stop). IsSome o) (sym there) refl))) [
          | inl (inl none) ↦ absurd (let both = subst (λ (o : Option Stop). IsSome o) none (come_there s there) in cc)
          | inl (inr un) ↦ absurd (listed s there (un s there))
          | inr (k, x, low, is, (met, (t, that, line))) ↦ (k, x, low, is, same_Some x.node y (sym line.node ∙ at))
        ]

-- ---- the two graphs

module _ (p : PolicyView) (all : List Who) (steps : List Step) (ys : List NodeView) (enough : AreEnough p all steps ys) (g : GraphView) (graph : IsGraphOf p steps ys g) where
  on_graph : (Is S : NodeView → Type 0) → ((y : NodeView) → IsNode p all y → Is y ↔ S y) → ((y : NodeView) → S y → Contains ys y) → (starts : List ℕ) → ((j : ℕ) → Contains starts j ↔ IsAt Is ys j) → IsGraphBy (GoesTo p all steps) S (λ y. Unit {0}) ys g starts
  on_graph Is S same start_in starts exact = record {
    len = graph.len;
    edges = λ i j x y at there. (λ e. (enough.nodes y (among ys j y there), (graph.edges i j x y at there).0 e), λ goes. (graph.edges i j x y at there).1 goes.1);
    start_at = λ j y at. (let alike = same y (enough.nodes y (among ys j y at)) in (λ c. alike.0 (is_here Is ys j y at ((exact j).0 c)), λ is. (exact j).1 (y, at, alike.1 is)));
    start_in = λ y fits is. start_in y is;
    fits = λ y c. tt;
    back = λ x y fits goes. tt;
    closed = λ x y fits c goes. enough.closed x y c goes;
    ordered = enough.ordered;
  }

  back_graph : (S : NodeView → Type 0) (back : GraphView) → length back.takes ≡ length g.takes → ((i j : ℕ) → IsEdge back i j ↔ IsEdge g j i) → (ends : List ℕ) → ((j : ℕ) → Contains ends j ↔ IsAt S ys j) → IsGraphBy (GoesBack p all steps) S (Contains ys) ys back ends
  back_graph S back len turned ends exact = record {
    len = len ∙ graph.len;
    edges = λ i j x y at there. (λ e. (enough.nodes x (among ys i x at), (graph.edges j i y x there at).0 ((turned i j).0 e)), λ goes. (turned i j).1 ((graph.edges j i y x there at).1 goes.1));
    start_at = λ j y at. (λ c. is_here S ys j y at ((exact j).0 c), λ is. (exact j).1 (y, at, is));
    start_in = λ y c is. c;
    fits = λ y c. c;
    back = λ x y c goes. enough.closed y x c goes;
    closed = λ x y c has goes. c;
    ordered = enough.ordered;
  }

-- ---- paths

-- what holds of each pair of elements holds of what is picked from them
pairs_picked : {X Y : Type 0} (h : X → Option Y) (Q : X → X → Type 0) (R : Y → Y → Type 0) → ((l m : X) (x y : Y) → h l ≡ Some x → h m ≡ Some y → Q l m → R x y) → (ls : List X) → AllPairs Q ls → AllPairs R (filter_map h ls)
pairs_picked h Q R keep [] pairs = λ i j d low within. absurd (omega (arith, within))
pairs_picked {Y = Y} h Q R keep (l ∷ ls) pairs = put (h l) refl (pairs_picked h Q R keep ls (λ i j d low within. pairs (suc i) (suc j) d (omega (arith, low)) (omega (arith, within))))
  where
    put : (o : Option Y) → h l ≡ o → AllPairs R (filter_map h ls) → AllPairs R (cons_option o (filter_map h ls))
    put None none rest = rest
    put (Some x) is rest = AllPairs-cons R x (filter_map h ls) first rest
      where
        first : All (R x) (filter_map h ls)
        first k d low =
            let y = get_or (filter_map h ls) k d in
            let (i, m, within, same, from) = picked h y ls (k, low, get_or_default (filter_map h ls) k y d low) in
            keep l m x y is from (subst (Q l) same (pairs 0 (suc i) m (omega arith) (omega (arith, within))))

module _ (p : PolicyView) (all : List Who) (steps : List Step) (ys : List NodeView) (enough : AreEnough p all steps ys) (principals : List Who) (who : Who) (exact : (other : Who) → Contains all other ↔ IsOneWith principals who other)
    (g : GraphView) (graph : IsGraphOf p steps ys g) (stops : List (Option Stop)) (order : List ℕ) (from : IsFrom (HasKeyOf who) ys g stops order) where
  abbrev Goes : NodeView → NodeView → Type 0
  Goes = GoesTo p all steps

  abbrev IsStart : NodeView → Type 0
  IsStart y = y ≡ Somebody who

  same_key : (other : Who) → IsOneWith principals who other → who_key other ≡ who_key who → other ≡ who
  same_key other (inl is) key = is
  same_key other (inr another) key = absurd (another.1 key)

  start_of : (y : NodeView) → IsNode p all y → HasKeyOf who y → IsStart y
  start_of (Somebody other) is key = ap Somebody (same_key other ((exact other).0 is) key)
  start_of (ClusterRoleIn role scope) is key = elim key [ ]
  start_of (OwnRole role) is key = elim key [ ]
  start_of (EverythingIn scope) is key = elim key [ ]

  by_graph : IsGraphBy Goes IsStart (λ y. Unit {0}) ys g from.starts
  by_graph = on_graph p all steps ys enough g graph (HasKeyOf who) IsStart (λ y is. (start_of y is, λ same. subst (HasKeyOf who) (sym same) refl)) (λ y same. subst (Contains ys) (sym same) (enough.somebody who ((exact who).1 (inl refl)))) from.starts from.exact

  pub linked : AreLinked toward.On p steps ys stops
  linked = linked_by toward.On p steps ys Goes IsStart (λ y. Unit {0}) g from.starts by_graph stops from.stops_are (λ x y goes. goes.1) (λ j c. tt)

  module _ (lines : List WayView) (traced : AreTraced toward.On p steps ys stops stops order lines) where
    abbrev Shows : WayView → Option NextView → Type 0
    Shows l o = MatchOption o ((l.count ≡ 0) × BeginsBy toward.On p l.node l.reason) (Follows toward.On p steps ys Goes IsStart (λ y. Unit {0}) g from.starts by_graph stops from.stops_are l)

    shown : (l : WayView) → Contains lines l → IsFewest Goes IsStart l.count l.node × Shows l l.next
    shown l c = let (j, has, (met, (s, at, is))) = traced.each l c in (
      fewest_of toward.On p steps ys Goes IsStart (λ y. Unit {0}) g from.starts by_graph stops from.stops_are j s at l is,
      next_of toward.On p steps ys Goes IsStart (λ y. Unit {0}) g from.starts by_graph stops from.stops_are j s at l is l.next is.next,
    )

    abbrev path : WayView → NextView → PathView
    path l next = record { count = l.count; node = l.node; before = next.node; step = next.step; reason = l.reason }

    is_path : (l : WayView) (o : Option NextView) → IsFewest Goes IsStart l.count l.node → Shows l o → (x : PathView) → option_map (path l) o ≡ Some x → IsPath p all steps (Somebody who) x
    is_path l None few shows x e = absurd shows.1
    is_path l (Some next) few (m, count, before, told) x e =
        subst (IsPath p all steps (Somebody who)) (same_Some (path l next) x e) (record { others = m; count = count; fewest = few; before = before; step = told.0; reason = told.1 })

    has_path : (l : WayView) (o : Option NextView) → l.next ≡ o → Contains lines l → Shows l o → Any (λ (x : PathView). x.node ≡ l.node) (filter_map path_by lines)
    has_path l None e c shows = absurd shows.1
    has_path l (Some next) e (k, low, is) shows =
        any_from (λ (x : PathView). x.node ≡ l.node) (filter_map path_by lines) (path l next) (pickable path_by (path l next) lines (k, l, low, is, ap (option_map (path l)) e)) refl

    complete : (n : ℕ) (y : NodeView) → y ≢ Somebody who → LeadsTo Goes IsStart n y → Any (λ (x : PathView). x.node ≡ y) (filter_map path_by lines)
    complete n y differ comes =
        let (j, at, way) = reached Goes IsStart (λ y. Unit {0}) ys g from.starts by_graph n y tt comes in
        let (k, l, low, is, same) = some_line toward.On p steps ys Goes IsStart (λ y. Unit {0}) g from.starts by_graph stops from.stops_are stops order from.ordered.exact lines traced n j y at (λ s there. subst (λ (o : Option Stop). IsSome o) (sym there) refl) comes
        (λ s there none. differ (subst (λ (m : ℕ). LeadsTo Goes IsStart m y) none (fewest_here Goes IsStart (λ y. Unit {0}) ys g from.starts by_graph stops from.stops_are j s there y at).leads)) in
        let has : Contains lines l = (k, low, is) in
        subst (λ (z : NodeView). Any (λ (x : PathView). x.node ≡ z) (filter_map path_by lines)) same (has_path l l.next refl has (shown l has).1)

    nearer : (l m : WayView) (x y : PathView) → path_by l ≡ Some x → path_by m ≡ Some y → IsShorter l m → IsNearer x y
    nearer l m x y first second less = two m.next second (one l.next first)
      where
        one : (o : Option NextView) → option_map (path l) o ≡ Some x → IsShorter (record { count = x.count; node = x.node; next = o; reason = l.reason }) m
        one None e = cc
        one (Some next) e = subst (λ (z : PathView). IsShorter (record { count = z.count; node = z.node; next = Some next; reason = l.reason }) m) (same_Some (path l next) x e) less

        two : (o : Option NextView) → option_map (path m) o ≡ Some y → IsShorter (record { count = x.count; node = x.node; next = l.next; reason = l.reason }) m → IsNearer x y
        two None e near = cc
        two (Some next) e near = subst (λ (z : PathView). IsNearer x z) (same_Some (path m next) y e) near

    pub are_paths : ArePaths p all steps (Somebody who) (filter_map path_by lines)
    are_paths = record {
      each = λ k d low. (let x = get_or (filter_map path_by lines) k d in
          let (i, l, within, is, e) = picked path_by x lines (k, low, get_or_default (filter_map path_by lines) k x d low) in
          let (few, shows) = shown l (i, within, is) in
          is_path l l.next few shows x e);
      complete = complete;
      ordered = pairs_picked path_by IsShorter IsNearer nearer lines traced.ordered;
    }

-- ---- ways

module _ (p : PolicyView) (all : List Who) (steps : List Step) (ys : List NodeView) (enough : AreEnough p all steps ys) (asked : Access) (g : GraphView) (graph : IsGraphOf p steps ys g) (back : GraphView) (len : length back.takes ≡ length g.takes)
    (turned : (i j : ℕ) → IsEdge back i j ↔ IsEdge g j i) (stops : List (Option Stop)) (order : List ℕ) (from : IsFrom (AllowsAccess p (access_of asked)) ys back stops order) where
  abbrev d : Direction
  d = toward.Back asked

  abbrev Back : NodeView → NodeView → Type 0
  Back = GoesBack p all steps

  abbrev Ends : NodeView → Type 0
  Ends = AllowsAccess p (access_of asked)

  by_back : IsGraphBy Back Ends (Contains ys) ys back from.starts
  by_back = back_graph p all steps ys enough g graph Ends back len turned from.starts from.exact

  pub linked_back : AreLinked d p steps ys stops
  linked_back = linked_by d p steps ys Back Ends (Contains ys) back from.starts by_back stops from.stops_are (λ x y goes. goes.1) (λ j c. (from.exact j).0 c)

  module _ (come : List (Option Stop)) (met_order : List ℕ) (first : IsFrom IsSomebody ys g come met_order) (lines : List WayView) (traced : AreTraced d p steps ys come stops order lines) where
    abbrev IsFirst : NodeView → Type 0
    IsFirst = IsPrincipal all

    first_of : (y : NodeView) → IsNode p all y → IsSomebody y → IsFirst y
    first_of (Somebody who) is some = (who, is, refl)
    first_of (ClusterRoleIn role scope) is some = elim some [ ]
    first_of (OwnRole role) is some = elim some [ ]
    first_of (EverythingIn scope) is some = elim some [ ]

    first_graph : IsGraphBy (GoesTo p all steps) IsFirst (λ y. Unit {0}) ys g first.starts
    first_graph = on_graph p all steps ys enough g graph IsSomebody IsFirst (λ y is. (first_of y is, λ (who, c, same). subst IsSomebody (sym same) tt)) (λ y (who, c, same). subst (Contains ys) (sym same) (enough.somebody who c)) first.starts first.exact

    come_to : (j : ℕ) (y : NodeView) → slice_get ys j ≡ Some y → (o : Option Stop) → get_or come j None ≡ o → IsSome o → IsComeTo p all steps y
    come_to j y at None e some = absurd (let both = some in cc)
    come_to j y at (Some s) e some = (s.edges, (fewest_here (GoesTo p all steps) IsFirst (λ y. Unit {0}) ys g first.starts first_graph come first.stops_are j s e y at).leads)

    onward : (x : WayView) (o : Option NextView) → MatchOption o ((x.count ≡ 0) × BeginsBy d p x.node x.reason) (Follows d p steps ys Back Ends (Contains ys) back from.starts by_back stops from.stops_are x) → MatchOption o ((x.count ≡ 0) × BeginsBy d p x.node x.reason) (IsOnward p all steps (access_of asked) x)
    onward x None own = own
    onward x (Some next) (m, count, to, told) = record { others = m; count = count; to = to; step = told.0; reason = told.1 }

    is_way : (x : WayView) (j : ℕ) → IsLineAt d p steps ys come stops j x → IsWayOn p all steps (access_of asked) x
    is_way x j (met, (s, at, is)) = record {
      come = come_to j x.node is.node (get_or come j None) refl met;
      fewest = fewest_of d p steps ys Back Ends (Contains ys) back from.starts by_back stops from.stops_are j s at x is;
      next = onward x x.next (next_of d p steps ys Back Ends (Contains ys) back from.starts by_back stops from.stops_are j s at x is x.next is.next);
    }

    some_way : (n : ℕ) (y : NodeView) → IsComeTo p all steps y → LeadsTo Back Ends n y → Any (λ (x : WayView). x.node ≡ y) lines
    some_way n y (m, comes) on =
        let (j, at, way) = reached (GoesTo p all steps) IsFirst (λ y. Unit {0}) ys g first.starts first_graph m y tt comes in
        let (s, there) = stop_at (GoesTo p all steps) IsFirst (λ y. Unit {0}) ys g first.starts first_graph come first.stops_are m j y at comes in
        some_line d p steps ys Back Ends (Contains ys) back from.starts by_back stops from.stops_are come order from.ordered.exact lines traced n j y at (λ t that. subst (λ (o : Option Stop). IsSome o) (sym there) refl) on (λ t that un. un)

    pub are_ways : AreWays p all steps (access_of asked) lines
    are_ways = record {
      each = λ k d low. (let x = get_or lines k d in let (j, has, at) = traced.each x (k, low, get_or_default lines k x d low) in is_way x j at);
      complete = some_way;
      ordered = traced.ordered;
    }
