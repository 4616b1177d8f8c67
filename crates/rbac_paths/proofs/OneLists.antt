-- The paths from a principal are one list, and so are the ways to a request. Each of their lines
-- leads to one with a step less.
use Rattle.std.proofs.Common.{◌≡◌, ◌≢◌, ◌↔◌, ◌⊎◌, ◌+◌, ◌∙◌, ℕ, zero, suc, inl, inr, List, [], ◌∷◌, MatchOption, None, Option, Some, All, AllPairs, Any, Contains, get_or, arith, sym, ap, refl, subst}
use Rattle.std.specs.Ordering.{nat_cmp, ordering_reverse}
use Rattle.std.specs.Cmp.{nat_cmp_is}
use Rattle.std.specs.declared.cmp.Ordering.{Ordering}
use Rattle.std.specs.declared.cmp.Ordering.TheVariants.{Less, Equal, Greater}
use Rattle.std.proofs.lemmas.Bool.{cases_order}
use Rattle.std.proofs.lemmas.Cmp.{nat_list_cmp_total}
use Rattle.std.proofs.lemmas.Map.Lookups.{exact_bytes}
use Rattle.rbac_terms.specs.Text.{Text, text_cmp}
use Rattle.rbac_terms.specs.Principals.{Who}
use Rattle.rbac_model.specs.Lists.{by_name, IsAscendingBy}
use Rattle.rbac_model.specs.Policies.{PolicyView}
use Rattle.rbac_model.proofs.Firsts.{one_first}
use Rattle.rbac_model.proofs.OneList.{one_list, one_of_name}
use Rattle.rbac_model.proofs.OwnWords.{any_from}
use Rattle.rbac_paths.specs.Access.{AccessView, AllowsAccess}
use Rattle.rbac_paths.specs.Aims.{ToBeAllowed, ToTakeOver}
use Rattle.rbac_paths.specs.Following.{LeadBack, LeadOn}
use Rattle.rbac_paths.specs.NodeLists.{IsNode, node_text}
use Rattle.rbac_paths.specs.Nodes.{NodeView, Somebody, ClusterRoleIn, OwnRole, EverythingIn}
use Rattle.rbac_paths.specs.Paths.{ArePaths, ArePathsOf, IsSooner, GoesTo, IsBeforeOn, IsFewest, IsPath, LeadsTo, PathView}
use Rattle.rbac_paths.specs.Reasons.{IsReason, ReasonView}
use Rattle.rbac_paths.specs.Told.{IsFirstTold}
use Rattle.rbac_paths.specs.WaysTo.{AreWays, AreWaysTo, GoesBack, IsComeTo, IsOnward, IsPrincipal, IsWayOn, NextView, WayView}
use Rattle.rbac_steps.specs.declared.steps.Step.{Step}
use Rattle.rbac_paths.proofs.OneReason.{one_reason}

-- ---- lists of users and groups with the same elements give the same paths and ways

-- steps lead wherever other steps do, if these do from each node to another and the starts are among theirs
pub leads_to : (R Q : NodeView → NodeView → Type 0) (S T : NodeView → Type 0) → ((x y : NodeView) → R x y → Q x y) → ((y : NodeView) → S y → T y) → (n : ℕ) (y : NodeView) → LeadsTo R S n y → LeadsTo Q T n y
leads_to R Q S T to start zero y w = start y w
leads_to R Q S T to start (suc n) y (x, l, g) = (x, leads_to R Q S T to start n x l, to x y g)

abbrev Same : (NodeView → NodeView → Type 0) → (NodeView → NodeView → Type 0) → Type 0
Same R Q = (x y : NodeView) → R x y ↔ Q x y

turn : (R Q : NodeView → NodeView → Type 0) → Same R Q → Same Q R
turn R Q same x y = ((same x y).1, (same x y).0)

module _ (S : NodeView → Type 0) where
  same_leads : (R Q : NodeView → NodeView → Type 0) → Same R Q → (n : ℕ) (y : NodeView) → LeadsTo R S n y → LeadsTo Q S n y
  same_leads R Q same = leads_to R Q S S (λ x y. (same x y).0) (λ y s. s)

  fewest_to : (R Q : NodeView → NodeView → Type 0) → Same R Q → (n : ℕ) (y : NodeView) → IsFewest R S n y → IsFewest Q S n y
  fewest_to R Q same n y is = record { leads = same_leads R Q same n y is.leads; fewest = λ k lt l. is.fewest k lt (same_leads Q R (turn R Q same) k y l) }

  before_to : (R Q : NodeView → NodeView → Type 0) → Same R Q → (n : ℕ) (y x : NodeView) → IsBeforeOn R S n y x → IsBeforeOn Q S n y x
  before_to R Q same n y x is = record {
    fewest = fewest_to R Q same n x is.fewest;
    goes = (same x y).0 is.goes;
    first = λ m less few goes. is.first m less (fewest_to Q R (turn R Q same) n m few) ((same m y).1 goes);
  }

module _ (p : PolicyView) (all others : List Who) (steps : List Step) (same : (who : Who) → Contains all who ↔ Contains others who) where
  abbrev From : NodeView → NodeView → Type 0
  From = GoesTo p all steps

  abbrev To : NodeView → NodeView → Type 0
  To = GoesTo p others steps

  same_node : (y : NodeView) → IsNode p all y ↔ IsNode p others y
  same_node (Somebody who) = same who
  same_node (ClusterRoleIn role scope) = (λ is. is, λ is. is)
  same_node (OwnRole role) = (λ is. is, λ is. is)
  same_node (EverythingIn scope) = (λ is. is, λ is. is)

  goes : Same From To
  goes x y = (λ (is, takes). ((same_node y).0 is, takes), λ (is, takes). ((same_node y).1 is, takes))

  pub paths_to : (start : NodeView) (xs : List PathView) → ArePaths p all steps start xs → ArePaths p others steps start xs
  paths_to start xs are = record {
    each = λ k d l. (let x = get_or xs k d in let is = are.each k d l in record {
      others = is.others;
      count = is.count;
      fewest = fewest_to (λ y. y ≡ start) From To goes x.count x.node is.fewest;
      before = before_to (λ y. y ≡ start) From To goes is.others x.node x.before is.before;
      step = is.step;
      reason = is.reason;
    });
    complete = λ n y not leads. are.complete n y not (same_leads (λ y. y ≡ start) To From (turn From To goes) n y leads);
    ordered = are.ordered;
  }

  module _ (asked : AccessView) where
    abbrev BackFrom : NodeView → NodeView → Type 0
    BackFrom = GoesBack p all steps

    abbrev BackTo : NodeView → NodeView → Type 0
    BackTo = GoesBack p others steps

    goes_back : Same BackFrom BackTo
    goes_back y x = goes x y

    nexts_to : (x : WayView) (o : Option NextView) → MatchOption o ((x.count ≡ 0) × IsReason p x.node (ToBeAllowed asked) x.reason) (IsOnward p all steps asked x)
        → MatchOption o ((x.count ≡ 0) × IsReason p x.node (ToBeAllowed asked) x.reason) (IsOnward p others steps asked x)
    nexts_to x None is = is
    nexts_to x (Some next) is =
        record { others = is.others; count = is.count; to = before_to (AllowsAccess p asked) BackFrom BackTo goes_back is.others x.node next.node is.to; step = is.step; reason = is.reason }

    ways_to : (xs : List WayView) → AreWays p all steps asked xs → AreWays p others steps asked xs
    ways_to xs are = record {
      each = λ k d l. (let x = get_or xs k d in let is = are.each k d l in record {
        come = (is.come.0, leads_to From To (IsPrincipal all) (IsPrincipal others) (λ x y. (goes x y).0) (λ y (who, c, is). (who, (same who).0 c, is)) is.come.0 x.node is.come.1);
        fewest = fewest_to (AllowsAccess p asked) BackFrom BackTo goes_back x.count x.node is.fewest;
        next = nexts_to x x.next is.next;
      });
      complete = λ n y come on. are.complete n y
          (come.0, leads_to To From (IsPrincipal others) (IsPrincipal all) (λ x y. (goes x y).1) (λ y (who, c, is). (who, (same who).1 c, is)) come.0 y come.1)
          (same_leads (AllowsAccess p asked) BackTo BackFrom (turn BackFrom BackTo goes_back) n y on);
      ordered = are.ordered;
    }

-- ---- lines, each with a number of steps and the node to which they lead

module _ {X : Type 0} (count : X → ℕ) (node : X → NodeView) where
  abbrev pub told_name : X → List Text
  told_name x = (count x ∷ []) ∷ node_text (node x) ∷ []

  told_less : (x y : X) → IsSooner (count x) (count y) (node x) (node y) → by_name told_name x y ≡ Less
  told_less x y (inl lt) = let e : Less ≡ nat_cmp (count x) (count y) = nat_cmp_is (count x) (count y) Less lt in rw (sym e) refl
  told_less x y (inr (same, less)) = let e : Equal ≡ nat_cmp (count x) (count y) = nat_cmp_is (count x) (count y) Equal same in rw (sym e, less) refl

  pub ascend : (xs : List X) → AllPairs (λ x y. IsSooner (count x) (count y) (node x) (node y)) xs → IsAscendingBy told_name xs
  ascend xs ordered i j d lt l = told_less (get_or xs i d) (get_or xs j d) (ordered i j d lt l)

-- the least number of steps to a node is one number
pub one_count : (R : NodeView → NodeView → Type 0) (S : NodeView → Type 0) (n m : ℕ) (y : NodeView) → IsFewest R S n y → IsFewest R S m y → n ≡ m
one_count R S n m y a b = elim (cases_order n m) [
  | inl e ↦ e
  | inr d ↦ elim d [
    | inl lt ↦ absurd (b.fewest n lt a.leads)
    | inr lt ↦ absurd (a.fewest m lt b.leads)
  ]
]

-- the first node before another as printed is one node, if those printed alike are
one_before : (R : NodeView → NodeView → Type 0) (S : NodeView → Type 0) (n : ℕ) (y x z : NodeView) → IsBeforeOn R S n y x → IsBeforeOn R S n y z → (node_text x ≡ node_text z → x ≡ z) → x ≡ z
one_before R S n y x z a b alike = ordered (text_cmp (node_text x) (node_text z)) refl
  where
    ordered : (o : Ordering) → o ≡ text_cmp (node_text x) (node_text z) → x ≡ z
    ordered Less e = absurd (b.first x (sym e) a.fewest a.goes)
    ordered Equal e = alike (exact_bytes (node_text x) (node_text z) (sym e))
    ordered Greater e = absurd (a.first z (nat_list_cmp_total.antisymm (node_text z) (node_text x) ∙ ap ordering_reverse (sym e)) b.fewest b.goes)

-- a node takes over another by one first step, and for one reason
abbrev IsTold : PolicyView → List Step → NodeView → NodeView → Step → ReasonView → Type 0
IsTold p steps x y step reason = IsFirstTold p steps x y step × IsReason p x (ToTakeOver step y) reason

one_told : (p : PolicyView) (steps : List Step) (x y : NodeView) (s t : Step) (r q : ReasonView) → IsTold p steps x y s r → IsTold p steps x y t q → (s ≡ t) × (r ≡ q)
one_told p steps x y s t r q (first, why) (other, because) =
    let same : s ≡ t = one_first _ steps first.0 other.0 s t first.1 other.1 in
    (same, one_reason p x (ToTakeOver s y) r q why (subst (λ u. IsReason p x (ToTakeOver u y) q) (sym same) because))

-- lines to nodes that are asked for, each once, in order
module _ {X : Type 0} (count : X → ℕ) (node : X → NodeView) (R : NodeView → NodeView → Type 0) (S : NodeView → Type 0) (Is : X → Type 0) (Asked : NodeView → Type 0) where
  pub record AreLines (xs : List X) : Type 0 where
    pub each : All Is xs
    pub few : (x : X) → Is x → Asked (node x) × IsFewest R S (count x) (node x)
    pub complete : (n : ℕ) (y : NodeView) → Asked y → LeadsTo R S n y → Any (λ x. node x ≡ y) xs
    pub ordered : AllPairs (λ x y. IsSooner (count x) (count y) (node x) (node y)) xs

  module _ (xs : List X) (are : AreLines xs) where
    -- each node that is asked for and has a least number of steps is listed
    listed : (n : ℕ) (y : NodeView) → Asked y → IsFewest R S n y → (x : X) × Contains xs x × (node x ≡ y) × (count x ≡ n)
    listed n y asked few =
        let w = are.complete n y asked few.leads in
        let is : Is w.1 = subst Is w.3 (are.each w.0 w.1 w.2) in
        (w.1, (w.0, w.2, w.3), w.4, one_count R S (count w.1) n y (subst (IsFewest R S (count w.1)) w.4 (are.few w.1 is).1) few)

    -- such nodes with the same least number of steps and the same printed text are the same
    alike : (n : ℕ) (y z : NodeView) → Asked y → Asked z → IsFewest R S n y → IsFewest R S n z → node_text y ≡ node_text z → y ≡ z
    alike n y z asked too a b e =
        let v = listed n y asked a in
        let w = listed n z too b in
        let counts : count v.0 ≡ count w.0 = v.3 ∙ sym w.3 in
        let texts : node_text (node v.0) ≡ node_text (node w.0) = ap node_text v.2 ∙ e ∙ ap node_text (sym w.2) in
        let names : told_name count node v.0 ≡ told_name count node w.0 = λ i. (counts i ∷ []) ∷ texts i ∷ [] in
        sym v.2 ∙ ap node (one_of_name (told_name count node) xs v.0 w.0 (ascend count node xs are.ordered) v.1 w.1 names) ∙ w.2

    -- such a node has a line with a step less than m, if m is one more than its number of steps
    one_less : (n m : ℕ) (y : NodeView) → m ≡ n + 1 → Asked y → IsFewest R S n y → Any (λ x. (count x + 1 ≡ m) × (node x ≡ y)) xs
    one_less n m y more asked few = let (x, has, is, same) = listed n y asked few in any_from (λ x. (count x + 1 ≡ m) × (node x ≡ y)) xs x has (omega (arith, more, same), is)

    -- two such lists are one, if two lines to a node are one
    module _ (one : (x z : X) → Is x → Is z → node x ≡ node z → x ≡ z) where
      into : (ys : List X) → AreLines ys → (x : X) → Contains ys x → Contains xs x
      into ys those x w =
          let is : Is x = subst Is w.2 (those.each w.0 x w.1) in
          let few = those.few x is in
          let v = are.complete (count x) (node x) few.0 few.1.leads in
          subst (Contains xs) (one v.1 x (subst Is v.3 (are.each v.0 v.1 v.2)) is v.4) (v.0, v.2, v.3)

  one_lines : (xs ys : List X) → AreLines xs → AreLines ys → ((x z : X) → Is x → Is z → node x ≡ node z → x ≡ z) → xs ≡ ys
  one_lines xs ys are those one =
      one_list (told_name count node) xs ys (ascend count node xs are.ordered) (ascend count node ys those.ordered) (into ys those one xs are) (into xs are one ys those)

-- ---- paths

abbrev count_of : PathView → ℕ
count_of x = x.count

abbrev node_at : PathView → NodeView
node_at x = x.node

abbrev pub path_name : PathView → List Text
path_name = told_name count_of node_at

module _ (p : PolicyView) (all : List Who) (steps : List Step) (start : NodeView) where
  abbrev R : NodeView → NodeView → Type 0
  R = GoesTo p all steps

  abbrev S : NodeView → Type 0
  S y = y ≡ start

  abbrev Is : PathView → Type 0
  Is = IsPath p all steps start

  -- a node to which one step or more are the fewest isn't the start
  differs : (n : ℕ) (y : NodeView) → IsFewest R S (n + 1) y → y ≢ start
  differs n y few e = few.fewest 0 (omega arith) e

  lines : (xs : List PathView) → ArePaths p all steps start xs → AreLines count_of node_at R S Is (λ y. y ≢ start) xs
  lines xs are = record {
    each = are.each;
    few = λ x is. (differs is.others x.node (subst (λ n. IsFewest R S n x.node) is.count is.fewest), is.fewest);
    complete = are.complete;
    ordered = are.ordered;
  }

  module _ (xs : List PathView) (are : ArePaths p all steps start xs) where
    before_alike : (n : ℕ) (y z : NodeView) → IsFewest R S n y → IsFewest R S n z → node_text y ≡ node_text z → y ≡ z
    before_alike zero y z a b e = a.leads ∙ sym b.leads
    before_alike (suc n) y z a b e = alike count_of node_at R S Is (λ y. y ≢ start) xs (lines xs are) (suc n) y z (λ e. a.fewest 0 (omega arith) e) (λ e. b.fewest 0 (omega arith) e) a b e

    pub one_path : (x z : PathView) → Is x → Is z → x.node ≡ z.node → x ≡ z
    one_path x z a b e =
        let there : IsPath p all steps start (record { count = z.count; node = x.node; before = z.before; step = z.step; reason = z.reason }) = subst (λ y. IsPath p all steps start (record { count = z.count; node = y; before = z.before; step = z.step; reason = z.reason })) (sym e) b in
        let counts : x.count ≡ z.count = one_count R S x.count z.count x.node a.fewest there.fewest in
        let others : there.others ≡ a.others = omega (arith, counts, a.count, there.count) in
        let before : IsBeforeOn R S a.others x.node z.before = subst (λ n. IsBeforeOn R S n x.node z.before) others there.before in
        let befores : x.before ≡ z.before = one_before R S a.others x.node x.before z.before a.before before (before_alike a.others x.before z.before a.before.fewest before.fewest) in
        let told = one_told p steps x.before x.node x.step z.step x.reason z.reason (a.step, a.reason) (subst (λ y. IsTold p steps y x.node z.step z.reason) (sym befores) (there.step, there.reason)) in
        λ i. record { count = counts i; node = e i; before = befores i; step = told.0 i; reason = told.1 i }

    -- the node before each path is the start, or has a path with one step less
    led : (x : PathView) (n : ℕ) → x.count ≡ n + 1 → IsFewest R S n x.before → ((x.count ≡ 1) × (x.before ≡ start)) ⊎ Any (λ y. (y.count + 1 ≡ x.count) × (y.node ≡ x.before)) xs
    led x zero count few = inl (count, few.leads)
    led x (suc n) count few = inr (one_less count_of node_at R S Is (λ y. y ≢ start) xs (lines xs are) (suc n) x.count x.before count (λ e. few.fewest 0 (omega arith) e) few)

    pub lead_back : LeadBack start xs
    lead_back x (k, low, is) = let path : Is x = subst Is is (are.each k x low) in led x path.others path.count path.before.fewest

pub one_paths_of : (p : PolicyView) (principals : List Who) (steps : List Step) (who : Who) (xs ys : List PathView) → ArePathsOf p principals steps who xs → ArePathsOf p principals steps who ys → xs ≡ ys
one_paths_of p principals steps who xs ys (all, exact, are) (others, listed, those) =
    let start = Somebody who in
    let these = paths_to p others all steps (λ each. ((λ c. (exact each).1 ((listed each).0 c)), (λ c. (listed each).1 ((exact each).0 c)))) start ys those in
    one_lines count_of node_at (GoesTo p all steps) (λ y. y ≡ start) (IsPath p all steps start) (λ y. y ≢ start) xs ys (lines p all steps start xs are) (lines p all steps start ys these) (one_path p all steps start xs are)

-- ---- ways

abbrev way_count : WayView → ℕ
way_count x = x.count

abbrev way_node : WayView → NodeView
way_node x = x.node

module _ (p : PolicyView) (all : List Who) (steps : List Step) (asked : AccessView) where
  abbrev Back : NodeView → NodeView → Type 0
  Back = GoesBack p all steps

  abbrev Ends : NodeView → Type 0
  Ends = AllowsAccess p asked

  abbrev IsWay : WayView → Type 0
  IsWay = IsWayOn p all steps asked

  abbrev Come : NodeView → Type 0
  Come = IsComeTo p all steps

  abbrev Next : WayView → Option NextView → Type 0
  Next x next = MatchOption next ((x.count ≡ 0) × IsReason p x.node (ToBeAllowed asked) x.reason) (IsOnward p all steps asked x)

  way_lines : (xs : List WayView) → AreWays p all steps asked xs → AreLines way_count way_node Back Ends IsWay Come xs
  way_lines xs are = record { each = are.each; few = λ x is. (is.come, is.fewest); complete = are.complete; ordered = are.ordered }

  -- if steps lead to a node, steps also lead to each node that it takes over
  come_on : (x y : NodeView) → Come x → GoesTo p all steps x y → Come y
  come_on x y come goes = (suc come.0, (x, come.1, goes))

  module _ (xs : List WayView) (are : AreWays p all steps asked xs) where
    -- two ways from the same node with the same number of steps
    module _ (n : ℕ) (y : NodeView) (come : Come y) where
      abbrev way : Option NextView → ReasonView → WayView
      way next reason = record { count = n; node = y; next = next; reason = reason }

      one_rest : (next other : Option NextView) (reason why : ReasonView) → Next (way next reason) next → Next (way other why) other → way next reason ≡ way other why
      one_rest None None reason why a b = ap (way None) (one_reason p y (ToBeAllowed asked) reason why a.1 b.1)
      one_rest None (Some other) reason why a b = absurd (let none = a.0 in let some = b.count in omega (arith, none, some))
      one_rest (Some next) None reason why a b = absurd (let none = b.0 in let some = a.count in omega (arith, none, some))
      one_rest (Some next) (Some other) reason why a b =
          let others : b.others ≡ a.others = (let first = a.count in let second = b.count in omega (arith, first, second)) in
          let there : IsBeforeOn Back Ends a.others y other.node = subst (λ m. IsBeforeOn Back Ends m y other.node) others b.to in
          let nodes : next.node ≡ other.node = one_before Back Ends a.others y next.node other.node a.to there
          (alike way_count way_node Back Ends IsWay Come xs (way_lines xs are) a.others next.node other.node (come_on y next.node come a.to.goes) (come_on y other.node come there.goes) a.to.fewest there.fewest) in
          let told = one_told p steps y next.node next.step other.step reason why (a.step, a.reason) (subst (λ z. IsTold p steps y z other.step why) (sym nodes) (b.step, b.reason)) in
          λ i. record { count = n; node = y; next = Some (record { node = nodes i; step = told.0 i }); reason = told.1 i }

    one_way : (x z : WayView) → IsWay x → IsWay z → x.node ≡ z.node → x ≡ z
    one_way x z a b e =
        let counts : x.count ≡ z.count = one_count Back Ends x.count z.count x.node a.fewest (subst (IsFewest Back Ends z.count) (sym e) b.fewest) in
        let here : z ≡ way x.count x.node a.come z.next z.reason = λ i. record { count = sym counts i; node = sym e i; next = z.next; reason = z.reason } in
        one_rest x.count x.node a.come x.next z.next x.reason z.reason a.next (subst IsWay here b).next ∙ sym here

    -- each way has no step, or the node after it has a way with one step less
    lead : (x : WayView) (o : Option NextView) → Come x.node → Next x o → MatchOption o (x.count ≡ 0) (λ next. Any (λ y. (y.count + 1 ≡ x.count) × (y.node ≡ next.node)) xs)
    lead x None come own = own.0
    lead x (Some next) come on = one_less way_count way_node Back Ends IsWay Come xs (way_lines xs are) on.others x.count next.node on.count (come_on x.node next.node come on.to.goes) on.to.fewest

    pub lead_on : LeadOn xs
    lead_on x (k, low, is) = let way : IsWay x = subst IsWay is (are.each k x low) in lead x x.next way.come way.next

pub one_ways_to : (p : PolicyView) (principals : List Who) (steps : List Step) (asked : AccessView) (xs ys : List WayView) → AreWaysTo p principals steps asked xs → AreWaysTo p principals steps asked ys → xs ≡ ys
one_ways_to p principals steps asked xs ys (all, exact, are) (others, listed, those) =
    let these = ways_to p others all steps (λ who. ((λ c. (exact who).1 ((listed who).0 c)), (λ c. (listed who).1 ((exact who).0 c)))) asked ys those in
    one_lines way_count way_node (GoesBack p all steps) (AllowsAccess p asked) (IsWayOn p all steps asked) (IsComeTo p all steps) xs ys (way_lines p all steps asked xs are) (way_lines p all steps asked ys these) (one_way p all steps asked xs are)
