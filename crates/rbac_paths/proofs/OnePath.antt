-- The one path to a node: how it is found from the end of the paths, and that there is one.
use Rattle.std.proofs.Common.{◌≡◌, ◌≢◌, ◌⊎◌, ◌+◌, ◌<◌, ◌∙◌, ◌++◌, ◌∷◌, ℕ, zero, suc, [], List, Option, All, AllPairs, Any, Contains, append-nil, append_assoc, arith, ap, get_or, inl, inr, length, length-append, refl, subst, sym}
use Rattle.std.specs.Ordering.{ordering_reverse}
use Rattle.std.specs.declared.cmp.Ordering.TheVariants.{Less, Greater}
use Rattle.std.proofs.lemmas.Cmp.{nat_list_cmp_total}
use Rattle.std.proofs.lemmas.List.{get_or-append-add, get_or_append_left, get_or_default}
use Rattle.std.proofs.lemmas.List.Elements.{All-cons, All-head, All-nil, All-tail, Contains-append_cases, Contains-append_left, Contains-push, Contains-push_cases}
use Rattle.rbac_model.proofs.OwnWords.{any_from}
use Rattle.rbac_model.proofs.OneList.{one_of_name}
use Rattle.rbac_terms.specs.Text.{Text, text_cmp}
use Rattle.rbac_terms.specs.Principals.{Who}
use Rattle.rbac_model.specs.Policies.{PolicyView}
use Rattle.rbac_paths.specs.NodeLists.{node_text}
use Rattle.rbac_paths.specs.Nodes.{NodeView}
use Rattle.rbac_paths.specs.OnePath.{Connects, IsChain, IsLastTo, IsPathTo, IsPrintedBefore, IsTo, IsWantedNext}
use Rattle.rbac_paths.specs.Paths.{ArePaths, GoesTo, IsFewest, IsNearer, IsPath, PathView}
use Rattle.rbac_paths.proofs.OneLists.{ascend, lead_back, one_count, one_path, path_name}
use Rattle.rbac_steps.specs.declared.steps.Step.{Step}

module _ {X : Type 0} (R : X → X → Type 0) where
  -- what holds of each pair holds of an element before and one behind
  pub pairs_across : (xs ys : List X) (x y : X) → AllPairs R (xs ++ ys) → Contains xs x → Contains ys y → R x y
  pairs_across xs ys x y pairs a b =
      let long = length-append xs ys in
      let low = a.1 in
      let high = b.1 in
      let first : get_or (xs ++ ys) a.0 x ≡ x = get_or_append_left xs ys x a.0 a.1 ∙ a.2 in
      let second : get_or (xs ++ ys) (length xs + b.0) x ≡ y = get_or-append-add xs ys b.0 x ∙ get_or_default ys b.0 x y b.1 ∙ b.2 in
      let both : R (get_or (xs ++ ys) a.0 x) (get_or (xs ++ ys) (length xs + b.0) x) = pairs a.0 (length xs + b.0) x (omega (arith, low)) (omega (arith, long, high)) in
      subst (λ (v : X). R v y) first (subst (λ (v : X). R (get_or (xs ++ ys) a.0 x) v) second both)

not_nearer : (x y : PathView) → IsNearer x y → y.count < x.count → ⊥
not_nearer x y (inl low) less = omega (arith, low, less)
not_nearer x y (inr (same, below)) less = omega (arith, same, less)

-- ---- what holds while the paths are followed from the end

-- the path is of one step, which the start takes, or the path to the node before it is left
abbrev pub Leads : NodeView → List PathView → PathView → Type 0
Leads start left x = ((x.count ≡ 1) × (x.before ≡ start)) ⊎ Any (λ z. (z.count + 1 ≡ x.count) × (z.node ≡ x.before)) left

-- paths were taken, of which x is the first; the others of the path to TO are left
pub record IsTrail (start : NodeView) (to : Text) (scope : Option Text) (xs left chain : List PathView) (x : PathView) : Type 0 where
  pub connects : Connects x.before to scope xs chain
  pub leads : Leads start left x

-- the paths xs were followed from the end, as far as those that are left: nothing was taken, and each path to TO is left; or some were
abbrev pub IsTaken : NodeView → Text → Option Text → List PathView → List PathView → List PathView → Type 0
IsTaken start to scope xs left [] = (y : PathView) → Contains xs y → IsTo to scope y.node → Contains left y
IsTaken start to scope xs left (x ∷ chain) = IsTrail start to scope xs left (x ∷ chain) x

abbrev pub IsWalked : NodeView → Text → Option Text → List PathView → List PathView → List PathView → Type 0
IsWalked start to scope xs left chain = (passed : List PathView) × (xs ≡ left ++ passed) × IsTaken start to scope xs left chain

pub walk_begun : (start : NodeView) (to : Text) (scope : Option Text) (xs : List PathView) → IsWalked start to scope xs xs []
walk_begun start to scope xs = ([], sym (append-nil xs), λ y has is. has)

module _ (p : PolicyView) (all : List Who) (steps : List Step) (start : NodeView) (xs : List PathView) (are : ArePaths p all steps start xs) where
  path_of : (x : PathView) → Contains xs x → IsPath p all steps start x
  path_of x has = subst (IsPath p all steps start) has.2 (are.each has.0 x has.1)

  -- a path with fewer steps than one that is passed comes before it
  before_in : (rest passed : List PathView) (y z : PathView) → xs ≡ (rest ++ y ∷ []) ++ passed → Contains xs z → z.count < y.count → Contains rest z
  before_in rest passed y z split has less = elim (Contains-append_cases (rest ++ y ∷ []) passed z (subst (λ (l : List PathView). Contains l z) split has)) [
    | inl here ↦ elim (Contains-push_cases rest y z here) [
      | inl within ↦ within
      | inr same ↦ absurd (let counts : y.count ≡ z.count = ap (λ (x : PathView). x.count) same in omega (arith, counts, less))
    ]
    | inr there ↦ absurd (not_nearer y z (pairs_across IsNearer (rest ++ y ∷ []) passed y z (subst (AllPairs IsNearer) split are.ordered) (Contains-push rest y) there) less)
  ]

  led_in : (rest passed : List PathView) (y : PathView) → xs ≡ (rest ++ y ∷ []) ++ passed → Leads start xs y → Leads start rest y
  led_in rest passed y split (inl first) = inl first
  led_in rest passed y split (inr (k, z, low, is, (count, node))) =
      inr (any_from (λ z. (z.count + 1 ≡ y.count) × (z.node ≡ y.before)) rest z (before_in rest passed y z split (k, low, is) (omega (arith, count))) (count, node))

  leads_on : (rest passed : List PathView) (y : PathView) → xs ≡ (rest ++ y ∷ []) ++ passed → Contains xs y → Leads start rest y
  leads_on rest passed y split has = led_in rest passed y split (lead_back p all steps start xs are y has)

  -- paths with as many steps to nodes that are printed alike are one
  alike : (y z : PathView) → Contains xs y → Contains xs z → y.count ≡ z.count → node_text y.node ≡ node_text z.node → y ≡ z
  alike y z a b counts texts = one_of_name path_name xs y z (ascend (λ (x : PathView). x.count) (λ (x : PathView). x.node) xs are.ordered) a b (λ i. (counts i ∷ []) ∷ texts i ∷ [])

  module _ (to : Text) (scope : Option Text) where
    abbrev Walked : List PathView → List PathView → Type 0
    Walked = IsWalked start to scope xs

    within : (rest passed : List PathView) (y : PathView) → xs ≡ (rest ++ y ∷ []) ++ passed → (z : PathView) → Contains (rest ++ y ∷ []) z → Contains xs z
    within rest passed y split z has = subst (λ (l : List PathView). Contains l z) (sym split) (Contains-append_left (rest ++ y ∷ []) passed z has)

    -- ---- a path that isn't wanted

    unwanted : (rest : List PathView) (y x : PathView) → (IsPrintedBefore x y → ⊥) → Leads start (rest ++ y ∷ []) x → Leads start rest x
    unwanted rest y x not (inl first) = inl first
    unwanted rest y x not (inr (k, z, low, is, (count, node))) = elim (Contains-push_cases rest y z (k, low, is)) [
      | inl there ↦ inr (any_from (λ z. (z.count + 1 ≡ x.count) × (z.node ≡ x.before)) rest z there (count, node))
      | inr same ↦ absurd (not (ap (λ (w : PathView). w.count + 1) same ∙ count, ap (λ (w : PathView). node_text w.node) same ∙ ap node_text node))
    ]

    pub walk_on : (rest : List PathView) (y : PathView) (chain : List PathView) → (IsWantedNext to scope chain y → ⊥) → Walked (rest ++ y ∷ []) chain → Walked rest chain
    walk_on rest y [] not (passed, split, all_left) = (
      y ∷ passed,
      split ∙ append_assoc rest (y ∷ []) passed,
      λ z has is. elim (Contains-push_cases rest y z (all_left z has is)) [
        | inl there ↦ there
        | inr same ↦ absurd (not (subst (λ (w : PathView). IsTo to scope w.node) (sym same) is))
      ],
    )
    walk_on rest y (x ∷ chain) not (passed, split, trail) =
        (y ∷ passed, split ∙ append_assoc rest (y ∷ []) passed, record { connects = trail.connects; leads = unwanted rest y x not trail.leads })

    -- ---- a path that is wanted

    last_to : (rest passed : List PathView) (y : PathView) → xs ≡ (rest ++ y ∷ []) ++ passed → IsTo to scope y.node
        → ((z : PathView) → Contains xs z → IsTo to scope z.node → Contains (rest ++ y ∷ []) z) → IsLastTo to scope xs y
    last_to rest passed y split is all_left = record {
      listed = within rest passed y split y (Contains-push rest y);
      is = is;
      last = λ z has too. elim (Contains-push_cases rest y z (all_left z has too)) [
        | inl there ↦ inr (pairs_across IsNearer rest (y ∷ passed) z y (subst (AllPairs IsNearer) (split ∙ append_assoc rest (y ∷ []) passed) are.ordered) there (0, omega arith, refl))
        | inr same ↦ inl (sym same)
      ];
    }

    -- the path that is wanted is the one to the node before
    node_before : (left : List PathView) (y x : PathView) → ((z : PathView) → Contains left z → Contains xs z) → Contains xs y → IsPrintedBefore x y → Leads start left x → y.node ≡ x.before
    node_before left y x kept has (count, text) (inl (one, is)) = absurd (let positive = (path_of y has).count in omega (arith, positive, count, one))
    node_before left y x kept has (count, text) (inr (k, z, low, is, (below, node))) =
        let same : y ≡ z = alike y z has (kept z (k, low, is)) (omega (arith, count, below)) (text ∙ ap node_text (sym node)) in
        ap (λ (w : PathView). w.node) same ∙ node

    pub walk_taken : (rest : List PathView) (y : PathView) (chain : List PathView) → IsWantedNext to scope chain y → Walked (rest ++ y ∷ []) chain → Walked rest (y ∷ chain)
    walk_taken rest y [] is (passed, split, all_left) =
        let last : IsLastTo to scope xs y = last_to rest passed y split is all_left in (
          y ∷ passed,
          split ∙ append_assoc rest (y ∷ []) passed,
          record {
            connects = record { earlier = []; end = y; ends = refl; is = last; listed = All-cons (Contains xs) y [] last.listed (All-nil (Contains xs)); joined = (refl, tt) };
            leads = leads_on rest passed y split last.listed;
          },
        )
    walk_taken rest y (x ∷ chain) is (passed, split, trail) =
        let kept = within rest passed y split in
        let has : Contains xs y = kept y (Contains-push rest y) in
        let same : y.node ≡ x.before = node_before (rest ++ y ∷ []) y x kept has is trail.leads in
        let c = trail.connects in (
          y ∷ passed,
          split ∙ append_assoc rest (y ∷ []) passed,
          record {
            connects = record {
              earlier = y ∷ c.earlier;
              end = c.end;
              ends = ap (λ (l : List PathView). y ∷ l) c.ends;
              is = c.is;
              listed = All-cons (Contains xs) y (x ∷ chain) has c.listed;
              joined = (refl, subst (λ (n : NodeView). IsChain n (x ∷ chain)) (sym same) c.joined);
            };
            leads = leads_on rest passed y split has;
          },
        )

    -- ---- nothing is left

    ended : (x : PathView) (chain : List PathView) → IsTrail start to scope xs [] chain x → Leads start [] x → IsPathTo start to scope xs chain
    ended x chain trail (inl (one, is)) =
        let c = trail.connects in
        inr (record { earlier = c.earlier; end = c.end; ends = c.ends; is = c.is; listed = c.listed; joined = subst (λ (n : NodeView). IsChain n chain) is c.joined })
    ended x chain trail (inr (k, z, low, is, both)) = absurd (omega (arith, low))

    pub walk_ended : (chain : List PathView) → Walked [] chain → IsPathTo start to scope xs chain
    walk_ended [] (passed, split, all_left) = inl (refl, λ (k, x, low, is, too). absurd (let past = (all_left x (k, low, is) too).1 in omega (arith, past)))
    walk_ended (x ∷ chain) (passed, split, trail) = ended x (x ∷ chain) trail trail.leads

  -- ---- there is one

  abbrev Fewest : ℕ → NodeView → Type 0
  Fewest = IsFewest (GoesTo p all steps) (λ y. y ≡ start)

  -- the path at the end of a chain has as many steps as the chain has paths
  counted : (n : ℕ) (from : NodeView) (es : List PathView) (e : PathView) → Fewest n from → IsChain from (es ++ e ∷ []) → All (Contains xs) (es ++ e ∷ []) → length es + 1 + n ≡ e.count
  counted n from [] e few (joins, on) listed =
      let path = path_of e (All-head (Contains xs) e [] listed) in
      let same : path.others ≡ n = one_count (GoesTo p all steps) (λ y. y ≡ start) path.others n from (subst (Fewest path.others) joins path.before.fewest) few in
      let count = path.count in
      omega (arith, same, count)
  counted n from (x ∷ es) e few (joins, on) listed =
      let path = path_of x (All-head (Contains xs) x (es ++ e ∷ []) listed) in
      let same : path.others ≡ n = one_count (GoesTo p all steps) (λ y. y ≡ start) path.others n from (subst (Fewest path.others) joins path.before.fewest) few in
      let count = path.count in
      let further = counted x.count x.node es e path.fewest on (All-tail (Contains xs) x (es ++ e ∷ []) listed) in
      omega (arith, same, count, further)

  -- a chain goes on from one node
  one_from : (a b : NodeView) (es : List PathView) (e : PathView) → IsChain a (es ++ e ∷ []) → IsChain b (es ++ e ∷ []) → a ≡ b
  one_from a b [] e (joins, on) (joined, far) = sym joins ∙ joined
  one_from a b (x ∷ es) e (joins, on) (joined, far) = sym joins ∙ joined

  one_chain : (a b : NodeView) (es fs : List PathView) (e : PathView) → IsChain a (es ++ e ∷ []) → IsChain b (fs ++ e ∷ []) → All (Contains xs) (es ++ e ∷ []) → All (Contains xs) (fs ++ e ∷ [])
      → length es ≡ length fs → es ≡ fs
  one_chain a b [] [] e c d listed told same = refl
  one_chain a b [] (y ∷ fs) e c d listed told same = absurd (omega (arith, same))
  one_chain a b (x ∷ es) [] e c d listed told same = absurd (omega (arith, same))
  one_chain a b (x ∷ es) (y ∷ fs) e (joins, on) (joined, far) listed told same =
      let rest : es ≡ fs = one_chain x.node y.node es fs e on far (All-tail (Contains xs) x (es ++ e ∷ []) listed) (All-tail (Contains xs) y (fs ++ e ∷ []) told) (omega (arith, same)) in
      let nodes : x.node ≡ y.node = one_from x.node y.node es e on (subst (λ (l : List PathView). IsChain y.node (l ++ e ∷ [])) (sym rest) far) in
      let here = path_of x (All-head (Contains xs) x (es ++ e ∷ []) listed) in
      let there = path_of y (All-head (Contains xs) y (fs ++ e ∷ []) told) in
      let heads : x ≡ y = one_path p all steps start xs are x y here there nodes in
      λ i. heads i ∷ rest i

  not_both_less : (a b : Text) → text_cmp a b ≡ Less → text_cmp b a ≡ Less → ⊥
  not_both_less a b less more = let turned : text_cmp b a ≡ Greater = nat_list_cmp_total.antisymm b a ∙ ap ordering_reverse less in let both : Less ≡ Greater = sym more ∙ turned in cc

  not_both : (x y : PathView) → IsNearer x y → IsNearer y x → ⊥
  not_both x y (inl low) near = not_nearer y x near low
  not_both x y (inr (same, less)) (inl low) = omega (arith, same, low)
  not_both x y (inr (same, less)) (inr (equal, more)) = not_both_less (node_text x.node) (node_text y.node) less more

  module _ (to : Text) (scope : Option Text) where
    one_end : (x y : PathView) → IsLastTo to scope xs x → IsLastTo to scope xs y → x ≡ y
    one_end x y a b = elim (a.last y b.listed b.is) [
      | inl same ↦ sym same
      | inr near ↦ elim (b.last x a.listed a.is) [
        | inl same ↦ same
        | inr nearer ↦ absurd (not_both y x near nearer)
      ]
    ]

    same_ends : (chain other : List PathView) → Connects start to scope xs chain → Connects start to scope xs other → chain ≡ other
    same_ends chain other c d =
        let e = c.end in
        let same : d.end ≡ e = one_end d.end e d.is c.is in
        let ends : other ≡ d.earlier ++ e ∷ [] = d.ends ∙ ap (λ (x : PathView). d.earlier ++ x ∷ []) same in
        let first : Fewest 0 start = record { leads = refl; fewest = λ k low leads. omega (arith, low) } in
        let joined = subst (IsChain start) c.ends c.joined in
        let joined_too = subst (IsChain start) ends d.joined in
        let listed = subst (All (Contains xs)) c.ends c.listed in
        let listed_too = subst (All (Contains xs)) ends d.listed in
        let long = counted 0 start c.earlier e first joined listed in
        let long_too = counted 0 start d.earlier e first joined_too listed_too in
        let rest : c.earlier ≡ d.earlier = one_chain start start c.earlier d.earlier e joined joined_too listed listed_too (omega (arith, long, long_too)) in
        c.ends ∙ ap (λ (l : List PathView). l ++ e ∷ []) rest ∙ sym ends

    leads_there : (chain : List PathView) → Connects start to scope xs chain → Any (λ x. IsTo to scope x.node) xs
    leads_there chain c = any_from (λ x. IsTo to scope x.node) xs c.end c.is.listed c.is.is

    pub one_path_to : (chain other : List PathView) → IsPathTo start to scope xs chain → IsPathTo start to scope xs other → chain ≡ other
    one_path_to chain other (inl (none, without)) (inl (nothing, not)) = none ∙ sym nothing
    one_path_to chain other (inl (none, without)) (inr d) = absurd (without (leads_there other d))
    one_path_to chain other (inr c) (inl (nothing, not)) = absurd (not (leads_there chain c))
    one_path_to chain other (inr c) (inr d) = same_ends chain other c d
