-- Why a node attains an aim: a user or a group by its first grant that serves it, a role by its
-- first rule.
use Rattle.std.proofs.Common.{◌≡◌, ◌↔◌, ◌<◌, ◌≤◌, ◌∙◌, ◌+◌, ◌++◌, ◌∷◌, Bor, get_or, map, ℕ, zero, suc, List, [], Option, Some, Any, ap, append-nil, arith, inl, inr, ◌⊎◌, length, option_map, refl, slice_get, subst, sym}
use Rattle.std.specs.List.{flat_map}
use Rattle.std.proofs.lemmas.Bool.{cases_lt}
use Rattle.std.proofs.lemmas.Option.{same_Some, slice_get_within, slice_get-get_or, slice_get-map}
use Rattle.rbac_terms.specs.Text.{Text}
use Rattle.rbac_terms.specs.Principals.{Who}
use Rattle.rbac_terms.specs.Matching.{RuleAllows}
use Rattle.rbac_terms.specs.Targets.{Resource}
use Rattle.rbac_terms.specs.declared.granting.ClusterRole.{ClusterRole}
use Rattle.rbac_terms.specs.declared.granting.Role.{Role}
use Rattle.rbac_terms.specs.declared.matching.Rule.{Rule}
use Rattle.rbac_model.proofs.OneList.{one_rules}
use Rattle.rbac_model.proofs.OwnWords.{any_from, any_weaker}
use Rattle.rbac_model.specs.Lists.{IsFirstAt}
use Rattle.rbac_model.specs.Policies.{AreRulesOf, BindingNames, GrantView, Held, IsPolicy, InClusterRole, InRole, Live, PolicyView, Source, SourcedRule, written_from}
use Rattle.rbac_subjects.specs.Bound.{IsNamedBy, IsNextRunOf}
use Rattle.rbac_paths.specs.Access.{AccessView, AllowsAccess}
use Rattle.rbac_paths.specs.Aims.{AimView, Attains, GrantServes, Serves, ToBeAllowed, ToTakeOver}
use Rattle.rbac_paths.specs.Having.{AreHoldings, HasRoleRule, HoldingView, IsHolding}
use Rattle.rbac_paths.specs.Nodes.{NodeView, ClusterRoleIn, OwnRole, Somebody}
use Rattle.rbac_paths.specs.Reasons.{IsFirstRule, NoneBefore, NoneServesIn}
use Rattle.rbac_paths.specs.Steps.{asked_in}
use Rattle.rbac_paths.specs.Told.{AreSourceRoles}
use Rattle.rbac_paths.proofs.AllowedBy.{allow_by}
use Rattle.rbac_paths.proofs.ByRules.{rule_takes}

-- ---- if a node attains an aim, one of its rules serves the aim

pub served : (p : PolicyView) → IsPolicy p → (x : NodeView) (aim : AimView) → Attains p x aim → (h : HoldingView) × IsHolding p x h × Serves aim h.home h.rule
unfolding Serves
served p ok x (ToTakeOver step y) c =
    let w = (allow_by p ok x (asked_in c.row.counts c.namespace) c.verb (Resource c.row.group c.text c.name)).0 c.allowed in
    (w.0, w.1, rule_takes p x step y w.0.home w.0.rule c w.2 w.3)
served p ok x (ToBeAllowed asked) allowed =
    let w = (allow_by p ok x asked.namespace asked.verb asked.target).0 allowed in
    (w.0, w.1, (w.2, w.3))

-- a node allows a request exactly if one of its holdings does
pub allowed_by : (p : PolicyView) → IsPolicy p → (x : NodeView) (hs : List HoldingView) → AreHoldings p x hs → (asked : AccessView)
    → Any (λ h. Serves (ToBeAllowed asked) h.home h.rule) hs ↔ AllowsAccess p asked x
unfolding Serves
allowed_by p ok x hs are asked = (
  λ a. (allow_by p ok x asked.namespace asked.verb asked.target).1 (a.1, (are a.1).0 (a.0, a.2, a.3), a.4.0, a.4.1),
  λ allowed. (let w = (allow_by p ok x asked.namespace asked.verb asked.target).0 allowed in
      any_from (λ h. Live h.home asked.namespace asked.target × RuleAllows h.rule asked.verb asked.target) hs w.0 ((are w.0).1 w.1) (w.2, w.3)),
)

-- ---- grants, run by run

module _ (p : PolicyView) (aim : AimView) (start : ℕ) where
  pub none_in : NoneServesIn p aim start start
  none_in k g low high here serves = absurd (omega (arith, low, high))

  pub none_more_in : (number : ℕ) (g : GrantView) → slice_get p.grants number ≡ Some g → (Serves aim g.binding.namespace g.rule.rule → ⊥) → NoneServesIn p aim start number → NoneServesIn p aim start (number + 1)
  none_more_in number g here isnt none k h low high there serves = elim (cases_lt k number) [
    | inl less ↦ none k h low less there serves
    | inr le ↦ (let same : k ≡ number = omega (arith, high, le) in
        let is : h ≡ g = same_Some h g (sym (subst (λ (i : ℕ). slice_get p.grants i ≡ Some h) same there) ∙ here) in
        isnt (subst (λ (x : GrantView). Serves aim x.binding.namespace x.rule.rule) is serves))
  ]

module _ (p : PolicyView) (aim : AimView) (who : Who) where
  pub none_at_first : NoneBefore p aim who 0
  none_at_first k g low here serves = absurd (omega (arith, low))

  module _ (from start end : ℕ) (run : IsNextRunOf p (IsNamedBy p who) from start end) (before : NoneBefore p aim who from) where
    pub run_before : (n : ℕ) → n ≤ end → NoneServesIn p aim start n → NoneBefore p aim who n
    run_before n le none k g low here serves = elim (cases_lt k from) [
      | inl less ↦ before k g less here serves
      | inr high ↦ (elim (cases_lt k start) [
        | inl early ↦ run.none_before k high early (g, here, serves.0)
        | inr in_run ↦ none k g in_run low here serves.1
      ])
    ]

    pub run_serves : (n : ℕ) (g : GrantView) → start ≤ n → n < end → slice_get p.grants n ≡ Some g → Serves aim g.binding.namespace g.rule.rule → NoneServesIn p aim start n
        → (h : GrantView) × IsFirstAt (GrantServes aim who) p.grants n h
    run_serves n g low high here serves none = (
      g,
      record {
        here = here;
        holds = (let named = run.bound n low high in (subst (λ (x : GrantView). BindingNames x.binding who) (same_Some named.0 g (sym named.1 ∙ here)) named.2, serves));
        none_before = λ k h less there other. run_before n (omega (arith, high)) none k h less there other;
      },
    )

  pub none_left : (count : ℕ) → ((number : ℕ) → count ≤ number → ¬ IsNamedBy p who number) → NoneBefore p aim who count → (past : ℕ) → NoneBefore p aim who past
  none_left count none before past n g within here serves = elim (cases_lt n count) [
    | inl less ↦ before n g less here serves
    | inr high ↦ none n high (g, here, serves.0)
  ]

  -- a principal doesn't attain the aim if no grant serves it
  pub somebody_none : IsPolicy p → ((count : ℕ) → NoneBefore p aim who count) → ¬ Attains p (Somebody who) aim
  somebody_none ok none c =
      let w = served p ok (Somebody who) aim c in
      let by = w.1 in
      let g = by.1 in
      none (suc by.0) by.0 g (omega arith) (slice_get-get_or p.grants by.0 g by.2 ∙ ap (λ (v : GrantView). Some v) by.3)
      (by.4.0, subst (λ (rule : Rule). Serves aim g.binding.namespace rule) (sym by.4.2) (subst (λ (home : Option Text). Serves aim home w.0.rule) (sym by.4.1) w.2))

-- ---- rules, role by role

module _ {X : Type 0} (P : X → Type 0) where
  later : (x : X) (xs : List X) (n : ℕ) → (P x → ⊥) → ((k : ℕ) (y : X) → k < n → slice_get xs k ≡ Some y → P y → ⊥) → (k : ℕ) (y : X) → k < suc n → slice_get (x ∷ xs) k ≡ Some y → P y → ⊥
  later x xs n isnt none zero y low at q = isnt (subst P (sym (same_Some x y at)) q)
  later x xs n isnt none (suc k) y low at q = none k y (omega (arith, low)) at q

  first_later : (x : X) (xs : List X) (n : ℕ) (r : X) → (P x → ⊥) → IsFirstAt P xs n r → IsFirstAt P (x ∷ xs) (suc n) r
  first_later x xs n r isnt f = record { here = f.here; holds = f.holds; none_before = later x xs n isnt f.none_before }

  not_first : (x : X) (xs : List X) (n : ℕ) (r : X) → IsFirstAt P (x ∷ xs) (suc n) r → P x → ⊥
  not_first x xs n r f q = f.none_before zero x (omega arith) refl q

  in_rest : (x : X) (xs : List X) (n : ℕ) (r : X) → IsFirstAt P (x ∷ xs) (suc n) r → IsFirstAt P xs n r
  in_rest x xs n r f = record { here = f.here; holds = f.holds; none_before = λ k y low at q. f.none_before (suc k) y (omega (arith, low)) at q }

  -- the first element of a list with the property is also the first of two joined lists, if the
  -- list is the front one, or if the front one has no such element
  first_ahead : (xs ys : List X) (n : ℕ) (r : X) → IsFirstAt P xs n r → IsFirstAt P (xs ++ ys) n r
  first_ahead [] ys n r f = absurd (let low = slice_get_within [] n r f.here in omega (arith, low))
  first_ahead (x ∷ xs) ys zero r f = record { here = f.here; holds = f.holds; none_before = λ k y low at q. absurd (omega (arith, low)) }
  first_ahead (x ∷ xs) ys (suc n) r f = first_later x (xs ++ ys) n r (not_first x xs n r f) (first_ahead xs ys n r (in_rest x xs n r f))

  first_behind : (xs ys : List X) (n : ℕ) (r : X) → (Any P xs → ⊥) → IsFirstAt P ys n r → IsFirstAt P (xs ++ ys) (length xs + n) r
  first_behind [] ys n r none f = let same : n ≡ 0 + n = omega arith in subst (λ (i : ℕ). IsFirstAt P ys i r) same f
  first_behind (x ∷ xs) ys n r none f =
      let same : suc (length xs + n) ≡ length (x ∷ xs) + n = omega arith in
      subst (λ (i : ℕ). IsFirstAt P (x ∷ xs ++ ys) i r) same
      (first_later x (xs ++ ys) (length xs + n) r (λ q. none (0, x, omega arith, refl, q)) (first_behind xs ys n r (λ a. none (suc a.0, a.1, omega (arith, a.2), a.3, a.4)) f))

  any_split : (xs ys : List X) → Any P (xs ++ ys) → Any P xs ⊎ Any P ys
  any_split [] ys b = inr b
  any_split (x ∷ xs) ys (zero, r, low, at, lets) = inl (0, r, omega arith, at, lets)
  any_split (x ∷ xs) ys (suc k, r, low, at, lets) = elim (any_split xs ys (k, r, omega (arith, low), at, lets)) [
    | inl here ↦ inl (suc here.0, here.1, omega (arith, here.2), here.3, here.4)
    | inr there ↦ inr there
  ]

-- the rules of a role, as they are written
module _ (aim : AimView) (home : Option Text) where
  abbrev IsLet : SourcedRule → Type 0
  IsLet r = Serves aim home r.rule

  abbrev pub Lets : Rule → Type 0
  Lets rule = Serves aim home rule

  written_first : (source : Source) (i : ℕ) (rules : List Rule) (n : ℕ) (rule : Rule) → IsFirstAt Lets rules n rule → IsFirstAt IsLet (written_from source i rules) n (record { source = source; rule = rule; place = i + n })
  written_first source i [] n rule f = absurd (let low = slice_get_within [] n rule f.here in omega (arith, low))
  written_first source i (x ∷ xs) zero rule f =
      let same : i ≡ i + 0 = omega arith in
      let is : x ≡ rule = same_Some x rule f.here in
      record {
        here = ap (λ (q : Rule). let v : SourcedRule = record { source = source; rule = q; place = i } in Some v) is ∙ ap (λ (m : ℕ). let v : SourcedRule = record { source = source; rule = rule; place = m } in Some v) same;
        holds = f.holds;
        none_before = λ k z low at q. absurd (omega (arith, low));
      }
  written_first source i (x ∷ xs) (suc n) rule f =
      let moved : i + 1 + n ≡ i + suc n = omega arith in
      let rest = written_first source (i + 1) xs n rule (in_rest Lets x xs n rule f) in
      first_later IsLet (record { source = source; rule = x; place = i }) (written_from source (i + 1) xs) n (record { source = source; rule = rule; place = i + suc n }) (not_first Lets x xs n rule f)
      (subst (λ (m : ℕ). IsFirstAt IsLet (written_from source (i + 1) xs) n (record { source = source; rule = rule; place = m })) moved rest)

  written_at : (source : Source) (rules : List Rule) (n : ℕ) (rule : Rule) → IsFirstAt Lets rules n rule → IsFirstAt IsLet (written_from source 0 rules) n (record { source = source; rule = rule; place = n })
  written_at source rules n rule f =
      let same : 0 + n ≡ n = omega arith in
      subst (λ (m : ℕ). IsFirstAt IsLet (written_from source 0 rules) n (record { source = source; rule = rule; place = m })) same (written_first source 0 rules n rule f)

  written_none : (source : Source) (i : ℕ) (rules : List Rule) → (Any Lets rules → ⊥) → Any IsLet (written_from source i rules) → ⊥
  written_none source i [] none (k, r, low, at, lets) = absurd (omega (arith, low))
  written_none source i (x ∷ xs) none (zero, r, low, at, lets) = none (0, x, omega arith, refl, subst IsLet (sym at) lets)
  written_none source i (x ∷ xs) none (suc k, r, low, at, lets) =
      written_none source (i + 1) xs (λ a. none (suc a.0, a.1, omega (arith, a.2), a.3, a.4)) (k, r, omega (arith, low), at, lets)

  abbrev pub rules_of_roles : List ClusterRole → List SourcedRule
  rules_of_roles ss = flat_map (λ s. written_from (InClusterRole s) 0 s.rules) ss

  -- none of the first `count` roles has such a rule
  abbrev pub NoneOf : List ClusterRole → ℕ → Type 0
  NoneOf ss count = (k : ℕ) (s : ClusterRole) → k < count → slice_get ss k ≡ Some s → Any Lets s.rules → ⊥

  pub none_of_none : (ss : List ClusterRole) → NoneOf ss 0
  none_of_none ss k s low at a = absurd (omega (arith, low))

  pub none_of_more : (ss : List ClusterRole) (count : ℕ) (s : ClusterRole) → slice_get ss count ≡ Some s → (Any Lets s.rules → ⊥) → NoneOf ss count → NoneOf ss (count + 1)
  none_of_more ss count s here isnt none k t low there a = elim (cases_lt k count) [
    | inl less ↦ none k t less there a
    | inr le ↦ (let same : k ≡ count = omega (arith, low, le) in
        let is : t ≡ s = same_Some t s (sym (subst (λ (i : ℕ). slice_get ss i ≡ Some t) same there) ∙ here) in
        isnt (subst (λ (x : ClusterRole). Any Lets x.rules) is a))
  ]

  gathered_first : (ss : List ClusterRole) (at : ℕ) (s : ClusterRole) (n : ℕ) (rule : Rule) → slice_get ss at ≡ Some s → NoneOf ss at → IsFirstAt Lets s.rules n rule
      → (m : ℕ) × IsFirstAt IsLet (rules_of_roles ss) m (record { source = InClusterRole s; rule = rule; place = n })
  gathered_first [] at s n rule here none f = absurd (let low = slice_get_within [] at s here in omega (arith, low))
  gathered_first (t ∷ ts) zero s n rule here none f =
      let is : t ≡ s = same_Some t s here in (
        n,
        subst (λ (x : ClusterRole). IsFirstAt IsLet (written_from (InClusterRole x) 0 x.rules ++ rules_of_roles ts) n (record { source = InClusterRole s; rule = rule; place = n })) (sym is)
            (first_ahead IsLet (written_from (InClusterRole s) 0 s.rules) (rules_of_roles ts) n (record { source = InClusterRole s; rule = rule; place = n }) (written_at (InClusterRole s) s.rules n rule f)),
      )
  gathered_first (t ∷ ts) (suc at) s n rule here none f =
      let rest = gathered_first ts at s n rule here (λ k x low there a. none (suc k) x (omega (arith, low)) there a) f in
      let own = written_from (InClusterRole t) 0 t.rules in (
        length own + rest.0,
        first_behind IsLet own (rules_of_roles ts) rest.0 (record { source = InClusterRole s; rule = rule; place = n })
            (written_none (InClusterRole t) 0 t.rules (none zero t (omega arith) refl)) rest.1,
      )

  gathered_none : (ss : List ClusterRole) → NoneOf ss (length ss) → Any IsLet (rules_of_roles ss) → ⊥
  gathered_none [] none (k, r, low, at, lets) = absurd (omega (arith, low))
  gathered_none (t ∷ ts) none a = elim (any_split IsLet (written_from (InClusterRole t) 0 t.rules) (rules_of_roles ts) a) [
    | inl own ↦ written_none (InClusterRole t) 0 t.rules (none zero t (omega arith) refl) own
    | inr rest ↦ gathered_none ts (λ k x low there b. none (suc k) x (omega (arith, low)) there b) rest
  ]

  module _ (h : Held) where
    -- the rules of its source roles are the rules of the cluster role
    sources_rules : (role : ClusterRole) (ss : List ClusterRole) → AreSourceRoles h role ss → AreRulesOf h (InClusterRole role) (rules_of_roles ss)
    sources_rules role ss (inl (plain, own)) =
        inl (plain, ap (λ (xs : List ClusterRole). rules_of_roles xs) own ∙ append-nil (written_from (InClusterRole role) 0 role.rules))
    sources_rules role ss (inr (aggregated, are)) = inr (aggregated, (ss, are, refl))

    pub cluster_role_rule : (role : ClusterRole) (ss : List ClusterRole) (at : ℕ) (s : ClusterRole) (n : ℕ) (rule : Rule) → AreSourceRoles h role ss → slice_get ss at ≡ Some s → NoneOf ss at → IsFirstAt Lets s.rules n rule
        → IsFirstRule h (InClusterRole role) home aim (InClusterRole s) n
    cluster_role_rule role ss at s n rule are here none f =
        let first = gathered_first ss at s n rule here none f in
        (rules_of_roles ss, sources_rules role ss are, (first.0, record { source = InClusterRole s; rule = rule; place = n }, first.1, refl, refl))

    pub own_role_rule : (role : Role) (n : ℕ) (rule : Rule) → IsFirstAt Lets role.rules n rule → IsFirstRule h (InRole role) home aim (InRole role) n
    own_role_rule role n rule f =
        (written_from (InRole role) 0 role.rules, refl, (n, record { source = InRole role; rule = rule; place = n }, written_at (InRole role) role.rules n rule f, refl, refl))

-- a role doesn't attain the aim if none of its rules serves it
module _ (p : PolicyView) (ok : IsPolicy p) (aim : AimView) where
  -- if the role has a rule that serves the aim, one of its rules does
  let_by : (role : Source) (home : Option Text) (rules : List SourcedRule) → AreRulesOf p.held role rules → (h : HoldingView) → home ≡ h.home → HasRoleRule p.held role h.rule → Serves aim h.home h.rule
      → Any (λ r. Serves aim home r.rule) rules
  let_by role home rules are h there has serves =
      let same = one_rules p.held role has.0 rules has.1 are in
      any_weaker (λ r. r.rule ≡ h.rule) (λ r. Serves aim home r.rule) rules
      (λ r is. subst (λ (rule : Rule). Serves aim home rule) (sym is) (subst (λ (o : Option Text). Serves aim o h.rule) (sym there) serves))
      (subst (λ (rs : List SourcedRule). Any (λ r. r.rule ≡ h.rule) rs) same has.2)

  pub own_role_none : (role : Role) → (Any (Lets aim (Some role.namespace)) role.rules → ⊥) → ¬ Attains p (OwnRole role) aim
  own_role_none role none c =
      let w = served p ok (OwnRole role) aim c in
      written_none aim (Some role.namespace) (InRole role) 0 role.rules none
      (let_by (InRole role) (Some role.namespace) (written_from (InRole role) 0 role.rules) refl w.0 w.1.0 w.1.1 w.2)

  pub cluster_role_none : (role : ClusterRole) (scope : Option Text) (ss : List ClusterRole) → AreSourceRoles p.held role ss → NoneOf aim scope ss (length ss) → ¬ Attains p (ClusterRoleIn role scope) aim
  cluster_role_none role scope ss are none c =
      let w = served p ok (ClusterRoleIn role scope) aim c in
      gathered_none aim scope ss none
      (let_by (InClusterRole role) scope (rules_of_roles aim scope ss) (sources_rules aim scope p.held role ss are) w.0 w.1.0 w.1.1 w.2)

-- ---- one rule after the other

module _ (aim : AimView) (home : Option Text) (rules : List Rule) where
  -- none of the first `count` rules serves the aim
  abbrev pub NoneOfRules : ℕ → Type 0
  NoneOfRules count = (k : ℕ) (r : Rule) → k < count → slice_get rules k ≡ Some r → Serves aim home r → ⊥

  pub none_of_rule_more : (count : ℕ) (rule : Rule) → slice_get rules count ≡ Some rule → (Serves aim home rule → ⊥) → NoneOfRules count → NoneOfRules (count + 1)
  none_of_rule_more count rule here isnt none k r low there serves = elim (cases_lt k count) [
    | inl less ↦ none k r less there serves
    | inr le ↦ (let same : k ≡ count = omega (arith, low, le) in
        let is : r ≡ rule = same_Some r rule (sym (subst (λ (i : ℕ). slice_get rules i ≡ Some r) same there) ∙ here) in
        isnt (subst (λ (x : Rule). Serves aim home x) is serves))
  ]

  pub none_of_rules : (count : ℕ) → length rules ≤ count → NoneOfRules count → Any (Serves aim home) rules → ⊥
  none_of_rules count end none a =
      none a.0 a.1 (omega (arith, a.2, end)) (slice_get-get_or rules a.0 a.1 a.2 ∙ ap (λ (r : Rule). Some r) a.3) a.4

-- the role at a place of a list
pub role_there : (items : List (Bor ClusterRole)) (at : ℕ) (item : Bor ClusterRole) → at < length items → item ≡ get_or items at item → slice_get (map (λ s. s.now) items) at ≡ Some item.now
role_there items at item low is =
    let there : slice_get items at ≡ Some item = slice_get-get_or items at item low ∙ ap (λ (s : Bor ClusterRole). Some s) (sym is) in
    slice_get-map (λ (s : Bor ClusterRole). s.now) items at ∙ ap (option_map (λ (s : Bor ClusterRole). s.now)) there
