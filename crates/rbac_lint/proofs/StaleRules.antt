-- the rules that aggregated roles gather, compared with their written ones
use Rattle.std.proofs.Common.{Bor, ◌≡◌, ℕ, ◌<◌, ◌+◌, ◌≢◌, ◌↔◌, inl, inr, List, [], ◌∷◌, ◌++◌, length, take, sym, ap, ◌∙◌, refl, subst, arith, cond}
use Rattle.std.specs.Prelude.{Option, Some, None, slice_get, Bool, true, false, IsTrue, Contains, All, not, get_or, is_some}
use Rattle.std.proofs.lemmas.Bool.{cases_lt}
use Rattle.std.proofs.lemmas.Option.{slice_get_within, slice_get-get_or, same_Some}
use Rattle.std.proofs.lemmas.List.Elements.{Contains-append_cases, Contains-append_left, Contains-append_right, Contains-push, Contains-push_cases, All-contains, Contains-get_or}
use Rattle.std.proofs.lemmas.List.{get_or-map, length-map, get_or_default, take_more, map-append}
use Rattle.std.specs.BTreeSet.{BTreeSet, contains}
use Rattle.std.specs.BTreeMap.{is_at}
use Rattle.std.specs.Cmp.Lexicographic.{slice_cmp}
use Rattle.std.specs.List.{list_any}
use Rattle.std.specs.Ordering.{is_eq}
use Rattle.std.specs.declared.cmp.Ordering.TheVariants.{Equal}
use Rattle.std.proofs.lemmas.Cmp.{tied_itself}
use Rattle.rbac_terms.specs.Text.{Text, text_cmp}
use Rattle.rbac_model.proofs.NamePlaces.{same_name}
use Rattle.rbac_lint.specs.RuleSets.{rule_lists, lists_cmp, lists_cmp_total, IsIn, IsSetOf}
use Rattle.rbac_terms.specs.declared.matching.Rule.{Rule}
use Rattle.rbac_terms.specs.declared.selecting.Selector.{Selector}
use Rattle.rbac_terms.specs.declared.granting.ClusterRole.{ClusterRole}
use Rattle.rbac_terms.proofs.Cases.{either_true, true_either}
use Rattle.rbac_terms.proofs.Orderings.{equal_from_test, both_equal}
use Rattle.rbac_model.specs.Places.{IsReachedAt}
use Rattle.rbac_model.specs.Policies.{Held, IsPlain, Reaches, IsSelectionPath, Step}
use Rattle.rbac_lint.specs.Findings.{IsGathered, IsStaleRole, HasSameRules}
use Rattle.rbac_lint.specs.Gathering.{AreGatheredBy, rules_at}

pub gathered_start : (h : Held) (place : ℕ) (rules : List Rule) → rules ≡ [] → AreGatheredBy h place 0 rules
gathered_start h place rules e = λ r here rule. (
  λ w. absurd (omega (arith, w.1, ap length e)),
  λ g. absurd (omega (arith, g.2)),
)

abbrev pub DecidesReach : Held → ℕ → ℕ → Bool → Type 0
DecidesReach h j k told = (r : ClusterRole) → slice_get h.cluster_roles j ≡ Some r → (IsTrue told ↔ IsReachedAt h r k)

pub gathered_more : (h : Held) (place i : ℕ) (s : ClusterRole) (told : Bool) (old new : List Rule) → slice_get h.cluster_roles i ≡ Some s → IsPlain s → DecidesReach h place i told → IsTrue told → AreGatheredBy h place i old → new ≡ old ++ s.rules → AreGatheredBy h place (i + 1) new
gathered_more h place i s told old new at plain tells so was e = λ r here rule. (
  λ w. (let P : List Rule → Type 0 = λ rs. Contains rs rule in
      elim (Contains-append_cases old s.rules rule (subst P e w)) [
        | inl o ↦ let g = (was r here rule).0 o in (g.0, g.1, omega (arith, g.2), g.3, g.4, g.5, g.6)
        | inr c ↦ (i, s, omega arith, at, plain, (tells r here).0 so, c)
      ]),
  λ g. (let P : List Rule → Type 0 = λ rs. Contains rs rule in
      subst P (sym e) (elim (cases_lt g.0 i) [
        | inl lt ↦ Contains-append_left old s.rules rule ((was r here rule).1 (g.0, g.1, lt, g.3, g.4, g.5, g.6))
        | inr le ↦
            let same : g.0 ≡ i = omega (arith, le, g.2) in
            let one : g.1 ≡ s = same_Some g.1 s (sym g.3 ∙ ap (slice_get h.cluster_roles) same ∙ at) in
            let Q : ClusterRole → Type 0 = λ v. Contains v.rules rule in
            Contains-append_right old s.rules rule (subst Q one g.6)
      ])),
)

pub gathered_same : (h : Held) (place i : ℕ) (s : ClusterRole) (rules : List Rule) → slice_get h.cluster_roles i ≡ Some s → ((r : ClusterRole) → slice_get h.cluster_roles place ≡ Some r → IsPlain s → IsReachedAt h r i → ⊥) → AreGatheredBy h place i rules → AreGatheredBy h place (i + 1) rules
gathered_same h place i s rules at not was = λ r here rule. (
  λ w. (let g = (was r here rule).0 w in (g.0, g.1, omega (arith, g.2), g.3, g.4, g.5, g.6)),
  λ g. elim (cases_lt g.0 i) [
    | inl lt ↦ (was r here rule).1 (g.0, g.1, lt, g.3, g.4, g.5, g.6)
    | inr le ↦
        let same : g.0 ≡ i = omega (arith, le, g.2) in
        let one : g.1 ≡ s = same_Some g.1 s (sym g.3 ∙ ap (slice_get h.cluster_roles) same ∙ at) in
        let P : ℕ → Type 0 = λ k. IsReachedAt h r k in
        absurd (not r here (subst IsPlain one g.4) (subst P same g.5))
  ],
)

-- what is reached stands somewhere
step_there : (h : Held) (r s : ClusterRole) → Step h r s → (k : ℕ) × (slice_get h.cluster_roles k ≡ Some s)
step_there h r s p = (p.0.0, slice_get-get_or h.cluster_roles p.0.0 s p.0.1 ∙ ap (λ (v : ClusterRole). Some v) p.0.2)

path_there : (h : Held) (r : ClusterRole) (between : List ClusterRole) (s : ClusterRole) → IsSelectionPath h r between s → (k : ℕ) × (slice_get h.cluster_roles k ≡ Some s)
path_there h r [] s p = step_there h r s p
path_there h r (m ∷ ms) s p = path_there h m ms s p.1

pub gathered_all : (h : Held) (place n : ℕ) (rules : List Rule) → n ≡ length h.cluster_roles → AreGatheredBy h place n rules → (r : ClusterRole) → slice_get h.cluster_roles place ≡ Some r → (rule : Rule) → Contains rules rule ↔ IsGathered h r rule
unfolding IsGathered
gathered_all h place n rules all was r here rule = (
  λ w. (let g = (was r here rule).0 w in
      let one : g.5.0 ≡ g.1 = same_Some g.5.0 g.1 (sym g.5.1 ∙ g.3) in
      let P : ClusterRole → Type 0 = λ v. Reaches h r v in
      (g.1, g.4, subst P one g.5.2, g.6)),
  λ g. (let k = path_there h r g.2.0 g.0 g.2.1 in
      (was r here rule).1 (k.0, g.0, omega (arith, all, slice_get_within h.cluster_roles k.0 g.0 k.1), k.1, g.1, (g.0, k.1, g.2), g.3)),
)

-- ---- sets that hold the same rules

each_of : {X : Type 0} (P : X → Type 0) (xs : List X) → ((x : X) → Contains xs x → P x) → All P xs
each_of P xs f k d l = f (get_or xs k d) (Contains-get_or xs k d l)

contains_now : (gs : List (Bor Rule)) (g : Bor Rule) → Contains gs g → Contains (rules_at gs) g.now
contains_now gs g w =
    (w.0, omega (arith, w.1, length-map gs (λ x. x.now)), get_or-map (λ x. x.now) gs w.0 g g.now w.1 ∙ ap (λ (v : Bor Rule). v.now) w.2)

-- whatever is shown is shown by a reference
shown_by : (gs : List (Bor Rule)) (rule : Rule) → Contains (rules_at gs) rule → (g : Bor Rule) × Contains gs g × (g.now ≡ rule)
shown_by [] rule w = absurd (omega (arith, w.1))
shown_by (g ∷ gs) rule w =
    let l : w.0 < length (g ∷ gs) = omega (arith, w.1, length-map (g ∷ gs) (λ x. x.now)) in
    let one : Bor Rule = get_or (g ∷ gs) w.0 g in
    (one, (w.0, l, get_or_default (g ∷ gs) w.0 one g l), sym (get_or-map (λ x. x.now) (g ∷ gs) w.0 g rule l) ∙ w.2)

-- each rule is in the set, and so each that is shown
each_in : (gs : List (Bor Rule)) (rules : List Rule) (set : BTreeSet (List (List Text))) → IsSetOf rules set → All (λ g. IsIn set g.now) gs → (rule : Rule) → Contains (rules_at gs) rule → Contains rules rule
unfolding IsSetOf
each_in gs rules set is all rule w =
    let g = shown_by gs rule w in
    let P : Rule → Type 0 = λ v. IsIn set v in
    (is rule).0 (subst P g.2 (All-contains (λ (x : Bor Rule). IsIn set x.now) gs g.0 all g.1))

in_each : (gs : List (Bor Rule)) (rules : List Rule) (set : BTreeSet (List (List Text))) → IsSetOf rules set → ((rule : Rule) → Contains (rules_at gs) rule → Contains rules rule) → All (λ g. IsIn set g.now) gs
unfolding IsSetOf
in_each gs rules set is f = each_of (λ (g : Bor Rule). IsIn set g.now) gs (λ g w. (is g.now).1 (f g.now (contains_now gs g w)))

pub same_rules_from : (ws gs : List (Bor Rule)) (these those : BTreeSet (List (List Text))) → IsSetOf (rules_at ws) these → IsSetOf (rules_at gs) those
    → All (λ w. IsIn those w.now) ws → All (λ g. IsIn these g.now) gs → HasSameRules (rules_at ws) (Contains (rules_at gs))
same_rules_from ws gs these those p q f g = λ rule. (each_in ws (rules_at gs) those q f rule, each_in gs (rules_at ws) these p g rule)

pub same_rules_gathered : (ws gs : List (Bor Rule)) (those : BTreeSet (List (List Text))) → IsSetOf (rules_at gs) those → HasSameRules (rules_at ws) (Contains (rules_at gs)) → All (λ w. IsIn those w.now) ws
same_rules_gathered ws gs those q s = in_each ws (rules_at gs) those q (λ rule w. (s rule).0 w)

pub same_rules_written : (ws gs : List (Bor Rule)) (these : BTreeSet (List (List Text))) → IsSetOf (rules_at ws) these → HasSameRules (rules_at ws) (Contains (rules_at gs)) → All (λ g. IsIn these g.now) gs
same_rules_written ws gs these p s = in_each gs (rules_at ws) these p (λ rule w. (s rule).1 w)

-- ---- a set grows

exact_lists : (xs ys : List (List Text)) → lists_cmp xs ys ≡ Equal → xs ≡ ys
exact_lists [] [] e = refl
exact_lists [] (y ∷ ys) e = cc
exact_lists (x ∷ xs) [] e = cc
exact_lists (x ∷ xs) (y ∷ ys) e =
    let parts = both_equal (slice_cmp text_cmp x y) (lists_cmp xs ys) e in
    let heads : x ≡ y = same_name (λ (t : List Text). t) x y parts.0 in
    let tails : xs ≡ ys = exact_lists xs ys parts.1 in cc

abbrev rule_of : List Text → List Text → List Text → List Text → List Text → Rule
rule_of verbs groups resources names urls = record { verbs = verbs; groups = groups; resources = resources; resource_names = names; urls = urls }

same_rule : (a b : Rule) → rule_lists a ≡ rule_lists b → a ≡ b
same_rule a b e =
    let verbs : a.verbs ≡ b.verbs = cc (e) in
    let groups : a.groups ≡ b.groups = cc (e) in
    let resources : a.resources ≡ b.resources = cc (e) in
    let names : a.resource_names ≡ b.resource_names = cc (e) in
    let urls : a.urls ≡ b.urls = cc (e) in
    ap (λ (ws : List Text). rule_of ws a.groups a.resources a.resource_names a.urls) verbs
    ∙ ap (λ (ws : List Text). rule_of b.verbs ws a.resources a.resource_names a.urls) groups
    ∙ ap (λ (ws : List Text). rule_of b.verbs b.groups ws a.resource_names a.urls) resources
    ∙ ap (λ (ws : List Text). rule_of b.verbs b.groups b.resources ws a.urls) names
    ∙ ap (λ (ws : List Text). rule_of b.verbs b.groups b.resources b.resource_names ws) urls

tied_rule : (a b : Rule) → a ≡ b → is_eq (lists_cmp (rule_lists a) (rule_lists b)) ≡ true
tied_rule a b e = ap (λ (v : Rule). is_eq (lists_cmp (rule_lists a) (rule_lists v))) (sym e) ∙ ap is_eq (tied_itself lists_cmp_total (rule_lists a))

pub set_start : (set : BTreeSet (List (List Text))) → set.keys ≡ [] → IsSetOf [] set
unfolding IsSetOf IsIn
set_start set e rule = (
  λ t. absurd (let none : contains lists_cmp set (rule_lists rule) ≡ false = ap (λ (ks : List (List (List Text))). list_any (is_at (lists_cmp (rule_lists rule))) ks) e in cc),
  λ w. absurd (omega (arith, w.1)),
)

pub set_more : (rules : List Rule) (a : Rule) (old new : BTreeSet (List (List Text)))
    → ((q : List (List Text)) → contains lists_cmp new q ≡ cond (is_eq (lists_cmp (rule_lists a) q)) true (contains lists_cmp old q)) → IsSetOf rules old → IsSetOf (rules ++ a ∷ []) new
unfolding IsSetOf IsIn
set_more rules a old new is was rule =
    let now = is (rule_lists rule) in (
      λ t. elim (either_true (is_eq (lists_cmp (rule_lists a) (rule_lists rule))) (contains lists_cmp old (rule_lists rule)) (sym now ∙ t)) [
        | inl e ↦
            let same : a ≡ rule = same_rule a rule (exact_lists (rule_lists a) (rule_lists rule) (equal_from_test (lists_cmp (rule_lists a) (rule_lists rule)) e)) in
            subst (λ (v : Rule). Contains (rules ++ a ∷ []) v) same (Contains-push rules a)
        | inr o ↦ Contains-append_left rules (a ∷ []) rule ((was rule).0 o)
      ],
      λ w. now ∙ true_either (is_eq (lists_cmp (rule_lists a) (rule_lists rule))) (contains lists_cmp old (rule_lists rule)) (elim (Contains-push_cases rules a rule w) [
        | inl o ↦ inr ((was rule).1 o)
        | inr e ↦ inl (tied_rule a rule e)
      ]),
    )

pub set_more_taken : (gs : List (Bor Rule)) (i : ℕ) (g : Bor Rule) (old new : BTreeSet (List (List Text))) → i < length gs → g ≡ get_or gs i g
    → ((q : List (List Text)) → contains lists_cmp new q ≡ cond (is_eq (lists_cmp (rule_lists g.now) q)) true (contains lists_cmp old q))
    → IsSetOf (rules_at (take i gs)) old → IsSetOf (rules_at (take (i + 1) gs)) new
set_more_taken gs i g old new lt at is was =
    let taken : take (i + 1) gs ≡ take i gs ++ g ∷ [] = take_more gs i g lt ∙ ap (λ (x : Bor Rule). take i gs ++ x ∷ []) (sym at) in
    let more : rules_at (take (i + 1) gs) ≡ rules_at (take i gs) ++ g.now ∷ [] = ap rules_at taken ∙ map-append (λ (x : Bor Rule). x.now) (take i gs) (g ∷ []) in
    subst (λ (rs : List Rule). IsSetOf rs new) (sym more) (set_more (rules_at (take i gs)) g.now old new is was)

-- ---- stale roles

plain_none : (o : Option (List Selector)) (b : Bool) → is_some o ≡ not b → b ≡ true → o ≡ None
plain_none None b e f = refl
plain_none (Some x) b e f = let g : not b ≡ false = ap not f in cc

aggregated_some : (o : Option (List Selector)) (b : Bool) → is_some o ≡ not b → b ≡ false → o ≡ None → ⊥
aggregated_some None b e f g = let k : not b ≡ true = ap not f in cc
aggregated_some (Some x) b e f g = cc

pub plain_not_stale : (h : Held) (r : ClusterRole) (b : Bool) → is_some r.aggregation ≡ not b → b ≡ true → IsStaleRole h r → ⊥
unfolding IsStaleRole
plain_not_stale h r b e f s = s.0 (plain_none r.aggregation b e f)

pub empty_not_stale : (h : Held) (r : ClusterRole) → (r.rules ≢ [] → ⊥) → IsStaleRole h r → ⊥
unfolding IsStaleRole
empty_not_stale h r e s = e s.1

same_gathered : (h : Held) (r : ClusterRole) (rules : List Rule) → ((rule : Rule) → Contains rules rule ↔ IsGathered h r rule) → HasSameRules r.rules (Contains rules) → HasSameRules r.rules (IsGathered h r)
same_gathered h r rules are s = λ rule. (λ w. (are rule).0 ((s rule).0 w), λ g. (s rule).1 ((are rule).1 g))

gathered_list : (h : Held) (r : ClusterRole) (rules : List Rule) → ((rule : Rule) → Contains rules rule ↔ IsGathered h r rule) → HasSameRules r.rules (IsGathered h r) → HasSameRules r.rules (Contains rules)
gathered_list h r rules are s = λ rule. (λ w. (are rule).1 ((s rule).0 w), λ g. (s rule).1 ((are rule).0 g))

not_false : (b : Bool) → (b ≡ true → ⊥) → not b ≡ true
not_false true f = absurd (f refl)
not_false false f = refl

not_both : (b : Bool) → not b ≡ true → b ≡ true → ⊥
not_both true f g = cc
not_both false f g = cc

pub stale_iff : (h : Held) (r : ClusterRole) (b same : Bool) (rules : List Rule) → is_some r.aggregation ≡ not b → b ≡ false → r.rules ≢ [] → ((rule : Rule) → Contains rules rule ↔ IsGathered h r rule) → (IsTrue same ↔ HasSameRules r.rules (Contains rules)) → IsTrue (not same) ↔ IsStaleRole h r
unfolding IsStaleRole
stale_iff h r b same rules e f some are i = (
  λ t. (aggregated_some r.aggregation b e f, some, λ s. not_both same t (i.1 (gathered_list h r rules are s))),
  λ s. not_false same (λ t. s.2 (same_gathered h r rules are (i.0 t))),
)

-- an aggregated source is not plain
source_some : (o : Option (List Selector)) (b : Bool) → b ≡ is_some o → b ≡ true → o ≡ None → ⊥
source_some None b e f g = cc
source_some (Some x) b e f g = cc

source_none : (o : Option (List Selector)) (b : Bool) → b ≡ is_some o → b ≡ false → o ≡ None
source_none None b e f = refl
source_none (Some x) b e f = cc

pub not_plain_source : (s : ClusterRole) (b : Bool) → b ≡ is_some s.aggregation → b ≡ true → IsPlain s → ⊥
not_plain_source s b e f p = source_some s.aggregation b e f p

pub plain_source : (s : ClusterRole) (b : Bool) → b ≡ is_some s.aggregation → b ≡ false → IsPlain s
plain_source s b e f = source_none s.aggregation b e f
