-- The object names of the rules that let one bind roles.
use Rattle.std.proofs.Common.{◌≡◌, ◌↔◌, [], List, Any, Contains, arith, inl, inr, refl, subst, sym}
use Rattle.std.specs.Prelude.{IsTrue, codes}
use Rattle.std.specs.List.Retain.{DiffersFromLast, IsFiltered}
use Rattle.std.specs.List.Sorted.{IsPermutation, IsSorted, IsStrictlySortedBy}
use Rattle.std.specs.Cmp.Lexicographic.{texts_ties}
use Rattle.std.specs.Str.{bytes_eq}
use Rattle.std.proofs.lemmas.Cmp.{nat_list_cmp_total, nat_list_eq_equiv}
use Rattle.std.proofs.lemmas.List.Filters.{dedup_is}
use Rattle.std.proofs.lemmas.List.Kept.{Contains-dedup, Contains-from_dedup, IsStrictlySortedBy-dedup}
use Rattle.std.proofs.lemmas.List.Sorted.{Contains-permutation, IsPermutation-sym}
use Rattle.std.proofs.lemmas.Slice.Eq.{bytes_eq-Decides}
use Rattle.rbac_terms.specs.Text.{Text, text_cmp}
use Rattle.rbac_terms.specs.Matching.{RuleAllows}
use Rattle.rbac_terms.specs.Targets.{Resource}
use Rattle.rbac_terms.specs.declared.granting.ClusterRole.{ClusterRole}
use Rattle.rbac_terms.specs.declared.granting.Role.{Role}
use Rattle.rbac_terms.specs.declared.matching.Rule.{Rule}
use Rattle.rbac_model.proofs.OwnWords.{any_from}
use Rattle.rbac_model.specs.Policies.{Held}
use Rattle.rbac_paths.specs.BoundNames.{AreBoundNames, BindsAny, BindsEach, BindsEachRole, BindsNamed, IsBoundName, SomeRule, TakesAllToo, TakesMore}
use Rattle.rbac_paths.specs.declared.bound_names.BindWords.{BindWords}
use Rattle.rbac_paths.specs.Rows.{AreOfStep, MatchesRow}
use Rattle.rbac_paths.specs.Steps.{StepRowView, rbac, table}
use Rattle.rbac_steps.specs.declared.steps.Step.{Step}
use Rattle.rbac_steps.specs.declared.steps.Step.TheVariants.{Bind, Escalate}
use Rattle.rbac_paths.proofs.WordsAdded.{AddsOf}
use Rattle.rbac_paths.specs.SharedWords.{AddsWhere}

module _ (rows : List StepRowView) (of : AreOfStep Bind table rows) (rule : Rule) where
  pub binds_named : Any (λ row. MatchesRow row rule) rows → (name : Text) → Contains rule.resource_names name ↔ BindsNamed rule name
  binds_named a name = (
    λ h. (let there = (of a.1).0 (a.0, a.2, a.3) in (any_from (λ row. (row.step ≡ Bind) × MatchesRow row rule) table a.1 there.0 (there.1, a.4), h)),
    λ b. b.1,
  )

  pub binds_none : (Any (λ row. MatchesRow row rule) rows → ⊥) → (name : Text) → BindsNamed rule name → ⊥
  binds_none none name b = let a = b.0 in none (any_from (λ row. MatchesRow row rule) rows a.1 ((of a.1).1 ((a.0, a.2, a.3), a.4.0)) a.4.1)

-- the names in the rules of these Roles are added
abbrev pub AddsOfRoles : List Role → List Text → List Text → Type 0
AddsOfRoles roles old new = AddsOf (λ role name. Any (λ rule. BindsNamed rule name) role.rules) roles old new

-- the names in the rules of these cluster roles are added
abbrev pub AddsOfClusterRoles : List ClusterRole → List Text → List Text → Type 0
AddsOfClusterRoles roles old new = AddsOf (λ role name. Any (λ rule. BindsNamed rule name) role.rules) roles old new

abbrev pub AddsOfBoth : List Role → List ClusterRole → List Text → Type 0
AddsOfBoth roles cluster_roles names = (between : List Text) × AddsOfRoles roles [] between × AddsOfClusterRoles cluster_roles between names

pub both_add : (h : Held) (names : List Text) → AddsOfBoth h.roles h.cluster_roles names → (name : Text) → Contains names name ↔ SomeRule (λ rule. BindsNamed rule name) h
both_add h names (between, first, second) name = (
  λ c. elim ((second name).0 c) [
    | inl mid ↦ (elim ((first name).0 mid) [ inl none ↦ absurd (let low = none.1 in omega (arith, low)) | inr is ↦ inl is ])
    | inr is ↦ inr is
  ],
  λ is. elim is [
    | inl own ↦ (second name).1 (inl ((first name).1 (inr own)))
    | inr cluster ↦ (second name).1 (inr cluster)
  ],
)

-- the names in rules are all bound names, if no rule lets one bind each Role; otherwise with the
-- names of all Roles
module _ (steps : List Step) (h : Held) (names : List Text) (in_rules : (name : Text) → Contains names name ↔ SomeRule (λ rule. BindsNamed rule name) h) where
  pub with_roles : SomeRule (BindsEachRole steps) h → (all : List Text) → AddsWhere (λ name. Any (λ role. role.name ≡ name) h.roles) names all → (name : Text) → Contains all name ↔ IsBoundName steps h name
  with_roles some all adds name = (
    λ c. elim ((adds name).0 c) [
      | inl listed ↦ inl ((in_rules name).0 listed)
      | inr role ↦ inr (some, role)
    ],
    λ is. elim is [
      | inl rule ↦ (adds name).1 (inl ((in_rules name).1 rule))
      | inr both ↦ (adds name).1 (inr both.1)
    ],
  )

  pub without_roles : (SomeRule (BindsEachRole steps) h → ⊥) → (name : Text) → Contains names name ↔ IsBoundName steps h name
  without_roles none name = (
    λ c. inl ((in_rules name).0 c),
    λ is. elim is [
      | inl rule ↦ (in_rules name).1 rule
      | inr both ↦ absurd (none both.0)
    ],
  )

-- after a sort and a dedup, the names are the same, in order
module _ (all sorted once : List Text) (moved : IsPermutation all sorted) (up : IsSorted text_cmp sorted) (kept : IsFiltered (DiffersFromLast bytes_eq) [] sorted once) where
  pub put_in_order : IsStrictlySortedBy text_cmp once
  put_in_order = rw (dedup_is bytes_eq sorted once kept) (IsStrictlySortedBy-dedup nat_list_cmp_total texts_ties sorted up)

  pub same_names : (w : Text) → Contains once w ↔ Contains all w
  same_names w =
      let e = dedup_is bytes_eq sorted once kept in (
        λ c. Contains-permutation sorted all w (IsPermutation-sym all sorted moved) (Contains-from_dedup bytes_eq sorted w (rw e at c)),
        λ c. rw e (Contains-dedup nat_list_eq_equiv (λ x y. (bytes_eq-Decides x y).0) sorted w (Contains-permutation all sorted w moved c)),
      )

-- names that are put in order are bound names as before
pub names_are : (steps : List Step) (h : Held) (listed names in_rules bound : List Text)
    → ((name : Text) → Contains listed name ↔ SomeRule (λ rule. BindsNamed rule name) h) → ((name : Text) → Contains names name ↔ IsBoundName steps h name)
    → IsStrictlySortedBy text_cmp in_rules → IsStrictlySortedBy text_cmp bound
    → ((name : Text) → Contains in_rules name ↔ Contains listed name) → ((name : Text) → Contains bound name ↔ Contains names name)
    → AreBoundNames steps h in_rules bound
names_are steps h listed names in_rules bound of are up ascending same too = record {
  listed_ascending = up;
  ascending = ascending;
  of_rules = λ w. (λ c. (of w).0 ((same w).0 c), λ is. (same w).1 ((of w).1 is));
  exact = λ w. (λ c. (are w).0 ((too w).0 c), λ is. (too w).1 ((are w).1 is));
}

-- ---- each Role, and not everything

some_as : (h : Held) (Is Also : Rule → Type 0) → ((rule : Rule) → Is rule → Also rule) → SomeRule Is h → SomeRule Also h
some_as h Is Also same (inl (k, role, low, at, (i, rule, within, is, holds))) = inl (k, role, low, at, (i, rule, within, is, same rule holds))
some_as h Is Also same (inr (k, role, low, at, (i, rule, within, is, holds))) = inr (k, role, low, at, (i, rule, within, is, same rule holds))

-- a rule allows a request exactly if it allows the one with the same words
by_words : (rule : Rule) (v verb g group k kind : Text) → v ≡ verb → g ≡ group → k ≡ kind → RuleAllows rule v (Resource g k []) ↔ RuleAllows rule verb (Resource group kind [])
by_words rule v verb g group k kind of_verb of_group of_kind =
    subst (λ (t : Text). RuleAllows rule v (Resource g k []) ↔ RuleAllows rule t (Resource group kind [])) of_verb
    (subst (λ (t : Text). RuleAllows rule v (Resource g k []) ↔ RuleAllows rule v (Resource t kind [])) of_group
    (subst (λ (t : Text). RuleAllows rule v (Resource g k []) ↔ RuleAllows rule v (Resource g t [])) of_kind (λ a. a, λ a. a)))

module _ (steps : List Step) (b : BindWords) (verb : b.verb.now ≡ codes "bind") (escalate : b.escalate.now ≡ codes "escalate") (group : b.group.now ≡ rbac) (roles : b.roles.now ≡ codes "roles") (cluster_roles : b.cluster_roles.now ≡ codes "clusterroles")
    (escalates : IsTrue b.escalates ↔ Any (λ step. step ≡ Escalate) steps) where
  among : IsTrue b.escalates → Contains steps Escalate
  among is = let a = escalates.0 is in subst (λ (s : Step). Contains steps s) a.4 (a.0, a.2, a.3)

  takes_all : (rule : Rule) → TakesMore b rule → TakesAllToo steps rule
  takes_all rule (inl all) = inl ((by_words rule b.verb.now (codes "bind") b.group.now rbac b.cluster_roles.now (codes "clusterroles") verb group cluster_roles).0 all)
  takes_all rule (inr both) = inr (among both.0, (by_words rule b.escalate.now (codes "escalate") b.group.now rbac b.roles.now (codes "roles") escalate group roles).0 both.1)

  takes_more : (rule : Rule) → TakesAllToo steps rule → TakesMore b rule
  takes_more rule (inl all) = inl ((by_words rule b.verb.now (codes "bind") b.group.now rbac b.cluster_roles.now (codes "clusterroles") verb group cluster_roles).1 all)
  takes_more rule (inr both) =
      inr (escalates.1 (any_from (λ step. step ≡ Escalate) steps Escalate both.0 refl), (by_words rule b.escalate.now (codes "escalate") b.group.now rbac b.roles.now (codes "roles") escalate group roles).1 both.1)

  each_role : (rule : Rule) → RuleAllows rule b.verb.now (Resource b.group.now b.roles.now []) ↔ BindsAny (codes "roles") rule
  each_role rule = by_words rule b.verb.now (codes "bind") b.group.now rbac b.roles.now (codes "roles") verb group roles

  pub each_by_words : (h : Held) → SomeRule (BindsEach b) h ↔ SomeRule (BindsEachRole steps) h
  unfolding BindsEach
  each_by_words h = (
    some_as h (BindsEach b) (BindsEachRole steps) (λ rule w. ((each_role rule).0 w.0, λ all. w.1 (takes_more rule all))),
    some_as h (BindsEachRole steps) (BindsEach b) (λ rule w. ((each_role rule).1 w.0, λ more. w.1 (takes_all rule more))),
  )
