-- what is requested with any object name is requested with some object name
use Rattle.std.proofs.Common.{ℕ, ◌↔◌, List, [], ◌∷◌, sym, subst, refl, inl, inr, arith}
use Rattle.std.specs.Prelude.{Option, Some, None}
use Rattle.rbac_terms.specs.Text.{Text}
use Rattle.rbac_terms.specs.Targets.{What, Resource, Url, IsUrl, IsResource}
use Rattle.rbac_terms.specs.Matching.{NameMatches, RuleAllows, VerbOk}
use Rattle.rbac_terms.specs.declared.matching.Rule.{Rule}
use Rattle.rbac_model.specs.Policies.{Held, Live}
use Rattle.rbac_index.specs.Requested.{StemOk}
use Rattle.rbac_index.specs.Requested.{ThisTarget, AnyName, AllowsRequested, with_name}
use Rattle.rbac_terms.specs.declared.scope.Scope.{Scope}
use Rattle.rbac_terms.specs.declared.scope.Scope.TheVariants.{Namespace, Anywhere, ClusterWide}
use Rattle.rbac_model.specs.Scopes.{LiveIn}
use Rattle.rbac_index.specs.WhoCan.{HoldsAt}

-- where a binding is live doesn't depend on the object name
live_named : (own : Option Text) (asked name : Text) (t : What) → Live own asked t ↔ Live own asked (with_name name t)
live_named None asked name t = (λ live. live, λ live. live)
live_named (Some namespace) asked name (Resource group text other) = (λ live. live, λ live. live)
live_named (Some namespace) asked name (Url path) = (λ live. live, λ live. live)

live_in_named : (scope : Scope) (own : Option Text) (name : Text) (t : What) → LiveIn scope own t ↔ LiveIn scope own (with_name name t)
live_in_named (Namespace namespace) own name t = live_named own namespace name t
live_in_named Anywhere own name t = (λ c. (c.0, (live_named own c.0 name t).0 c.1), λ c. (c.0, (live_named own c.0 name t).1 c.1))
live_in_named ClusterWide own name t = (λ none. none, λ none. none)

pub some_name : (h : Held) (scope : Scope) (verb : Text) (t : What) (key : Text) (i j : ℕ) → HoldsAt h scope verb (AnyName t) key i j ↔ ((name : Text) × HoldsAt h scope verb (ThisTarget (with_name name t)) key i j)
some_name h scope verb t key i j = (
  λ holds.
      let (b, s, at, there, by) = holds in
      let any = by.1.2 in
      let name = any.4.0 in
      (name, (b, s, at, there, ((live_in_named scope b.namespace name t).0 by.0, (by.1.0, by.1.1, (any.0, any.1, any.2, any.3, any.4.1)), by.2))),
  λ some.
      let name = some.0 in
      let (b, s, at, there, by) = some.1 in
      let any = by.1.2 in
      (b, s, at, there, ((live_in_named scope b.namespace name t).1 by.0, (by.1.0, by.1.1, (any.0, any.1, any.2, any.3, (name, any.4))), by.2)),
)

-- names match some name: the first, or any where there are none
name_for : (names : List Text) → (name : Text) × NameMatches names name
name_for [] = ([], inl refl)
name_for (name ∷ names) = (name, inr (0, omega arith, refl))

-- a URL has no name
pub url_any : (r : Rule) (verb : Text) (t : What) → IsUrl t → RuleAllows r verb t ↔ AllowsRequested r verb (AnyName t)
url_any r verb t is =
    let P : What → Type 0 = λ u. RuleAllows r verb u ↔ AllowsRequested r verb (AnyName u) in
    subst P (sym is) (λ allows. ([], allows), λ some. some.1)

-- a rule whose words match the verb, the API group and the resource text allows some object name
pub resource_any : (r : Rule) (verb : Text) (t : What) → IsResource t → (VerbOk r verb × StemOk r t) ↔ AllowsRequested r verb (AnyName t)
resource_any r verb t is =
    let P : What → Type 0 = λ u. (VerbOk r verb × StemOk r u) ↔ AllowsRequested r verb (AnyName u) in
    let name = name_for r.resource_names in
    subst P (sym is) (λ ok. (name.0, (ok.0, (ok.1.0, ok.1.1, name.1))), λ some. (some.1.0, (some.1.1.0, some.1.1.1)))

-- a rule that allows some object name allows this one
pub chosen_name : (r : Rule) (verb : Text) (t : What) → (name : Text) × (AllowsRequested r verb (AnyName t) → RuleAllows r verb (with_name name t))
chosen_name r verb (Resource group text other) = let name = name_for r.resource_names in (name.0, λ some. (some.1.0, (some.1.1.0, some.1.1.1, name.1)))
chosen_name r verb (Url path) = ([], λ some. some.1)
