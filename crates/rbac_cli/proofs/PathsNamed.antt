-- The paths and the ways over the users and groups that are named, each once.
use Rattle.std.proofs.Common.{◌≡◌, ◌↔◌, ◌∙◌, ◌++◌, ℕ, List, [], ◌∷◌, All, Contains, ap, ap₂, get_or, inl, inr, subst, sym, ◌<◌, length, arith}
use Rattle.std.specs.Cmp.Lexicographic.{slice_cmp}
use Rattle.std.proofs.lemmas.List.{get_or_default}
use Rattle.std.proofs.lemmas.List.Elements.{Contains-append_cases, Contains-append_left, Contains-append_right}
use Rattle.std.proofs.lemmas.Map.Keys.{Less-from_sorted}
use Rattle.rbac_terms.specs.Text.{Text, text_cmp}
use Rattle.rbac_terms.specs.Principals.{Who, given_of, who_key}
use Rattle.rbac_model.specs.Lists.{by_name, IsAscendingBy, IsOnceEach}
use Rattle.rbac_model.specs.Policies.{HasSubject, Held, PolicyView}
use Rattle.rbac_model.specs.Unions.{who_texts}
use Rattle.rbac_lists.specs.Derived.{subject_principals}
use Rattle.rbac_lists.proofs.SomeSubject.{some_subject}
use Rattle.rbac_document.specs.Names.{principal_name}
use Rattle.rbac_paths.specs.Access.{AccessView}
use Rattle.rbac_paths.specs.Paths.{ArePathsOf, PathView}
use Rattle.rbac_paths.specs.Principals.{IsOneWith}
use Rattle.rbac_paths.specs.WaysTo.{AreWaysTo, WayView}
use Rattle.rbac_steps.specs.declared.steps.Step.{Step}

-- who is given no groups is named by its key alone
key_alone : (who : Who) → given_of who ≡ [] → principal_name who ≡ who_texts who
key_alone who none = ap (λ (gs : List Text). who_key who ∷ gs) none

-- in order of their names those that are given no groups are in order of their keys
pub by_keys : (named each : List Who) → All (λ who. given_of who ≡ []) named → IsOnceEach (by_name principal_name) named each → IsAscendingBy who_texts each
by_keys named each none once i j d lt l =
    let alone : (k : ℕ) → k < length each → principal_name (get_or each k d) ≡ who_texts (get_or each k d) = λ k low.
    (let w = (once.same (get_or each k d)).0 (k, low, get_or_default each k (get_or each k d) d low) in
    key_alone (get_or each k d) (subst (λ (who : Who). given_of who ≡ []) w.2 (none w.0 (get_or each k d) w.1))) in
    let less = Less-from_sorted (by_name principal_name) each i j d once.ascending lt l in
    ap₂ (λ (m : List Text) (n : List Text). slice_cmp text_cmp m n) (sym (alone i (omega (arith, lt, l)))) (sym (alone j l)) ∙ less

-- the principals of bindings' subjects and the users of accounts are all that are named
pub all_named : (h : Held) (principals stood users all : List Who) → ((who : Who) → Contains stood who ↔ HasSubject h who) → principals ≡ subject_principals h ++ users → all ≡ stood ++ users
    → (who : Who) → Contains all who ↔ Contains principals who
all_named h principals stood users all exact rest is who = (
  λ c. subst (λ (l : List Who). Contains l who) (sym rest) (elim (Contains-append_cases stood users who (subst (λ (l : List Who). Contains l who) is c)) [
    | inl s ↦ Contains-append_left (subject_principals h) users who ((some_subject h who).1 ((exact who).0 s))
    | inr u ↦ Contains-append_right (subject_principals h) users who u
  ]),
  λ c. subst (λ (l : List Who). Contains l who) (sym is) (elim (Contains-append_cases (subject_principals h) users who (subst (λ (l : List Who). Contains l who) rest c)) [
    | inl s ↦ Contains-append_left stood users who ((exact who).1 ((some_subject h who).0 s))
    | inr u ↦ Contains-append_right stood users who u
  ]),
)

module _ (principals named : List Who) (same : (who : Who) → Contains principals who ↔ Contains named who) where
  one_too : (asked other : Who) → IsOneWith principals asked other ↔ IsOneWith named asked other
  one_too asked other = (
    λ is. elim is [ inl e ↦ inl e | inr w ↦ inr ((same other).0 w.0, w.1) ],
    λ is. elim is [ inl e ↦ inl e | inr w ↦ inr ((same other).1 w.0, w.1) ],
  )

  -- the paths are the same over a list of the same users and groups
  pub paths_too : (p : PolicyView) (steps : List Step) (who : Who) (xs : List PathView) → ArePathsOf p principals steps who xs → ArePathsOf p named steps who xs
  paths_too p steps who xs (all, exact, are) = (
    all,
    λ other. (λ c. (one_too who other).0 ((exact other).0 c), λ w. (exact other).1 ((one_too who other).1 w)),
    are,
  )

  -- and so are the ways to what is asked for
  pub ways_too : (p : PolicyView) (steps : List Step) (asked : AccessView) (xs : List WayView) → AreWaysTo p principals steps asked xs → AreWaysTo p named steps asked xs
  ways_too p steps asked xs (all, exact, are) = (
    all,
    λ who. (λ c. (same who).0 ((exact who).0 c), λ c. (exact who).1 ((same who).1 c)),
    are,
  )
