use Rattle.std.proofs.Common.{◌≡◌, ◌↔◌, ◌∙◌, [], List, ℕ, Any, Contains, ap, arith, get_or, length, subst}
use Rattle.std.proofs.lemmas.List.{get_or_read}
use Rattle.rbac_terms.specs.Text.{Text}
use Rattle.rbac_model.specs.Policies.{PolicyView}
use Rattle.rbac_paths.specs.SharedLists.{AreShared, list_of}
use Rattle.rbac_paths.specs.SharedWords.{GrantTakesWord, TakeSameWords}
use Rattle.rbac_steps.specs.declared.steps.Step.{Step}
use Rattle.rbac_paths.proofs.ListPlaces.{within_grants}
use Rattle.rbac_paths.proofs.SharedLists.{shared_new, shared_none, shared_old}
use Rattle.rbac_paths.proofs.binding_words.words_of_bindings.Goals as goal
use Rattle.rbac_paths.proofs.binding_words.words_of_bindings.Goals.{in-Some+in_ok-push+in_ok-push-2, in_default+in_ok-words_of_grants+in_ok-push-3+in_ok-push-4}

-- the list has the words of the binding at that place
abbrev Has : PolicyView → List Step → List (List ℕ) → ℕ → List Text → Type 0
Has p steps grants at ws = (w : Text) → Contains ws w ↔ Any (GrantTakesWord p steps w) (get_or grants at [])

pub same_before-requires-clause-within : goal.same_before-requires-clause-within
same_before-requires-clause-within c =
    let at = c.loop-place.place in
    within_grants c.args.policy.now c.args.grants.now c.requires at c.as_slice-numbers.result.now (c.as_slice-numbers.ensures ∙ get_or_read c.args.grants.now at c.index-grants-place.result c.loop-place-test.true c.index-grants-place.is [])

pub words_of_grants-requires : goal.words_of_grants-requires
words_of_grants-requires c =
    let at = c.loop-place.place in
    record { within = within_grants c.args.policy.now c.args.grants.now c.requires at c.as_slice-numbers.result.now (c.as_slice-numbers.ensures ∙ get_or_read c.args.grants.now at c.index-grants-place.result c.loop-place-test.true c.index-grants-place.is []) }

pub loop-place-init : goal.loop-place-init
loop-place-init c steps have = shared_none Text (Has c.args.policy.now steps c.args.grants.now) c.in_ok-lists.lists.items c.in_ok-places.places.items c.in_ok-lists.ensures.items c.in_ok-places.ensures.items

pub loop-place-preserved : goal.loop-place-preserved
loop-place-preserved c steps have =
    let p = c.args.policy.now in
    let grants = c.args.grants.now in
    let at = c.loop-place.place in
    let lists = c.loop-place.lists.items in
    let places = c.loop-place.places.items in
    let numbers = c.as_slice-numbers.result.now in
    let there : numbers ≡ get_or grants at [] = c.as_slice-numbers.ensures ∙ get_or_read grants at c.index-grants-place.result c.loop-place-test.true c.index-grants-place.is [] in
    let are = c.loop-place.invariant steps have in
    elim c.match-branch-4.branch [
      | in-Some+in_ok-push+in_ok-push-2 w ↦ (
          let before = w.in-Some.before in
          let found = rw w.in-Some.is at c.in_ok-before.ensures in
          let same = subst (TakeSameWords p (get_or grants before [])) there found.1 steps in
          let list : w.list_of.result ≡ list_of places before = w.list_of.ensures ∙ ap (λ (ps : List ℕ). list_of ps before) w.as_slice.ensures.value in
          rw (w.lists-is, w.places-is, w.in_ok-push.ensures.items, w.in_ok-push-2.ensures.items, list)
          (shared_old Text (Has p steps grants) at lists places are (list_of places before) w.new.result (are.within before found.0)
          (λ v. let of = are.each before found.0 v in (λ h. (same v).0 (of.0 h), λ a. of.1 ((same v).1 a))))
          )
      | in_default+in_ok-words_of_grants+in_ok-push-3+in_ok-push-4 w ↦
          rw (w.lists-is, w.places-is, w.in_ok-push-3.ensures.items, w.in_ok-push-4.ensures.items)
          (shared_new Text (Has p steps grants) at lists places are w.in_ok-words_of_grants.field-0
          (subst (λ (ns : List ℕ). (v : Text) → Contains w.in_ok-words_of_grants.field-0 v ↔ Any (GrantTakesWord p steps v) ns) there (w.in_ok-words_of_grants.ensures steps have)))
    ]

pub returns : goal.returns
returns c steps have =
    let p = c.args.policy.now in
    let grants = c.args.grants.now in
    let end : c.loop-place.place ≡ length grants = (let test = c.loop-place-test.false in let low = c.loop-place.auto.place-end in omega (arith, test, low)) in
    subst (λ (n : ℕ). AreShared Text (Has p steps grants) n c.loop-place.lists.items c.loop-place.places.items) end (c.loop-place.invariant steps have)
