use Rattle.std.proofs.Common.{◌≡◌, ◌∙◌, ℕ, List, [], ap, sym, subst, cond}
use Rattle.std.specs.Prelude.{Option, Some, unwrap_or, is_some}
use Rattle.std.specs.BTreeMap.{get}
use Rattle.std.specs.Ordering.{is_eq}
use Rattle.rbac_terms.specs.Text.{Text, text_cmp}
use Rattle.rbac_lint.specs.RulesByWord.{PlaceLists, places_under}
use Rattle.rbac_lint.proofs.Listed.{lists_place}
use Rattle.rbac_lint.proofs.rules_by_word.list_under.Goals as goal

pub returns-in_ok-take_in-in-Some : goal.returns-in_ok-take_in-in-Some
returns-in_ok-take_in-in-Some c =
    lists_place c.args.lists.now (c.get_mut.follows.lender c.take_in.new.self) c.args.word c.args.place c.in-Some.places.now c.take_in.new.self
    (ap (λ (o : Option (List ℕ)). unwrap_or o []) c.in-Some.ensures.value)
    ((c.get_mut.follows.holds c.take_in.new.self).3 (ap is_some (sym c.in-Some.ensures.value))).0
    c.in_ok-take_in-in-Some.ensures

pub returns-in_ok-insert-in-None : goal.returns-in_ok-insert-in-None
returns-in_ok-insert-in-None c =
    let before : c.get_mut.follows.lender-at-none ≡ c.args.lists.now = c.get_mut.follows.holds-at-none in
    let none : [] ≡ places_under c.args.lists.now c.args.word = ap (λ (o : Option (List ℕ)). unwrap_or o []) c.in-None.ensures.value in
    lists_place c.args.lists.now c.insert.new.self c.args.word c.args.place c.new-places.result c.take_in-in-None.new.self
    (c.new-places.ensures ∙ none)
    (subst (λ (m : PlaceLists). (q : Text) → get text_cmp c.insert.new.self q ≡ cond (is_eq (text_cmp c.args.word q)) (Some c.take_in-in-None.new.self) (get text_cmp m q)) before
    c.in_ok-insert-in-None.ensures.updates.0)
    c.in_ok-take_in-in-None.ensures
