use Rattle.std.proofs.Common.{◌≡◌, ℕ, List, [], ◌∷◌, ◌++◌, ap, sym, subst, ◌∙◌, cond}
use Rattle.std.specs.Prelude.{Option, Some, unwrap_or, is_some}
use Rattle.std.specs.BTreeMap.{get}
use Rattle.std.specs.Ordering.{is_eq}
use Rattle.rbac_terms.specs.Text.{Text, text_cmp}
use Rattle.rbac_index.specs.RuleLists.{Lists, listed}
use Rattle.rbac_index.proofs.RuleListLemmas.{lists_more, pushed_has}
use Rattle.rbac_index.proofs.rule_lists.list_under.Goals as goal

pub returns-in_ok-push-in-Some : goal.returns-in_ok-push-in-Some
returns-in_ok-push-in-Some c =
    let is : c.in-Some.numbers.now ≡ listed c.args.lists.now c.args.word.now = ap (λ (o : Option (List ℕ)). unwrap_or o []) c.in-Some.ensures.value in
    let more : c.push.new.self ≡ listed c.args.lists.now c.args.word.now ++ c.args.no ∷ [] = c.in_ok-push-in-Some.ensures.ok ∙ ap (λ (l : List ℕ). l ++ c.args.no ∷ []) is in
    lists_more c.args.lists.now (c.get_mut.follows.lender c.push.new.self) c.args.word.now c.args.no c.push.new.self
    ((c.get_mut.follows.holds c.push.new.self).3 (ap is_some (sym c.in-Some.ensures.value))).0
    (λ n. rw more (pushed_has (listed c.args.lists.now c.args.word.now) c.args.no n))

pub returns-in_ok-insert-in-None : goal.returns-in_ok-insert-in-None
returns-in_ok-insert-in-None c =
    let same : c.in_ok-key-in-None.key ≡ c.args.word.now = c.in_ok-key-in-None.ensures ∙ c.as_bytes.ensures in
    let before : c.get_mut.follows.lender-at-none ≡ c.args.lists.now = c.get_mut.follows.holds-at-none in
    let none : [] ≡ listed c.args.lists.now c.args.word.now = ap (λ (o : Option (List ℕ)). unwrap_or o []) c.in-None.ensures.value in
    let more : c.push-in-None.new.self ≡ listed c.args.lists.now c.args.word.now ++ c.args.no ∷ [] = c.in_ok-push-in-None.ensures.ok ∙ ap (λ (l : List ℕ). l ++ c.args.no ∷ []) (c.new-numbers.ensures ∙ none) in
    lists_more c.args.lists.now c.insert.new.self c.args.word.now c.args.no c.push-in-None.new.self
    (subst (λ (m : Lists). (q : Text) → get text_cmp c.insert.new.self q ≡ cond (is_eq (text_cmp c.args.word.now q)) (Some c.push-in-None.new.self) (get text_cmp m q)) before
    (subst (λ (k : Text). (q : Text) → get text_cmp c.insert.new.self q ≡ cond (is_eq (text_cmp k q)) (Some c.push-in-None.new.self) (get text_cmp c.get_mut.follows.lender-at-none q)) same c.in_ok-insert-in-None.ensures.updates.0))
    (λ n. rw more (pushed_has (listed c.args.lists.now c.args.word.now) c.args.no n))
