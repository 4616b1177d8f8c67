use Rattle.std.proofs.Common.{subst}
use Rattle.rbac_terms.specs.Text.{Text}
use Rattle.rbac_terms.proofs.Cases.{on_ok}
use Rattle.rbac_lint.specs.RulesByWord.{IsListKey, ListsPlace}
use Rattle.rbac_lint.proofs.Listed.{lists_one, lists_skipped}
use Rattle.rbac_lint.proofs.rules_by_word.list_for.Goals as goal

pub returns-in_default : goal.returns-in_default
returns-in_default c =
    on_ok c.put_in.result
    (λ same. lists_skipped c.args.lists.now c.put_in.new.lists c.args.field c.args.word.now c.args.place
    (subst (λ (x : Text). (key : Text) → IsListKey c.args.field x key → ⊥) c.as_bytes.ensures c.in_default.ensures) same)
    c.put_in.ensures

pub returns : goal.returns
returns c =
    let field = c.args.field in
    let key = c.in-Some.key.now in
    let is : IsListKey field c.args.word.now key = subst (λ (x : Text). IsListKey field x key) c.as_bytes.ensures c.in-Some.ensures in
    on_ok c.list_under.result
    (λ l. lists_one c.args.lists.now c.list_under.new.lists field c.args.word.now key c.args.place
    (subst (λ (x : Text). ListsPlace c.args.lists.now c.list_under.new.lists x c.args.place) c.in_ok-from_slice.ensures l) is)
    c.list_under.ensures
