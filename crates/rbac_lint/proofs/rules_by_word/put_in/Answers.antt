use Rattle.std.proofs.Common.{◌≡◌, ◌∙◌, List, ℕ, sym, subst, cond}
use Rattle.std.specs.Prelude.{Some}
use Rattle.std.specs.BTreeMap.{get}
use Rattle.std.specs.Ordering.{is_eq}
use Rattle.rbac_terms.specs.Text.{Text, text_cmp}
use Rattle.rbac_lint.proofs.Listed.{put_in_same}
use Rattle.rbac_lint.proofs.rules_by_word.put_in.Goals as goal

pub returns : goal.returns
returns c =
    let old = c.args.lists.now in
    let new = c.insert.new.self in
    let word = c.args.word.now in
    put_in_same old new word (sym c.contains_key.ensures ∙ c.if-contains_key.false)
    (subst (λ (v : List ℕ). (q : Text) → get text_cmp new q ≡ cond (is_eq (text_cmp word q)) (Some v) (get text_cmp old q)) c.new.ensures
    (subst (λ (k : Text). (q : Text) → get text_cmp new q ≡ cond (is_eq (text_cmp k q)) (Some c.new.result) (get text_cmp old q)) (c.in_ok-key.ensures ∙ c.as_bytes.ensures)
    c.in_ok-insert.ensures.updates.0))
