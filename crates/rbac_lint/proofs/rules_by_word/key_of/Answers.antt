use Rattle.std.proofs.Common.{sym, subst, MatchOption}
use Rattle.rbac_terms.specs.Text.{Text}
use Rattle.rbac_lint.specs.declared.rules_by_word.Field.{Field}
use Rattle.rbac_lint.specs.RulesByWord.{IsListKey}
use Rattle.rbac_lint.proofs.Listed.{prefixes_key}
use Rattle.rbac_lint.proofs.rules_by_word.key_of.Goals as goal

pub returns-in-Prefixes : goal.returns-in-Prefixes
returns-in-Prefixes c =
    let found = c.before_stars.result in
    subst (λ (f : Field). MatchOption found ((key : Text) → IsListKey f c.args.word.now key → ⊥) (λ key. IsListKey f c.args.word.now key.now)) (sym c.in-Prefixes.is) (prefixes_key c.args.word.now found c.before_stars.ensures)
