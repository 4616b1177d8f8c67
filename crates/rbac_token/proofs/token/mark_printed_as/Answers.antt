use Rattle.std.proofs.lemmas.Result.{err_from_is_err_and}
use Rattle.rbac_token.proofs.Tokens.{none_printed}
use Rattle.rbac_token.proofs.token.mark_printed_as.Goals as goal

pub returns-in_err-check_spelling-clause-mark : goal.returns-in_err-check_spelling-clause-mark
returns-in_err-check_spelling-clause-mark c =
    (let p = err_from_is_err_and c.from_residual-in_err-check_spelling.result c.from_residual-in_err-check_spelling.ensures.1 in
    rw (p.1, p.2) (none_printed c.args.bytes.now c.in_ok-mark.mark c.in_ok-mark.ensures.whole _ c.in_err-check_spelling.ensures))
