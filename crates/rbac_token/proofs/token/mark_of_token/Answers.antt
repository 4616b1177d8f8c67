use Rattle.std.proofs.Common.{sym, subst}
use Rattle.std.proofs.lemmas.Result.{err_from_is_err_and}
use Rattle.rbac_token.proofs.Tokens.{no_mark_in, one_in, printed_in, refused_has_no_mark}
use Rattle.rbac_token.specs.Marks.{HasMarkVersion}
use Rattle.rbac_token.specs.declared.fault.TokenFault.TheVariants.{BadVersion}
use Rattle.rbac_token.proofs.token.mark_of_token.Goals as goal

pub returns-in_err-bytes-clause-no_mark : goal.returns-in_err-bytes-clause-no_mark
returns-in_err-bytes-clause-no_mark c =
    let p = err_from_is_err_and c.from_residual.result c.from_residual.ensures.1 in
    rw (p.1, p.2) (refused_has_no_mark c.args.token.now c.in_err-bytes.field-0.0 c.in_err-bytes.ensures.mark)

pub returns-then-not-has_mark_version-clause-no_mark : goal.returns-then-not-has_mark_version-clause-no_mark
returns-then-not-has_mark_version-clause-no_mark c =
    refused_has_no_mark c.args.token.now BadVersion (
      c.in_ok-bytes.bytes.items,
      c.in_ok-bytes.ensures.key,
      λ v.
          (let yes = c.has_mark_version.ensures.1 (subst HasMarkVersion (sym c.deref.ensures.value) v) in cc (yes, c.if-not-has_mark_version.true)),
    )

pub returns-clause-mark : goal.returns-clause-mark
returns-clause-mark c =
    printed_in c.args.token.now c.in_ok-bytes.bytes.items c.in_ok-bytes.ensures.key c.mark_printed_as.result
    (subst HasMarkVersion c.deref.ensures.value (c.has_mark_version.ensures.0 c.if-not-has_mark_version.false))
    (rw c.deref-2.ensures.value at c.mark_printed_as.ensures.mark)

pub returns-clause-no_mark : goal.returns-clause-no_mark
returns-clause-no_mark c = no_mark_in c.args.token.now c.mark_printed_as.result (returns-clause-mark c)

pub returns-clause-one : goal.returns-clause-one
returns-clause-one c =
    one_in c.args.token.now c.in_ok-bytes.bytes.items c.in_ok-bytes.ensures.key c.mark_printed_as.result (rw c.deref-2.ensures.value at c.mark_printed_as.ensures.one)
