use Rattle.std.proofs.Common.{sym, subst}
use Rattle.std.proofs.lemmas.Result.{err_from_is_err_and}
use Rattle.rbac_token.proofs.Tokens.{key_one, key_printed, no_key_printed, refused_has_no_key}
use Rattle.rbac_token.specs.Token.{HasKeyVersion}
use Rattle.rbac_token.specs.declared.fault.TokenFault.TheVariants.{BadVersion}
use Rattle.rbac_token.proofs.token.key_of_token.Goals as goal

pub returns-in_err-bytes-clause-no_key : goal.returns-in_err-bytes-clause-no_key
returns-in_err-bytes-clause-no_key c =
    let p = err_from_is_err_and c.from_residual.result c.from_residual.ensures.1 in
    rw (p.1, p.2) (refused_has_no_key c.args.token.now c.in_err-bytes.field-0.0 c.in_err-bytes.ensures.key)

pub returns-then-not-has_version-clause-no_key : goal.returns-then-not-has_version-clause-no_key
returns-then-not-has_version-clause-no_key c =
    refused_has_no_key c.args.token.now BadVersion (
      c.in_ok-bytes.bytes.items,
      c.in_ok-bytes.ensures.key,
      λ v.
          (let yes = c.has_version.ensures.1 (subst HasKeyVersion (sym c.deref.ensures.value) v) in cc (yes, c.if-not-has_version.true)),
    )

pub returns-in_err-mark_printed_as-clause-key : goal.returns-in_err-mark_printed_as-clause-key
returns-in_err-mark_printed_as-clause-key c =
    let p = err_from_is_err_and c.from_residual-in_err-mark_printed_as.result c.from_residual-in_err-mark_printed_as.ensures.1 in
    rw (p.1, p.2) (no_key_printed c.args.token.now c.in_ok-bytes.bytes.items c.in_ok-bytes.ensures.key c.in_err-mark_printed_as.field-0.0
    (subst HasKeyVersion c.deref.ensures.value (c.has_version.ensures.0 c.if-not-has_version.false)) (rw c.deref-2.ensures.value at c.in_err-mark_printed_as.ensures.mark))

pub returns-in_err-mark_printed_as-clause-no_key : goal.returns-in_err-mark_printed_as-clause-no_key
returns-in_err-mark_printed_as-clause-no_key c =
    let p = err_from_is_err_and c.from_residual-in_err-mark_printed_as.result c.from_residual-in_err-mark_printed_as.ensures.1 in
    rw (p.1, p.2) (refused_has_no_key c.args.token.now c.in_err-mark_printed_as.field-0.0 (no_key_printed c.args.token.now c.in_ok-bytes.bytes.items c.in_ok-bytes.ensures.key c.in_err-mark_printed_as.field-0.0
    (subst HasKeyVersion c.deref.ensures.value (c.has_version.ensures.0 c.if-not-has_version.false)) (rw c.deref-2.ensures.value at c.in_err-mark_printed_as.ensures.mark)))

pub returns-clause-key : goal.returns-clause-key
returns-clause-key c =
    key_printed c.args.token.now c.in_ok-bytes.bytes.items c.in_ok-bytes.ensures.key c.in_ok-mark_printed_as.field-0
    (subst HasKeyVersion c.deref.ensures.value (c.has_version.ensures.0 c.if-not-has_version.false)) (rw c.deref-2.ensures.value at c.in_ok-mark_printed_as.ensures.mark)

pub returns-clause-one : goal.returns-clause-one
returns-clause-one c =
    key_one c.args.token.now c.in_ok-bytes.bytes.items c.in_ok-bytes.ensures.key c.in_ok-mark_printed_as.field-0 (rw c.deref-2.ensures.value at c.in_ok-mark_printed_as.ensures.one)
