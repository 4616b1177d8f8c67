use Rattle.std.proofs.Common.{◌∙◌, ap, sym}
use Rattle.std.proofs.lemmas.Result.{err_from_is_err_and}
use Rattle.rbac_log.specs.Line.{requests_in}
use Rattle.rbac_log.proofs.LineBytes.{not_text, of_text}
use Rattle.rbac_log.proofs.reading.add_line.Goals as goal

pub returns-in_default-clause-err : goal.returns-in_default-clause-err
returns-in_default-clause-err c = λ _. not_text c.args.bytes.now c.in_default.ensures

pub returns-in_err-requests-clause-err : goal.returns-in_err-requests-clause-err
returns-in_err-requests-clause-err c =
    let p = err_from_is_err_and c.from_residual.result c.from_residual.ensures.1 in
    rw (p.1, p.2) (λ known. of_text c.args.bytes.now c.in-Ok.ensures.1 ∙ ap requests_in (sym c.in-Ok.ensures.0) ∙ c.in_err-requests.ensures known)

pub returns-clause-ok : goal.returns-clause-ok
returns-clause-ok c = (
  c.in_ok-requests.requests.items,
  of_text c.args.bytes.now c.in-Ok.ensures.1 ∙ ap requests_in (sym c.in-Ok.ensures.0) ∙ c.in_ok-requests.ensures,
  c.in_ok-add_requests.ensures,
)
