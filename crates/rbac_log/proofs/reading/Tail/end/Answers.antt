use Rattle.std.proofs.Common.{◌∙◌, ap, suc, sym}
use Rattle.rbac_log.specs.Logs.{line_requests}
use Rattle.rbac_log.specs.declared.log_fault.LogFault.TheVariants.{Line}
use Rattle.rbac_log.proofs.LineBytes.{ends_with, told_ok}
use Rattle.rbac_log.proofs.reading.Tail.end.Goals as goal

pub returns-in-Ok-clause-ok : goal.returns-in-Ok-clause-ok
returns-in-Ok-clause-ok c =
    let told = c.in-Ok.ensures.ok in (
      told.0,
      told_ok (suc c.args.self.now.ended) c.args.self.now.bytes.items told.0 c.requires.short (ap line_requests (sym c.as_slice.ensures.value) ∙ told.1),
      told.2,
      c.clear.ensures.items,
      c.number-number.ensures,
    )

pub returns-in-Err-clause-err : goal.returns-in-Err-clause-err
returns-in-Err-clause-err c =
    ends_with (suc c.args.self.now.ended) c.args.self.now.bytes.items c.in-Err.fault c.fault_at.result c.requires.short
    (λ known. ap line_requests (sym c.as_slice.ensures.value) ∙ c.in-Err.ensures.err known) c.fault_at.ensures.memory
    (λ known. c.fault_at.ensures.line known ∙ ap (λ n. Line n c.in-Err.fault) c.number-number.ensures)
