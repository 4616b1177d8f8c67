use Rattle.std.proofs.Common.{arith}
use Rattle.rbac_reaches.proofs.stems.run_end_within.Goals as goal

pub loop-step-preserved-then-is_run : goal.loop-step-preserved-then-is_run
loop-step-preserved-then-is_run c =
    let run = c.is_run.ensures c.if-is_run.true in
    record {
      low = omega arith;
      high = run.0;
      step = omega arith;
      run = run.1;
    }
