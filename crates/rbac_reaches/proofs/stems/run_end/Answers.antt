use Rattle.std.proofs.Common.{arith}
use Rattle.rbac_reaches.proofs.stems.run_end.Goals as goal

pub loop-end-preserved : goal.loop-end-preserved
loop-end-preserved c =
    let run = c.is_run.ensures c.loop-end-test.true in
    record {
      low = omega arith;
      high = run.0;
      some = omega arith;
      step = omega arith;
      run = run.1;
    }
