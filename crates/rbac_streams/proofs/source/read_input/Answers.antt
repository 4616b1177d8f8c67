use Rattle.std.proofs.Common.{◌++◌, take, vec_len, rules}
use Rattle.std.proofs.KnownBytes.{Consumes-trans, Consumes-kept}
use Rattle.rbac_streams.proofs.TakenLemmas.{read_past, read_upto, reads_upto}
use Rattle.rbac_streams.proofs.source.read_input.Goals as goal

pub returns-then-n-len-clause-long : goal.returns-then-n-len-clause-long
returns-then-n-len-clause-long g c = λ _. (
  c.whole.bytes.items ++ take c.in-Ok.n c.read.new.room,
  read_past _ _ _ _ (search rules) c.in-Ok.ensures.ok.0,
  read_upto _ _ _ _ (search rules) c.in-Ok.ensures.ok.0,
  Consumes-trans _ _ _ _ _ c.whole.invariant.given c.in-Ok.ensures.ok.1,
)

pub returns-then-is_err-clause-short : goal.returns-then-is_err-clause-short
returns-then-is_err-clause-short g c = λ _. (
  c.whole.bytes.items ++ take c.in-Ok.n c.read.new.room,
  read_upto _ _ _ _ (search rules) c.in-Ok.ensures.ok.0,
  Consumes-trans _ _ _ _ _ c.whole.invariant.given c.in-Ok.ensures.ok.1,
)

pub returns-in-Err-clause-reads : goal.returns-in-Err-clause-reads
returns-in-Err-clause-reads g c =
    reads_upto c.args.source.now.reads c.whole.source.reads c.read.new.self.reads (vec_len c.whole.bytes) (c.read.ensures.reads c.whole.invariant.well) c.whole.invariant.reads c.whole.invariant.short

pub returns-in-Ok-eq0-clause-reads : goal.returns-in-Ok-eq0-clause-reads
returns-in-Ok-eq0-clause-reads g c =
    reads_upto c.args.source.now.reads c.whole.source.reads c.read.new.self.reads (vec_len c.whole.bytes) (c.read.ensures.reads c.whole.invariant.well) c.whole.invariant.reads c.whole.invariant.short

pub returns-then-n-len-clause-reads : goal.returns-then-n-len-clause-reads
returns-then-n-len-clause-reads g c =
    reads_upto c.args.source.now.reads c.whole.source.reads c.read.new.self.reads (vec_len c.whole.bytes) (c.read.ensures.reads c.whole.invariant.well) c.whole.invariant.reads c.whole.invariant.short

pub returns-then-is_err-clause-reads : goal.returns-then-is_err-clause-reads
returns-then-is_err-clause-reads g c =
    reads_upto c.args.source.now.reads c.whole.source.reads c.read.new.self.reads (vec_len c.whole.bytes) (c.read.ensures.reads c.whole.invariant.well) c.whole.invariant.reads c.whole.invariant.short

pub returns-in-Err-clause-short : goal.returns-in-Err-clause-short
returns-in-Err-clause-short g c = λ _. (c.whole.bytes.items, search rules, Consumes-kept _ _ _ _ c.whole.invariant.given c.in-Err.ensures.err.0)
