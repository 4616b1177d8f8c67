use Rattle.std.proofs.Common.{◌≤◌, ◌∙◌, ◌++◌, [], ap, arith, refl, rules, take}
use Rattle.std.proofs.KnownBytes.{Consumes-nil, Consumes-trans}
use Rattle.std.proofs.lemmas.List.{length-append, length-take-le}
use Rattle.std.proofs.lemmas.Result.{err_from_is_err_and}
use Rattle.rbac_log.proofs.LogLines.{fails_at_end, read_all, read_nothing}
use Rattle.rbac_log.proofs.PieceLines.{consumes_nothing, ends_at, if_err, no_read_fault, on_ok, stops_at_end, stops_within}
use Rattle.rbac_log.proofs.reading.read_log.Goals as goal

pub returns-in-Ok-eq0-clause-ok : goal.returns-in-Ok-eq0-clause-ok
returns-in-Ok-eq0-clause-ok g c =
    let i = c.loop-read.invariant in
    let got = c.in-Ok-eq0.ensures.ok in
    let none = ap (λ n. take n c.read.new.room) c.in-Ok-eq0.field-0-test in
    on_ok c.end.result c.end.ensures.ok (λ ok. (
      i.bytes,
      consumes_nothing _ _ _ i.bytes _ i.given got.1 none,
      got.2 c.in-Ok-eq0.field-0-test,
      read_all i.bytes c.args.log.now c.loop-read.tail c.end.new.self c.loop-read.log c.end.new.log i.read ok.0 ok.1 ok.2,
    ))

pub returns-in-Ok-eq0-clause-err : goal.returns-in-Ok-eq0-clause-err
returns-in-Ok-eq0-clause-err g c =
    let i = c.loop-read.invariant in
    let got = c.in-Ok-eq0.ensures.ok in
    let none = ap (λ n. take n c.read.new.room) c.in-Ok-eq0.field-0-test in
    if_err c.end.result c.end.ensures.err (λ fault known. (
      i.bytes,
      consumes_nothing _ _ _ i.bytes _ i.given got.1 none,
      stops_at_end _ i.bytes fault (got.2 c.in-Ok-eq0.field-0-test)
          (ends_at fault known (fails_at_end i.bytes c.args.log.now c.loop-read.tail c.end.new.self c.loop-read.log c.end.new.log i.read fault)),
    ))

pub returns-in_err-take-in-Ok-clause-err : goal.returns-in_err-take-in-Ok-clause-err
returns-in_err-take-in-Ok-clause-err g c =
    let p = err_from_is_err_and c.from_residual.result c.from_residual.ensures.1 in
    let i = c.loop-read.invariant in
    let piece = take c.in-Ok.n c.read.new.room in
    rw (p.1, p.2) (
      i.bytes ++ piece,
      Consumes-trans _ _ _ _ _ i.given c.in-Ok.ensures.ok.1,
      stops_within _ (i.bytes ++ piece) c.in_err-take-in-Ok.field-0.0 (c.in_err-take-in-Ok.ensures.err i.bytes c.args.log.now i.read),
    )

pub returns-in_err-take-in-Ok-clause-failed : goal.returns-in_err-take-in-Ok-clause-failed
returns-in_err-take-in-Ok-clause-failed g c =
    let p = err_from_is_err_and c.from_residual.result c.from_residual.ensures.1 in
    let i = c.loop-read.invariant in
    let piece = take c.in-Ok.n c.read.new.room in
    rw (p.1, p.2) (c.in-Ok.ensures.ok.3 ∙ no_read_fault c.in_err-take-in-Ok.field-0.0 (i.bytes ++ piece) (c.in_err-take-in-Ok.ensures.err i.bytes c.args.log.now i.read))

pub loop-read-init : goal.loop-read-init
loop-read-init g c = record {
  bytes = [];
  given = Consumes-nil _;
  many = omega arith;
  read = read_nothing _ c.args.log.now refl c.new.ensures.items;
  short = rw (c.new.ensures.items) (omega arith);
  few = omega arith;
  well = c.requires;
}

pub loop-read-preserved : goal.loop-read-preserved
loop-read-preserved g c =
    let i = c.loop-read.invariant in
    let got = c.in-Ok.ensures.ok in
    let piece = take c.in-Ok.n c.read.new.room in
    let one = length-append i.bytes piece in
    let size = length-take-le c.in-Ok.n c.read.new.room got.0 in
    let most : c.in-Ok.n ≤ 65536 = search rules in
    let took = c.in_ok-take-in-Ok.ensures in
    record {
      bytes = i.bytes ++ piece;
      given = Consumes-trans _ _ _ _ _ i.given got.1;
      many = omega (arith, i.many, one, size, c.in-Ok.n-test);
      read = took.ok i.bytes c.args.log.now i.read;
      short = took.size.0;
      few = omega (arith, i.few, took.size.1, size, most);
      well = got.3;
    }
