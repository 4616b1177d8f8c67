use Rattle.std.proofs.Common.{◌∙◌, ◌∷◌, [], ◌++◌, ℕ, List, append_assoc, ap, arith, sym, subst}
use Rattle.std.proofs.lemmas.List.{append-nil}
use Rattle.std.proofs.lemmas.Result.{err_from_is_err_and}
use Rattle.rbac_log.specs.Reading.{IsReadTo}
use Rattle.rbac_log.proofs.PieceLines.{fails_part, fails_whole, if_err, more_few, on_ok, read_part, read_whole}
use Rattle.rbac_log.proofs.reading.Tail.take.Goals as goal

pub returns-in_err-extend-clause-err : goal.returns-in_err-extend-clause-err
returns-in_err-extend-clause-err c =
    let p = err_from_is_err_and c.from_residual.result c.from_residual.ensures.1 in
    let i = c.lines.invariant in
    let cut = c.in-Some.ensures in
    rw (p.1, p.2) (fails_part c.args.self.now c.args.log.now i.seen c.lines.self c.extend.new.self c.lines.log i.read c.in-Some.line.now cut.1
    c.args.piece.now (10 ∷ c.in-Some.more.now) (i.whole ∙ ap (λ (r : List ℕ). i.seen ++ r) cut.0) c.in_err-extend.field-0.0 c.in_err-extend.ensures.err)

pub returns-in_err-end-clause-err : goal.returns-in_err-end-clause-err
returns-in_err-end-clause-err c =
    let p = err_from_is_err_and c.from_residual-in_err-end.result c.from_residual-in_err-end.ensures.1 in
    let i = c.lines.invariant in
    let cut = c.in-Some.ensures in
    let ok = c.in_ok-extend.ensures.ok in
    rw (p.1, p.2) (fails_whole c.args.self.now c.args.log.now i.seen c.lines.self c.extend.new.self c.lines.log i.read c.in-Some.line.now cut.1 ok.0 ok.2
    c.args.piece.now c.in-Some.more.now (i.whole ∙ ap (λ (r : List ℕ). i.seen ++ r) cut.0) c.in_err-end.field-0.0 c.in_err-end.ensures.err)

pub lines-preserved : goal.lines-preserved
lines-preserved c =
    let i = c.lines.invariant in
    let cut = c.in-Some.ensures in
    let line = c.in-Some.line.now in
    let more = c.in-Some.more.now in
    let ok = c.in_ok-extend.ensures.ok in
    let ended = c.in_ok-end.ensures.ok in
    record {
      seen = i.seen ++ (line ++ 10 ∷ []);
      whole = i.whole ∙ ap (λ (r : List ℕ). i.seen ++ r) (cut.0 ∙ sym (append_assoc line (10 ∷ []) more)) ∙ sym (append_assoc i.seen (line ++ 10 ∷ []) more);
      read = read_whole c.args.self.now c.args.log.now i.seen c.lines.self c.extend.new.self c.lines.log i.read line cut.1 ok.0 ok.2
          c.end.new.self c.end.new.log ended.0 ended.1 ended.2 ended.3 ended.4;
      short = rw ended.3 (omega arith);
      few = more_few c.args.self.now.ended c.lines.self.ended c.extend.new.self.ended c.end.new.self.ended i.seen line i.few ok.2 ended.4;
    }

pub returns-clause-ok : goal.returns-clause-ok
returns-clause-ok c =
    let i = c.lines.invariant in
    on_ok c.extend-2.result c.extend-2.ensures.ok (λ ok bytes start r.
    subst (λ (b : List ℕ). IsReadTo (bytes ++ b) start c.extend-2.new.self c.lines.log) (sym i.whole)
    (read_part c.args.self.now c.args.log.now i.seen c.lines.self c.extend-2.new.self c.lines.log i.read c.lines.rest.now c.in_default.ensures ok.0 ok.2 bytes start r))

pub returns-clause-err : goal.returns-clause-err
returns-clause-err c =
    let i = c.lines.invariant in
    let rest = c.lines.rest.now in
    if_err c.extend-2.result c.extend-2.ensures.err (λ fault known.
    fails_part c.args.self.now c.args.log.now i.seen c.lines.self c.extend-2.new.self c.lines.log i.read rest c.in_default.ensures
    c.args.piece.now [] (i.whole ∙ ap (λ (r : List ℕ). i.seen ++ r) (sym (append-nil rest))) fault known)
