use Rattle.std.proofs.Common.{◌≡◌, ◌∙◌, ◌++◌, ◌∷◌, [], ◌+◌, List, Bor, ap, sym, map, take, length, arith}
use Rattle.std.proofs.Math.Seq.{take-length}
use Rattle.std.proofs.lemmas.List.{take_more, map-append, length-map, length-take}
use Rattle.rbac_terms.specs.declared.matching.Rule.{Rule}
use Rattle.rbac_index.proofs.WrittenLemmas.{written_more}
use Rattle.rbac_index.proofs.rule_rows.laid_out.Goals as goal

pub loop-row-preserved : goal.loop-row-preserved
loop-row-preserved c =
    let now : Bor (List Rule) → List Rule = λ r. r.now in
    let rows = c.args.rows.now in
    let i = c.loop-row.row in
    let row = c.index-rows-row.result in
    let more : take (i + 1) rows ≡ take i rows ++ row ∷ [] = take_more rows i row c.loop-row-test.true ∙ ap (λ (r : Bor (List Rule)). take i rows ++ r ∷ []) (sym c.index-rows-row.is) in
    let rows_more : map now (take (i + 1) rows) ≡ map now (take i rows) ++ row.now ∷ [] = ap (map now) more ∙ map-append now (take i rows) (row ∷ []) in
    let len : length (map now (take i rows)) ≡ i = omega (arith, length-map {A = Bor (List Rule)} {B = List Rule} (take i rows) now, length-take i rows, c.loop-row-test.true) in
    rw rows_more (written_more (map now (take i rows)) row.now i c.loop-row.rules.items c.push_row.new.rules.items len c.in_ok-push_row.ensures c.loop-row.invariant)

pub returns : goal.returns
returns c =
    let at : c.loop-row.row ≡ length c.args.rows.now = omega (arith, c.loop-row.auto.row-end, c.loop-row-test.false) in
    let all : take c.loop-row.row c.args.rows.now ≡ c.args.rows.now = rw at (take-length c.args.rows.now) in
    rw all at c.loop-row.invariant
