use Rattle.std.proofs.Common.{◌≡◌, ◌∙◌, ◌+◌, ◌++◌, ◌∷◌, ◌<◌, [], List, ap, length, set, sym, subst, take, true, arith}
use Rattle.std.proofs.Math.ListN.{length-set}
use Rattle.std.proofs.lemmas.List.{take_all, take_more}
use Rattle.rbac_subjects.specs.declared.subject_keys.Keyed.{Keyed}
use Rattle.rbac_subjects.proofs.PrincipalLemmas.{AreMarked, one_marked}
use Rattle.rbac_subjects.proofs.subject_principals.marks_of_listed.Goals as goal

pub loop-entry-preserved : goal.loop-entry-preserved
loop-entry-preserved c =
    let xs = c.args.entries.now in
    let i = c.loop-entry.entry-index in
    let y = c.entry-item.result in
    let marks = c.loop-entry.marks.items in
    let more : take (i + 1) xs ≡ take i xs ++ y ∷ [] = take_more xs i y c.loop-entry-test.true ∙ ap (λ (x : Keyed). take i xs ++ x ∷ []) (sym c.entry-item.is) in
    let within = rw (← c.entry-item.is) at (c.requires i y c.loop-entry-test.true) in
    let fits : y.place < length marks = let len = c.loop-entry.invariant.len in omega (arith, within, len) in
    record {
      len = length-set marks y.place true ∙ c.loop-entry.invariant.len;
      marks = subst (λ (ys : List Keyed). AreMarked ys (set marks y.place true)) (sym more) (one_marked (take i xs) y marks fits c.loop-entry.invariant.marks);
    }

pub returns-clause-marks : goal.returns-clause-marks
returns-clause-marks c =
    subst (λ (ys : List Keyed). AreMarked ys c.loop-entry.marks.items) (take_all c.loop-entry.entry-index c.args.entries.now c.loop-entry-test.false) c.loop-entry.invariant.marks
