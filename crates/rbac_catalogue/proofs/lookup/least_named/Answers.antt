use Rattle.std.proofs.Common.{◌≡◌, ◌+◌, [], ◌∷◌, ◌++◌, take, sym, ap, subst, ◌∙◌}
use Rattle.std.specs.Option.{option_copied}
use Rattle.std.proofs.lemmas.Bool.{false≢true}
use Rattle.std.proofs.lemmas.List.{take_more}
use Rattle.rbac_catalogue.specs.Lookups.{IsNamedInGroup}
use Rattle.rbac_catalogue.proofs.Least.{IsLeastSoFar, taken, stayed}
use Rattle.rbac_catalogue.proofs.lookup.least_named.Goals as goal
use Rattle.rbac_catalogue.proofs.lookup.least_named.Goals.{then-is_named_in+then-comes_before, else-is_named_in, else-is_named_in-via-then-is_named_in+else-comes_before, else-is_named_in-via-else-is_named_in}

pub loop-entry-preserved : goal.loop-entry-preserved
loop-entry-preserved c =
    let P = IsNamedInGroup (option_copied c.args.group) c.args.word.now in
    let xs = take c.loop-entry.entry-index c.args.entries.now in
    let x = c.entry-item.result in
    let least = option_copied c.loop-entry.least in
    let grown : take (c.loop-entry.entry-index + 1) c.args.entries.now ≡ xs ++ x ∷ [] =
    take_more c.args.entries.now c.loop-entry.entry-index x c.loop-entry-test.true ∙ ap (λ y. xs ++ y ∷ []) (sym c.entry-item.is) in
    let next : IsLeastSoFar P (xs ++ x ∷ []) (option_copied c.if-is_named_in.least) = elim c.if-is_named_in.branch [
      | then-is_named_in+then-comes_before w ↦
          rw w.least-is (taken P xs x least c.loop-entry.invariant (c.is_named_in.ensures.0 w.if-is_named_in.true) (w.comes_before.ensures.0 w.if-comes_before.true))
      | else-is_named_in w ↦ rw w.least-is (stayed P xs x least c.loop-entry.invariant (λ h. elim w.else-is_named_in.branch [
        | else-is_named_in-via-then-is_named_in+else-comes_before v ↦ false≢true (sym v.if-comes_before.false ∙ v.comes_before.ensures.1 h.1)
        | else-is_named_in-via-else-is_named_in v ↦ false≢true (sym v.if-is_named_in.false ∙ c.is_named_in.ensures.1 h.0)
      ]))
    ] in
    subst (λ ys. IsLeastSoFar P ys (option_copied c.if-is_named_in.least)) (sym grown) next
