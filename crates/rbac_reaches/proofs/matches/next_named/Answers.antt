use Rattle.std.proofs.Common.{◌∙◌, ap, arith, sym}
use Rattle.std.specs.Prelude.{Some, option_copied}
use Rattle.std.proofs.lemmas.Option.{slice_get-get_or}
use Rattle.rbac_terms.specs.Targets.{What}
use Rattle.rbac_reaches.proofs.StemLemmas.{none_named}
use Rattle.rbac_reaches.proofs.matches.next_named.Goals as goal

pub returns-clause-none : goal.returns-clause-none
returns-clause-none c n u low high read =
    let ts = c.args.targets.now in
    let t = c.index-targets-at.result in
    let there = slice_get-get_or ts c.args.at t (omega (arith, c.requires.within.0, c.requires.within.1)) ∙ ap (λ (x : What). Some x) (sym c.index-targets-at.is) in
    none_named (option_copied c.next_name-before.result) c.args.rule.now.resource_names ts c.args.at c.run_end.result t there c.run_end.ensures.run (rw c.name.ensures.name at c.next_name-before.ensures) c.requires.unnamed n u low (omega (arith, high, c.min.ensures)) read
