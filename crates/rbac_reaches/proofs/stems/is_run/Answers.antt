use Rattle.std.proofs.Common.{◌-◌, ◌∙◌, ap, sym, arith}
use Rattle.std.specs.Prelude.{Some, option_copied}
use Rattle.std.proofs.lemmas.Option.{slice_get-get_or}
use Rattle.rbac_terms.specs.Targets.{What}
use Rattle.rbac_reaches.proofs.StemLemmas.{of_stem}
use Rattle.rbac_reaches.proofs.stems.is_run.Goals as goal

pub returns-then-end-targets : goal.returns-then-end-targets
returns-then-end-targets c is =
    let ts = c.args.targets.now in
    let t = c.index-targets-at.result in
    let w = c.index-targets-end.result in
    let there = slice_get-get_or ts c.args.at t (omega arith) ∙ ap (λ (x : What). Some x) (sym c.index-targets-at.is) in
    let last = slice_get-get_or ts (c.args.end - 1) w (omega arith) ∙ ap (λ (x : What). Some x) (sym c.index-targets-end.is) in
    (c.if-end-targets.true, of_stem (option_copied c.args.before) ts c.args.at c.args.end t w c.requires.ordered there last (c.is_later_of_stem.ensures.0 is))
