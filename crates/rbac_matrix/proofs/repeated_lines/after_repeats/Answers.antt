use Rattle.std.proofs.Common.{◌≡◌, ◌⊎◌, refl, subst}
use Rattle.rbac_matrix.specs.Lines.{next_verb}
use Rattle.rbac_matrix.specs.RepeatedLines.{PassesRepeated}
use Rattle.rbac_matrix.specs.declared.line.Place.{Place}
use Rattle.rbac_matrix.proofs.RepeatedLemmas.{repeated_none}
use Rattle.rbac_matrix.proofs.repeated_lines.after_repeats.Goals as goal

pub returns-then-next-verbs-clause-passes : goal.returns-then-next-verbs-clause-passes
returns-then-next-verbs-clause-passes c = rw c.after-next.ensures (repeated_none c.args.index.now c.args.universe.now (next_verb c.args.at) (next_verb c.args.at) refl)

pub returns-clause-passes : goal.returns-clause-passes
returns-clause-passes c = subst (λ (at : Place). PassesRepeated c.args.index.now c.args.universe.now at c.past_repeated.result) c.after-next.ensures c.past_repeated.ensures.passes

pub returns-clause-moved : goal.returns-clause-moved
returns-clause-moved c = subst (λ (at : Place). (c.past_repeated.result ≡ at) ⊎ (c.past_repeated.result.verb ≡ 0)) c.after-next.ensures c.past_repeated.ensures.moved
