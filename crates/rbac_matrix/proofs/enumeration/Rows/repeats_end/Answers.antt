use Rattle.std.proofs.Common.{◌≡◌, ◌≢◌, ◌<◌, ◌≤◌, ◌∷◌, ◌∙◌, [], List, ℕ, ap, arith, length, refl}
use Rattle.std.specs.Prelude.{Bool, Some}
use Rattle.rbac_matrix.specs.Blocks.{block_at}
use Rattle.rbac_matrix.specs.Enumeration.{IsGoing}
use Rattle.rbac_matrix.specs.Lines.{LineView, lines_from}
use Rattle.rbac_matrix.specs.RepeatedLines.{HasRepeatsFrom}
use Rattle.rbac_matrix.specs.Seats.{past_all}
use Rattle.rbac_matrix.specs.declared.enumeration.Rows.{Rows}
use Rattle.rbac_matrix.proofs.RepeatedLemmas.{past_unfit, repeats_before}
use Rattle.rbac_matrix.proofs.enumeration.Rows.repeats_end.Goals as goal

-- up to a place that isn't after any entry of a RoleBinding, the line has only repeats
module _ (s : Rows) (way : IsGoing s) (place : ℕ) (least : (i : ℕ) → i < length s.kept.blocks.kept.items → s.cluster_wide < (block_at s.kept.blocks.kept.items i).end → place ≤ (block_at s.kept.blocks.kept.items i).place) (to : ℕ) (real : to ≤ past_all) (early : to ≤ place) where
  before : (l : LineView) (ls : List LineView) → lines_from s.universe.now s.at ≡ l ∷ ls → l.namespace ≢ [] → HasRepeatsFrom s.index.now s.universe.now l s.from to
  before l ls e some = repeats_before s.index.now way.policy s.universe.now s.reaches.now l way.universe way.reaches some s.from 0 refl s.seats.now (way.ready.seated l ls e) s.kept.runs s.kept.blocks.kept.items (way.blocks l ls e) s.cluster_wide way.cluster_wide to real (λ i lt first. omega (arith, early, least i lt first))

pub returns-then-targets-place-clause-repeats : goal.returns-then-targets-place-clause-repeats
returns-then-targets-place-clause-repeats c = before c.args.self.now c.requires c.least_from-place.result c.least_from-place.ensures _ (omega (arith, c.targets.ensures.few.targets)) (omega (arith, c.if-targets-place.true))

pub returns-then-namespaced-clause-repeats : goal.returns-then-namespaced-clause-repeats
returns-then-namespaced-clause-repeats c = before c.args.self.now c.requires c.least_from-place.result c.least_from-place.ensures _ (omega (arith, c.targets.ensures.few.targets, c.if-targets-place.false)) (omega arith)

pub returns-clause-repeats : goal.returns-clause-repeats
returns-clause-repeats c = λ l ls e some.
    let s = c.args.self.now in
    let place = c.least_from-place.result in
    past_unfit s.index.now c.requires.policy s.universe.now l some s.from place (c.namespaced.ensures ∙ ap (λ (flag : Bool). Some flag) c.if-namespaced.false)
    (before s c.requires place c.least_from-place.ensures place (omega (arith, c.targets.ensures.few.targets, c.if-targets-place.false)) (omega arith) l ls e some)
