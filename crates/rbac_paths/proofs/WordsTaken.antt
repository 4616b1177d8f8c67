-- A node takes over a user or a group exactly if it takes a word by which this one can be had.
use Rattle.std.proofs.Common.{◌≡◌, ◌↔◌, List, [], Any, Contains, arith}
use Rattle.rbac_terms.specs.Text.{Text}
use Rattle.rbac_terms.specs.Principals.{Who}
use Rattle.rbac_model.proofs.OwnWords.{any_from}
use Rattle.rbac_model.specs.Policies.{PolicyView}
use Rattle.rbac_paths.specs.Deciding.{IsAnyNode}
use Rattle.rbac_paths.specs.Having.{HoldingView}
use Rattle.rbac_paths.specs.Joints.{DecideOn, TakesByWords}
use Rattle.rbac_paths.specs.Nodes.{NodeView, Somebody}
use Rattle.rbac_paths.specs.SharedWords.{AreHadBy, StepTakesWord, TakeWord, TakesWord}
use Rattle.rbac_paths.specs.Steps.{table}
use Rattle.rbac_paths.specs.Taking.{RowTakes, RuleTakes}
use Rattle.rbac_paths.specs.TakingOver.{MayGoOn, TakesOver}
use Rattle.rbac_paths.specs.Told.{HoldingTakes, HoldingsTake}
use Rattle.rbac_steps.specs.declared.steps.Step.{Step}
use Rattle.rbac_paths.proofs.SharedWords.{row_shares}

module _ (p : PolicyView) (x : NodeView) (hs : List HoldingView) (steps : List Step) (decide : DecideOn p steps x hs IsAnyNode) (who : Who) (had : List Text) (of : AreHadBy who had) where
  by_step : (w : Text) → Contains had w → (h : HoldingView) (s : Step) → StepTakesWord h.home h.rule w s → RuleTakes s h.home h.rule (Somebody who)
  by_step w in_had h s a = any_from (λ row. (row.step ≡ s) × RowTakes row h.home h.rule (Somebody who)) table a.1 (a.0, a.2, a.3) (a.4.0, (row_shares a.1 h.home h.rule who had of).0 (w, in_had, a.4.1))

  by_word : (w : Text) → Contains had w → MayGoOn x (Somebody who) → TakeWord steps hs w → TakesOver p steps x (Somebody who)
  unfolding HoldingsTake HoldingTakes
  by_word w in_had on a =
      let h = a.1 in
      let s = a.4.1 in
      let takes : HoldingsTake s hs (Somebody who) = any_from (λ h. RuleTakes s h.home h.rule (Somebody who)) hs h (a.0, a.2, a.3) (by_step w in_had h s a.4.4) in
      (s, record { goes_on = on; among = (a.4.0, a.4.2, a.4.3); can = (decide s (Somebody who) (a.4.0, a.4.2, a.4.3) tt).0 takes; told = λ writes untold. untold })

  some_word : TakesOver p steps x (Somebody who) → (w : Text) × Contains had w × TakeWord steps hs w
  unfolding HoldingsTake HoldingTakes
  some_word t =
      let s = t.0 in
      let held = (decide s (Somebody who) t.1.among tt).1 t.1.can in
      let h = held.1 in
      let rule = held.4 in
      let row = rule.1 in
      let shares = (row_shares row h.home h.rule who had of).1 rule.4.1 in
      let w = shares.0 in
      let by_row : StepTakesWord h.home h.rule w s = any_from (λ r. (r.step ≡ s) × TakesWord r h.home h.rule w) table row (rule.0, rule.2, rule.3) (rule.4.0, shares.2) in
      let by_steps = any_from (StepTakesWord h.home h.rule w) steps s t.1.among by_row in
      (w, shares.1, any_from (λ h. Any (StepTakesWord h.home h.rule w) steps) hs h (held.0, held.2, held.3) by_steps)

pub takes_by_words : (p : PolicyView) (x : NodeView) (hs : List HoldingView) (steps : List Step) → DecideOn p steps x hs IsAnyNode → ((who : Who) → MayGoOn x (Somebody who)) → (Takes : Text → Type 0) → ((w : Text) → Takes w ↔ TakeWord steps hs w) → TakesByWords p steps x Takes
takes_by_words p x hs steps decide on Takes exact who had of = (
  λ s. by_word p x hs steps decide who had of s.0 s.2 (on who) ((exact s.0).0 s.1),
  λ t. (let w = some_word p x hs steps decide who had of t in (w.0, (exact w.0).1 w.2, w.1)),
)

pub takes_none : (p : PolicyView) (x : NodeView) (steps : List Step) → ((who : Who) → MayGoOn x (Somebody who) → ⊥) → TakesByWords p steps x (λ w. Contains [] w)
takes_none p x steps off who had of = (
  λ s. absurd (let low = s.1.1 in omega (arith, low)),
  λ t. absurd (off who t.1.goes_on),
)

-- words that are the same are taken alike
pub takes_same : (p : PolicyView) (x : NodeView) (steps : List Step) (One Other : Text → Type 0) → ((w : Text) → Other w ↔ One w) → TakesByWords p steps x One → TakesByWords p steps x Other
takes_same p x steps One Other same takes who had of = (
  λ s. (takes who had of).0 (s.0, (same s.0).0 s.1, s.2),
  λ t. (let s = (takes who had of).1 t in (s.0, (same s.0).1 s.1, s.2)),
)
