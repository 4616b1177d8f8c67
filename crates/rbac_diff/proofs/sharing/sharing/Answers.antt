use Rattle.std.proofs.Common.{List, Bor, arith, subst}
use Rattle.std.proofs.lemmas.List.{take_all}
use Rattle.std.proofs.lemmas.Bool.{both_ways}
use Rattle.rbac_terms.specs.declared.matching.Rule.{Rule}
use Rattle.rbac_diff.specs.Sharing.{AreSharing}
use Rattle.rbac_diff.proofs.SharingRules.{sharing_more, sharing_same}
use Rattle.rbac_diff.proofs.sharing.sharing.Goals as goal
use Rattle.rbac_diff.proofs.sharing.sharing.Goals.{then-shares_words+in_ok-push, else-shares_words}

pub loop-held-preserved : goal.loop-held-preserved
loop-held-preserved c =
    let rules = c.args.rules.now in
    let i = c.loop-held.held-index in
    let held = c.held-item.result in
    elim c.if-shares_words.branch [
      | then-shares_words+in_ok-push w ↦ rw (w.near-is, w.in_ok-push.ensures.items) (sharing_more c.args.rule.now rules i held c.loop-held-test.true c.held-item.is c.loop-held.near.items c.loop-held.invariant)
      | else-shares_words w ↦ rw w.near-is (sharing_same c.args.rule.now rules i held c.loop-held-test.true c.held-item.is c.loop-held.near.items c.loop-held.invariant (λ shares. both_ways _ w.if-shares_words.false (c.shares_words.ensures.1 shares)))
    ]

pub returns : goal.returns
returns c = subst (λ (rs : List (Bor Rule)). AreSharing rs c.args.rule.now c.loop-held.near.items) (take_all c.loop-held.held-index c.args.rules.now (omega arith)) c.loop-held.invariant
