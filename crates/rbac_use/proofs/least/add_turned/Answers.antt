use Rattle.std.proofs.Common.{◌≡◌, ◌↔◌, ◌∷◌, ◌++◌, ◌∙◌, [], Contains, List, ap, ap₂, subst, sym, take, take_all, ◌+◌}
use Rattle.rbac_terms.specs.Text.{Text}
use Rattle.rbac_use.specs.Grouping.{under}
use Rattle.rbac_use.specs.LeastRules.{with_words}
use Rattle.rbac_use.specs.declared.grouping.Pair.{Pair}
use Rattle.rbac_use.specs.declared.grouping.RuleKey.{RuleKey}
use Rattle.rbac_use.proofs.LeastSteps.{TurnedOf, turned_more}
use Rattle.rbac_use.proofs.Pushed.{taken_more}
use Rattle.rbac_use.proofs.least.add_turned.Goals as goal

pub loop-word-preserved : goal.loop-word-preserved
loop-word-preserved c x =
    let g = c.args.group.now in
    let words = c.as_slice-word-items.result.now in
    let i = c.loop-word.word-index in
    let w = c.word-item.result in
    let old = c.loop-word.pairs.items in
    let pushed : c.push.new.self.items ≡ old ++ under (with_words g.key g.words) w ∷ [] =
    c.in_ok-push.ensures.items ∙ ap (λ (y : Pair). old ++ y ∷ []) (ap₂ (λ (k : RuleKey) (t : Text). under k t) c.in_ok-with_words.ensures c.in_ok-clone.ensures.cases) in
    let taken = taken_more words i w c.loop-word-test.true c.word-item.is in
    let more = turned_more g c.args.pairs.now.items (take i words) w old (subst (λ (ws : List Text). (y : Pair) → Contains old y ↔ TurnedOf g c.args.pairs.now.items (take i ws) y) (sym c.as_slice-word-items.ensures) c.loop-word.invariant) x in
    rw pushed (subst (λ (ws : List Text). Contains (old ++ under (with_words g.key g.words) w ∷ []) x ↔ TurnedOf g c.args.pairs.now.items ws x) (sym taken ∙ ap (take (i + 1)) c.as_slice-word-items.ensures) more)

pub returns : goal.returns
returns c x =
    let g = c.args.group.now in
    let all = take_all c.loop-word.word-index c.as_slice-word-items.result.now c.loop-word-test.false in
    subst (λ (ws : List Text). Contains c.loop-word.pairs.items x ↔ TurnedOf g c.args.pairs.now.items ws x)
    (ap (take c.loop-word.word-index) (sym c.as_slice-word-items.ensures) ∙ all ∙ c.as_slice-word-items.ensures) (c.loop-word.invariant x)
