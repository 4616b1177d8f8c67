use Rattle.std.proofs.Common.{◌≡◌, ◌<◌, ◌+◌, ℕ, List, [], ◌∷◌, ◌++◌, Bor, length, get_or, map, take}
use Rattle.std.proofs.lemmas.List.{map-append}
use Rattle.rbac_terms.specs.declared.matching.Rule.{Rule}
use Rattle.rbac_model.proofs.Stairs.{take_read}
use Rattle.rbac_diff.proofs.finding.in_order.Goals as goal

one_more : (rules : List (Bor Rule)) (i : ℕ) (rule : Bor Rule) (before after : List Rule) (last : Rule) → i < length rules → rule ≡ get_or rules i rule → before ≡ map (λ r. r.now) (take i rules) → last ≡ rule.now → after ≡ before ++ last ∷ [] → after ≡ map (λ r. r.now) (take (i + 1) rules)
one_more rules i rule before after last lt read held is made = rw (made, take_read rules i rule lt read, map-append (λ (r : Bor Rule). r.now) (take i rules) (rule ∷ []), held, is)

pub loop-rule-preserved : goal.loop-rule-preserved
loop-rule-preserved c = one_more c.args.rules.now c.loop-rule.rule-index c.rule-item.result c.loop-rule.ordered.items c.push.new.self.items c.in_ok-new.field-0 c.loop-rule-test.true c.rule-item.is c.loop-rule.invariant c.in_ok-new.ensures c.in_ok-push.ensures.items
