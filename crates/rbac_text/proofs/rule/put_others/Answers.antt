use Rattle.std.proofs.Common.{arith, refl, sym}
use Rattle.std.proofs.lemmas.Grind.{common_steps}
use Rattle.std.proofs.lemmas.List.{append-nil, take_all}
use Rattle.rbac_text.proofs.rule.put_others.Goals as goal

pub loop-word-init : goal.loop-word-init
loop-word-init c = sym (append-nil _)

pub loop-word-preserved : goal.loop-word-preserved
loop-word-preserved c = grind (arith, common_steps)

pub returns : goal.returns
returns c = rw (c.loop-word.invariant, take_all c.loop-word.word-index c.args.words.now c.loop-word-test.false) refl
