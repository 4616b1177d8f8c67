use Rattle.std.proofs.Common.{arith, refl, rules, sym}
use Rattle.std.proofs.lemmas.Grind.{common_steps}
use Rattle.std.proofs.lemmas.List.{append-nil, take_all}
use Rattle.rbac_text.proofs.Fields.{plain_text}
use Rattle.rbac_text.proofs.field.put_text.Goals as goal

pub returns-then-is_plain_text : goal.returns-then-is_plain_text
returns-then-is_plain_text c = rw (plain_text c.args.text.now (c.is_plain_text.ensures.0 c.if-is_plain_text.true)) (search rules)

pub loop-byte-init : goal.loop-byte-init
loop-byte-init c = sym (append-nil _)

pub loop-byte-preserved : goal.loop-byte-preserved
loop-byte-preserved c = grind (arith, common_steps)

pub returns : goal.returns
returns c = rw (c.loop-byte.invariant, take_all c.loop-byte.byte-index c.args.text.now c.loop-byte-test.false) refl
