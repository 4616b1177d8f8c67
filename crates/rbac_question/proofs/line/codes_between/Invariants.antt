use Rattle.std.proofs.Common.{◌≡◌, All, map}
use Rattle.rbac_question.specs.Lines.{IsCode, code_word}
use Rattle.rbac_question.proofs.line.codes_between.Given as goal

abbrev pub invariant-loop-part : goal.invariant-loop-part
invariant-loop-part l = All IsCode l.numbers.items × (map (λ part. part.now) l.yielded ≡ map code_word l.numbers.items)
