use Rattle.std.proofs.Common.{rules}
use Rattle.rbac_document.proofs.Escapes.{short_escape, code_escape, no_escape}
use Rattle.rbac_document.proofs.quoted.put_byte.Goals as goal

pub returns-then-letter-gt0 : goal.returns-then-letter-gt0
returns-then-letter-gt0 c = rw (short_escape c.args.byte (rw c.escape_letter-letter.ensures at c.if-letter-gt0.true)) (search rules)

pub returns-then-byte-lt32 : goal.returns-then-byte-lt32
returns-then-byte-lt32 c = rw (code_escape c.args.byte (rw c.escape_letter-letter.ensures at c.if-letter-gt0.false) c.if-byte-lt32.true) (search rules)

pub returns : goal.returns
returns c = rw (no_escape c.args.byte (rw c.escape_letter-letter.ensures at c.if-letter-gt0.false) c.if-byte-lt32.false) (search rules)
