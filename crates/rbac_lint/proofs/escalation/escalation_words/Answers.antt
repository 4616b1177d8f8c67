use Rattle.rbac_lint.proofs.escalation.escalation_words.Goals as goal

pub returns : goal.returns
returns c = rw (c.in_ok-from_slice.ensures, c.in_ok-from_slice-2.ensures, c.in_ok-from_slice-3.ensures, c.in_ok-from_slice-4.ensures, c.in_ok-from_slice-5.ensures)
