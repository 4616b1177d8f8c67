use Rattle.rbac_cli.proofs.paths.listed_of.Goals as goal

pub returns-in-Some : goal.returns-in-Some
returns-in-Some c = rw c.in-Some.is (rw (c.as_slice.ensures.value, c.as_ref.ensures.value) at c.path_to.ensures)
