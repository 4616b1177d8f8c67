use Rattle.std.proofs.Common.{subst, sym}
use Rattle.rbac_matrix.specs.GrantVerbs.{AreVerbsOfGrant}
use Rattle.rbac_matrix.proofs.grant_verbs.GrantVerbs.of.Goals as goal

pub returns-then-told-no-clause-told : goal.returns-then-told-no-clause-told
returns-then-told-no-clause-told c =
    let a = c.in-Some.ensures.lookup in
    let told = c.in-Some.told.now in
    subst (AreVerbsOfGrant c.args.index.now c.args.universe.now) (sym (a.3.1 told)) (c.requires.known c.args.nth told a.3.0)
