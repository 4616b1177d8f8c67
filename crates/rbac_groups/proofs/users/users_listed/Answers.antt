use Rattle.std.proofs.Common.{◌≡◌, [], All, arith, subst, sym, take}
use Rattle.std.proofs.lemmas.Grind.{common_steps, flat_map-append}
use Rattle.rbac_terms.specs.Principals.{Who, given_of}
use Rattle.rbac_groups.proofs.NoneGiven.{none_given}
use Rattle.rbac_groups.proofs.users.users_listed.Goals as goal

pub loop-membership-preserved : goal.loop-membership-preserved
loop-membership-preserved c = grind (arith, common_steps, flat_map-append)

pub returns-clause-given : goal.returns-clause-given
returns-clause-given c =
    subst (All (λ (who : Who). given_of who ≡ [])) (sym c.loop-membership.invariant) (none_given (take c.loop-membership.membership-index c.args.memberships.now))
