use Rattle.std.proofs.Common.{subst}
use Rattle.rbac_paths.specs.SharedWords.{TakeSameWords}
use Rattle.rbac_paths.proofs.ListPlaces.{within_grants}
use Rattle.rbac_paths.proofs.binding_words.same_before.Goals as goal

pub grant_same-requires-clause-a : goal.grant_same-requires-clause-a
grant_same-requires-clause-a c = within_grants c.args.policy.now c.args.grants.now c.requires.grants c.in-Some.before c.listed_at.result.now c.listed_at.ensures

pub returns-then-grant_same : goal.returns-then-grant_same
returns-then-grant_same c = (c.if-before-place.true, subst (λ ms. TakeSameWords c.args.policy.now ms c.args.numbers.now) c.listed_at.ensures (c.grant_same.ensures c.if-grant_same.true))
