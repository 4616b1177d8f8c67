use Rattle.std.proofs.Common.{sym, subst}
use Rattle.std.specs.Prelude.{List, vec_items}
use Rattle.rbac_terms.specs.Principals.{Who}
use Rattle.rbac_groups.specs.Memberships.{with_memberships}
use Rattle.rbac_groups.proofs.Unchanged.{unchanged}
use Rattle.rbac_paths.specs.Nodes.{Somebody}
use Rattle.rbac_rules.specs.Effective.{AreEffective, RuleView}
use Rattle.rbac_cli.specs.Out.{AreListed, IsVerdict, paths_status, paths_text, rules_text}
use Rattle.rbac_cli.specs.declared.outcome.Status.TheVariants.{Zero}
use Rattle.rbac_cli.proofs.GroupsGiven.{paths_alike}
use Rattle.rbac_cli.proofs.laws.memberships_are_groups_given.Goals as goal

pub returns-clause-verdicts : goal.returns-clause-verdicts
returns-clause-verdicts c l who options q text status =
    let given = unchanged (with_memberships l.memberships who) in (
      λ h. subst (λ (w : Who). IsVerdict l w options q text status) (sym given) h,
      λ h. subst (λ (w : Who). IsVerdict l w options q text status) given h,
    )

pub returns-clause-rules : goal.returns-clause-rules
returns-clause-rules c l who scope text status =
    let given = unchanged (with_memberships l.memberships who) in (
      λ (xs, are, e, s). (xs, subst (λ (w : Who). AreEffective l.policy w scope xs) (sym given) are, e, s),
      λ (xs, are, e, s). (xs, subst (λ (w : Who). AreEffective l.policy w scope xs) given are, e, s),
    )

pub returns-clause-paths : goal.returns-clause-paths
returns-clause-paths c l who steps to text status =
    let given = unchanged (with_memberships l.memberships who) in (
      λ (xs, listed, are, lists, e, s). (
        xs,
        listed,
        (paths_alike l.memberships l.principals l.policy (vec_items steps) who xs).0 are,
        subst (λ (w : Who). AreListed (Somebody w) to xs listed) (sym given) lists,
        e,
        s,
      ),
      λ (xs, listed, are, lists, e, s). (
        xs,
        listed,
        (paths_alike l.memberships l.principals l.policy (vec_items steps) who xs).1 are,
        subst (λ (w : Who). AreListed (Somebody w) to xs listed) given lists,
        e,
        s,
      ),
    )
