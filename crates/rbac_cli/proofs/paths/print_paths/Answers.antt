use Rattle.std.proofs.Common.{List, ap, refl, subst, sym, ◌∙◌}
use Rattle.rbac_terms.specs.Principals.{Who}
use Rattle.rbac_groups.specs.Memberships.{with_memberships}
use Rattle.rbac_paths.specs.Paths.{ArePathsOf}
use Rattle.rbac_steps.specs.declared.steps.Step.{Step}
use Rattle.rbac_question.specs.declared.command.Action.TheVariants.{Paths}
use Rattle.rbac_cli.specs.Groups.{named_in}
use Rattle.rbac_cli.specs.Out.{paths_status, paths_text}
use Rattle.rbac_cli.specs.declared.exports.Exports.TheVariants.{Single}
use Rattle.rbac_cli.proofs.PathsNamed.{paths_too}
use Rattle.rbac_cli.proofs.paths.print_paths.Goals as goal

pub returns : goal.returns
returns g c = λ chosen e.
    let l = c.args.export.now in
    let who = with_memberships l.memberships c.args.principal.now in
    let to = c.args.to.now in
    let found = c.in_ok-found.found.items in
    let listed = c.in_ok-listed.listed.items in
    let principals = c.in_ok-principals.principals in
    let of_who = paths_too principals (named_in l) c.in_ok-principals.ensures.exact l.policy c.args.steps.now c.in_ok-who.who found
    (rw (c.policy-policy.ensures, c.as_slice.ensures) at c.in_ok-found.ensures) in
    let are = subst (λ (w : Who). ArePathsOf l.policy (named_in l) c.args.steps.now w found) c.in_ok-who.ensures of_who in
    let lists = c.in_ok-listed.ensures l.policy (named_in l) c.args.steps.now who are in
    let status = c.status_of-status.ensures ∙ ap (paths_status to) c.as_slice-2.ensures.value in
    c.print_lines.ensures (Single l) (Paths c.args.principal.now chosen to) (paths_text listed) (sym (ap paths_text (c.iter.ensures.rest ∙ c.as_slice-3.ensures.value)))
    (found, listed, subst (λ (ss : List Step). ArePathsOf l.policy (named_in l) ss who found) (sym e) are, lists, refl, status)
