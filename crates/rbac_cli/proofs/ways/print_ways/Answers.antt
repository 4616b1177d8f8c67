use Rattle.std.proofs.Common.{List, ap, refl, subst, sym, ◌∙◌}
use Rattle.rbac_catalogue.specs.Catalogue.{CatalogueView}
use Rattle.rbac_paths.specs.Access.{AccessView}
use Rattle.rbac_paths.specs.WaysTo.{AreWaysTo}
use Rattle.rbac_steps.specs.declared.steps.Step.{Step}
use Rattle.rbac_question.specs.declared.command.Action.TheVariants.{WaysTo}
use Rattle.rbac_cli.specs.Groups.{named_in}
use Rattle.rbac_cli.specs.Meant.{IsMeant}
use Rattle.rbac_cli.specs.Out.{ways_text}
use Rattle.rbac_cli.specs.declared.exports.Exports.TheVariants.{Single}
use Rattle.rbac_cli.proofs.PathsNamed.{ways_too}
use Rattle.rbac_cli.proofs.ways.print_ways.Goals as goal

pub returns : goal.returns
returns g c = λ chosen e.
    let q = c.args.question.now in
    let l = c.args.export.now in
    let meant = c.in_ok-meant.meant in
    let asked : AccessView = record { namespace = meant.namespace; verb = q.verb; target = meant.target } in
    let found = c.in_ok-found.found.items in
    let principals = c.in_ok-principals.principals in
    let are = ways_too principals (named_in l) c.in_ok-principals.ensures.exact l.policy c.args.steps.now asked found
    (rw (c.policy-policy.ensures, c.as_slice.ensures) at c.in_ok-found.ensures) in
    let is = subst (λ (v : CatalogueView). IsMeant v.entries q meant.target meant.namespace) c.catalogue.ensures c.in_ok-meant.ensures.meant in
    c.print_lines.ensures (Single l) (WaysTo chosen q) (ways_text found) (sym (ap ways_text (c.iter.ensures.rest ∙ c.as_slice-2.ensures.value)))
    (meant.target, meant.namespace, is, (found, subst (λ (ss : List Step). AreWaysTo l.policy (named_in l) ss asked found) (sym e) are, refl, refl))
