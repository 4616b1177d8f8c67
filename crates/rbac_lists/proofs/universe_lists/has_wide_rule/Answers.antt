use Rattle.std.proofs.Common.{rules, ◌≡◌, IfOk}
use Rattle.rbac_lists.specs.Wide.{has_wide_rule}
use Rattle.rbac_lists.proofs.WideLemmas.{many_if_wide}
use Rattle.rbac_lists.proofs.universe_lists.has_wide_rule.Goals as goal

pub returns-clause-many : goal.returns-clause-many
returns-clause-many c =
    let exact : IfOk c.has_wide_source.result (λ wide. wide ≡ has_wide_rule c.args.objects.now c.args.catalogue.now c.args.documents.now) = search rules in
    many_if_wide c.has_wide_source.result c.args.objects.now c.args.catalogue.now c.args.documents.now exact
