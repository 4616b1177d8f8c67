use Rattle.rbac_terms.proofs.Cases.{on_ok}
use Rattle.rbac_use.specs.Rules.{use_of}
use Rattle.rbac_use.proofs.RuleLines.{resource_lines}
use Rattle.rbac_use.proofs.rules.add_of_resource.Goals as goal

pub returns : goal.returns
returns c =
    on_ok c.add_names.result
    (λ more. resource_lines (use_of c.args.used) c.args.verb c.args.group c.args.resource c.args.found.now.items c.add.new.found.items c.add_names.new.found.items c.in_ok-add.ensures more) c.add_names.ensures
