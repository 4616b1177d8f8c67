use Rattle.std.proofs.Common.{rules, ◌≡◌, []}
use Rattle.rbac_cli.specs.Meant.{with_subresource}
use Rattle.rbac_cli.proofs.Named.{proper}
use Rattle.rbac_cli.proofs.meaning.resource_target.Goals as goal

pub unreachable-requires : goal.unreachable-requires
unreachable-requires c =
    let e : c.in_ok-text.text ≡ with_subresource c.in_ok-found.found.resource c.args.subresource.now = search rules in
    c.in-Err.ensures.1 (rw e (proper c.args.catalogue.now.entries c.args.word.now c.args.subresource.now [] [] c.in_ok-found.found c.requires c.in_ok-found.ensures.found))
