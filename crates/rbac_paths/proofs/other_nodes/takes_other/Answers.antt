use Rattle.std.proofs.Common.{Option, subst, tests}
use Rattle.std.proofs.lemmas.Bool.{false≢true}
use Rattle.rbac_terms.specs.Text.{Text}
use Rattle.rbac_paths.specs.Nodes.{node_of}
use Rattle.rbac_paths.specs.Told.{HoldingsHaveAll}
use Rattle.rbac_paths.proofs.InScopes.{included}
use Rattle.rbac_paths.proofs.other_nodes.takes_other.Goals as goal

pub returns-then-is_role : goal.returns-then-is_role
returns-then-is_role c p decide nobody =
    let steps = c.args.steps.now in
    let hs = c.args.holdings.now in
    let all = subst (λ (scope : Option Text). HoldingsHaveAll steps hs scope) c.requires.scope (c.requires.seen (search tests)) in (
      λ t. absurd (false≢true t),
      λ t. absurd (included p steps (node_of c.args.from) hs decide (node_of c.args.to) (c.is_role.ensures.0 c.if-is_role.true) all t),
    )
