use Rattle.std.proofs.Common.{List, subst, sym}
use Rattle.rbac_paths.specs.Access.{access_of}
use Rattle.rbac_paths.specs.Having.{AreHoldings, HoldingView}
use Rattle.rbac_paths.specs.Nodes.{node_of}
use Rattle.rbac_paths.proofs.Reasons.{allowed_by}
use Rattle.rbac_paths.proofs.allowed.rules_allow.Goals as goal

pub returns : goal.returns
returns c =
    let p = c.args.policy.now in
    let x = node_of c.args.node in
    let are = subst (λ (hs : List HoldingView). AreHoldings p x hs) (sym c.as_slice.ensures.value) c.in_ok-holdings.ensures in
    let by = allowed_by p c.requires.policy x c.as_slice.result.now are (access_of c.args.access) in
    (λ is. by.0 (c.some_gives.ensures.0 is), λ allowed. c.some_gives.ensures.1 (by.1 allowed))
