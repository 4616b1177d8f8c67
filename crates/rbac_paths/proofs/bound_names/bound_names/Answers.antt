use Rattle.std.proofs.Common.{◌↔◌, Contains, List, subst, sym}
use Rattle.rbac_terms.specs.Text.{Text}
use Rattle.rbac_paths.specs.BoundNames.{BindsNamed, SomeRule}
use Rattle.rbac_paths.proofs.BoundNames.{names_are}
use Rattle.rbac_paths.proofs.bound_names.bound_names.Goals as goal

pub all_bound-requires : goal.all_bound-requires
all_bound-requires c =
    let of = c.in_ok-listed.ensures.names in
    let same = c.in_order-listed.ensures.same in
    subst (λ (ws : List Text). (name : Text) → Contains ws name ↔ SomeRule (λ rule. BindsNamed rule name) c.args.policy.now.held) (sym c.as_slice.ensures.value)
    (λ name. (λ has. (of name).0 ((same name).0 has), λ is. (same name).1 ((of name).1 is)))

pub returns-clause-names : goal.returns-clause-names
returns-clause-names c =
    names_are c.args.steps.now c.args.policy.now.held c.in_ok-listed.listed.items c.in_ok-all.all.items c.in_order-listed.result.items c.in_order-all.result.items
    c.in_ok-listed.ensures.names c.in_ok-all.ensures c.in_order-listed.ensures.ordered c.in_order-all.ensures.ordered
    c.in_order-listed.ensures.same c.in_order-all.ensures.same
