use Rattle.std.proofs.Common.{◌≡◌, ◌∙◌, List, length, map, subst, sym}
use Rattle.std.proofs.lemmas.List.{nil_from_length}
use Rattle.std.proofs.lemmas.Bool.{eqb-true}
use Rattle.rbac_groups.specs.Memberships.{with_memberships}
use Rattle.rbac_groups.specs.declared.membership.Membership.{Membership}
use Rattle.rbac_groups.proofs.Unchanged.{all_unchanged}
use Rattle.rbac_groups.proofs.each.each_with_memberships.Goals as goal

pub returns-then-is_empty : goal.returns-then-is_empty
returns-then-is_empty c =
    let none = nil_from_length c.args.memberships.now (eqb-true (length c.args.memberships.now) 0 (sym c.is_empty.ensures ∙ c.if-is_empty.true)) in
    let all = c.args.principals.items in
    sym (subst (λ (ms : List Membership). map (with_memberships ms) all ≡ all) (sym none) (all_unchanged all))
