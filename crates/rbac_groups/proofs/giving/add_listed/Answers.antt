use Rattle.std.proofs.Common.{rules, sym, ap, ◌++◌, ◌∙◌}
use Rattle.std.specs.Option.{option_to_list}
use Rattle.std.proofs.lemmas.List.{append-nil}
use Rattle.rbac_groups.proofs.Listing.{group_passed}
use Rattle.rbac_groups.proofs.giving.add_listed.Goals as goal

pub returns-else-contains_bytes : goal.returns-else-contains_bytes
returns-else-contains_bytes c =
    let none = group_passed c.args.user.now c.args.membership.now (λ w. search rules) in
    sym (ap (λ o. c.args.groups.now ++ option_to_list o) none ∙ append-nil c.args.groups.now)
