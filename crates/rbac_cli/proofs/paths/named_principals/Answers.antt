use Rattle.std.proofs.Common.{◌≡◌, ◌↔◌, ◌∙◌, List, Contains, ap₂, map, subst, sym}
use Rattle.rbac_terms.specs.Principals.{Who}
use Rattle.rbac_model.specs.Lists.{IsAscendingBy}
use Rattle.rbac_model.specs.Unions.{who_texts}
use Rattle.rbac_groups.specs.Memberships.{with_memberships}
use Rattle.rbac_groups.specs.declared.membership.Membership.{Membership}
use Rattle.rbac_cli.specs.Groups.{named_alone, named_in}
use Rattle.rbac_cli.proofs.GroupsGiven.{given_alike, given_in_order}
use Rattle.rbac_cli.proofs.paths.named_principals.Goals as goal

pub returns-clause-ordered : goal.returns-clause-ordered
returns-clause-ordered c =
    let ms = c.args.export.now.memberships in
    let each : List Who = c.in_ok-each.each in
    let is : c.from_vec.result ≡ map (with_memberships ms) each = c.from_vec.ensures ∙ c.in_ok-given.ensures
    ∙ ap₂ (λ (m : List Membership) (xs : List Who). map (with_memberships m) xs) c.memberships.ensures c.into_vec.ensures in
    subst (IsAscendingBy who_texts) (sym is) (given_in_order ms each c.in_ok-each.ensures.ordered)

pub returns-clause-exact : goal.returns-clause-exact
returns-clause-exact c =
    let l = c.args.export.now in
    let each : List Who = c.in_ok-each.each in
    let is : c.from_vec.result ≡ map (with_memberships l.memberships) each = c.from_vec.ensures ∙ c.in_ok-given.ensures
    ∙ ap₂ (λ (m : List Membership) (xs : List Who). map (with_memberships m) xs) c.memberships.ensures c.into_vec.ensures in
    subst (λ (xs : List Who). (who : Who) → Contains xs who ↔ Contains (named_in l) who) (sym is) (given_alike l.memberships each (named_alone l) c.in_ok-each.ensures.exact)
