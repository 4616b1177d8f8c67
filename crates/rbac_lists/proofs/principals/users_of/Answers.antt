use Rattle.std.proofs.Common.{◌≡◌, List, [], All, map, refl, subst, arith}
use Rattle.std.proofs.lemmas.Grind.{common_steps}
use Rattle.std.proofs.lemmas.List.Elements.{All-map}
use Rattle.rbac_terms.specs.Principals.{Who, account_principal, given_of}
use Rattle.rbac_lists.specs.declared.given_lists.Account.{Account}
use Rattle.rbac_lists.proofs.principals.users_of.Goals as goal

pub returns-clause-given : goal.returns-clause-given
returns-clause-given c =
    let accounts = c.args.accounts.now in
    let user : Account → Who = λ a. account_principal a.namespace a.name in
    let same : map user accounts ≡ c.from_vec.result = grind (arith, common_steps) in
    subst (λ (list : List Who). All (λ who. given_of who ≡ []) list) same (All-map (λ who. given_of who ≡ []) user accounts (λ k d l. refl))
