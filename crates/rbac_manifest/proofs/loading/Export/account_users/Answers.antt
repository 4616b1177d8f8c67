use Rattle.std.proofs.Common.{◌≡◌, ◌∙◌, ◌++◌, List, map, ap, subst, sym}
use Rattle.std.proofs.lemmas.Result.{IfOk-weaker}
use Rattle.rbac_terms.specs.Principals.{Who, account_principal}
use Rattle.rbac_lists.specs.Derived.{subject_principals}
use Rattle.rbac_lists.specs.declared.given_lists.Account.{Account}
use Rattle.rbac_manifest.specs.Load.{LoadedView}
use Rattle.rbac_manifest.proofs.loading.Export.account_users.Goals as goal

pub returns-clause-users : goal.returns-clause-users
returns-clause-users c =
    let user : Account → Who = λ a. account_principal a.namespace a.name in
    let named = subject_principals c.self.inside.policy.held in
    let Follow : LoadedView → List Who → Type 0 = λ l users. l.principals ≡ subject_principals l.policy.held ++ users in
    IfOk-weaker c.users_of.result (λ users. users ≡ map user c.as_slice.result.now) (Follow c.args.self.now)
    (λ users is. subst (λ (l : LoadedView). Follow l users) c.self.view_is
    (ap (λ (l : List Who). named ++ l) (sym (is ∙ ap (map user) c.as_slice.ensures.value))))
    c.users_of.ensures.list
