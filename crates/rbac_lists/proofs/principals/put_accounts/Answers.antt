use Rattle.std.proofs.Common.{◌≡◌, ◌++◌, ◌∷◌, ◌∙◌, ◌+◌, [], ap, sym, take, map}
use Rattle.std.proofs.lemmas.List.{append_assoc, map-append, take_more}
use Rattle.rbac_terms.specs.Principals.{Who, account_principal}
use Rattle.rbac_lists.specs.declared.given_lists.Account.{Account}
use Rattle.rbac_lists.proofs.principals.put_accounts.Goals as goal

-- one more account, one more user
pub loop-account-preserved : goal.loop-account-preserved
loop-account-preserved c =
    let xs = c.args.accounts.now in
    let i = c.loop-account.account-index in
    let x = c.account-item.result in
    let given = c.args.list.now.items in
    let user : Account → Who = λ a. account_principal a.namespace a.name in
    let more : take (i + 1) xs ≡ take i xs ++ x ∷ [] = take_more xs i x c.loop-account-test.true ∙ ap (λ (a : Account). take i xs ++ a ∷ []) (sym c.account-item.is) in
    c.in_ok-push.ensures.items
    ∙ ap (λ (p : Who). c.loop-account.list.items ++ p ∷ []) c.in_ok-account.ensures
    ∙ ap (λ ys. ys ++ user x ∷ []) c.loop-account.invariant
    ∙ append_assoc given (map user (take i xs)) (user x ∷ [])
    ∙ ap (λ ys. given ++ ys) (sym (ap (map user) more ∙ map-append user (take i xs) (x ∷ [])))
