use Rattle.std.proofs.Common.{◌≡◌, ◌↔◌, ◌∙◌, ◌++◌, [], List, All, Contains, ap, ap₂, refl, subst, sym}
use Rattle.std.proofs.lemmas.List.Elements.{All-append}
use Rattle.std.proofs.lemmas.Result.{IfOk-weaker}
use Rattle.rbac_terms.specs.Principals.{Who, given_of}
use Rattle.rbac_model.specs.Policies.{HasSubject, PolicyView}
use Rattle.rbac_groups.specs.Memberships.{users_listed}
use Rattle.rbac_cli.specs.Groups.{named_alone}
use Rattle.rbac_cli.proofs.GroupsGiven.{also_alike}
use Rattle.rbac_cli.proofs.PathsNamed.{all_named, by_keys}
use Rattle.rbac_cli.proofs.paths.each_named.Goals as goal

pub returns-clause-ordered : goal.returns-clause-ordered
returns-clause-ordered c =
    let stood : List Who = c.in_ok-named.named.items in
    let users : List Who = c.in_ok-account_users.field-0 in
    let listed : List Who = c.in_ok-listed.listed.items in
    let both : c.append.new.self.items ≡ stood ++ users = c.in_ok-append.ensures.items ∙ ap (λ (l : List Who). stood ++ l) c.into_vec.ensures in
    let all : c.from_vec.result ≡ (stood ++ users) ++ listed = c.from_vec.ensures ∙ c.in_ok-append-2.ensures.items ∙ ap (λ (l : List Who). l ++ listed) both in
    let alone = All-append (λ (who : Who). given_of who ≡ []) stood users c.in_ok-named.ensures.given c.in_ok-account_users.ensures.given in
    let none = subst (All (λ (who : Who). given_of who ≡ [])) (sym all) (All-append (λ (who : Who). given_of who ≡ []) (stood ++ users) listed alone c.in_ok-listed.ensures.given) in
    IfOk-weaker c.principals_once_each.result _ _ (λ each once. by_keys c.from_vec.result each none once) c.principals_once_each.ensures

pub returns-clause-exact : goal.returns-clause-exact
returns-clause-exact c =
    let l = c.args.export.now in
    let stood : List Who = c.in_ok-named.named.items in
    let users : List Who = c.in_ok-account_users.field-0 in
    let listed : List Who = c.in_ok-listed.listed.items in
    let both : c.append.new.self.items ≡ stood ++ users = c.in_ok-append.ensures.items ∙ ap (λ (l : List Who). stood ++ l) c.into_vec.ensures in
    let are : listed ≡ users_listed l.memberships = c.in_ok-listed.ensures.users ∙ ap users_listed c.memberships.ensures in
    let all : c.from_vec.result ≡ (stood ++ users) ++ users_listed l.memberships = c.from_vec.ensures ∙ c.in_ok-append-2.ensures.items ∙ ap₂ (λ (m n : List Who). m ++ n) both are in
    let exact = subst (λ (p : PolicyView). (who : Who) → Contains stood who ↔ HasSubject p.held who) c.requires c.in_ok-named.ensures.exact in
    let alone = all_named l.policy.held l.principals stood users (stood ++ users) exact c.in_ok-account_users.ensures.users refl in
    let named = subst (λ (xs : List Who). (who : Who) → Contains xs who ↔ Contains (named_alone l) who) (sym all) (also_alike (stood ++ users) l.principals (users_listed l.memberships) alone) in
    IfOk-weaker c.principals_once_each.result _ _
    (λ each once. λ who. (λ has. (named who).0 ((once.same who).0 has), λ has. (once.same who).1 ((named who).1 has)))
    c.principals_once_each.ensures
