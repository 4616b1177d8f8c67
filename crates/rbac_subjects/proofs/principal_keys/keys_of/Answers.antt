use Rattle.std.proofs.Common.{◌≡◌, ◌∙◌}
use Rattle.std.proofs.lemmas.List.{append-nil}
use Rattle.rbac_terms.specs.Principals.{who_key}
use Rattle.rbac_subjects.proofs.KeysOf.{IsOfAccount, IsImplied, Lists, accounts_listed, all_listed, no_accounts, no_sign_in, own_listed, sign_in_listed}
use Rattle.rbac_subjects.proofs.principal_keys.keys_of.Goals as goal
use Rattle.rbac_subjects.proofs.principal_keys.keys_of.Goals.{in-Some, in_default, in-Some-sign_in_group, in_default-sign_in_group}

pub returns : goal.returns
returns c = λ key.
    let who = c.args.principal.now in
    let is : c.new.result ≡ who_key who = c.new.ensures ∙ append-nil c.as_bytes.result.now ∙ c.as_bytes.ensures ∙ c.key.ensures in
    let first : Lists who (λ g. ⊥) c.push.new.self.items = rw (c.push.ensures.items, c.new-implied.ensures) (own_listed who c.new.result is) in
    let accounts : Lists who (IsOfAccount who) c.match-account_namespace.implied.items = elim c.match-account_namespace.branch [
      | in-Some w ↦ rw (w.implied-is, w.push-in-Some-2.ensures.items, w.push-in-Some.ensures.items, w.new-in-Some.ensures, w.new-in-Some-2.ensures) (accounts_listed who c.push.new.self.items w.in-Some.namespace.now w.in-Some.ensures first)
      | in_default w ↦ rw w.implied-is (no_accounts who c.push.new.self.items w.in_default.ensures first)
    ] in
    let implied : Lists who (IsImplied who) c.match-sign_in_group.implied.items = elim c.match-sign_in_group.branch [
      | in-Some-sign_in_group w ↦ rw (w.implied-is, w.push-in-Some-sign_in_group.ensures.items, w.new-in-Some-sign_in_group.ensures) (sign_in_listed who c.match-account_namespace.implied.items w.in-Some-sign_in_group.group.now w.in-Some-sign_in_group.ensures accounts)
      | in_default-sign_in_group w ↦ rw w.implied-is (no_sign_in who c.match-account_namespace.implied.items w.in_default-sign_in_group.ensures accounts)
    ] in
    rw (c.into_iter.ensures.into_iter_gives.0, c.given.ensures) (all_listed who c.match-sign_in_group.implied.items implied key)
