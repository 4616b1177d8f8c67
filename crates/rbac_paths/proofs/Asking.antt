-- The namespace and the name in requests that take over a user or a group.
use Rattle.std.proofs.Common.{◌≡◌, ◌↔◌, ◌∙◌, [], Option, Some, None, MatchOption, Bor, is_some, false, true, refl, sym}
use Rattle.rbac_terms.specs.Text.{Text}
use Rattle.rbac_terms.specs.Principals.{Who, AsUser, AsMember, who_name}
use Rattle.rbac_paths.specs.Asked.{IsAnyUser}
use Rattle.rbac_paths.specs.Nodes.{IsAccountNamed, Somebody}
use Rattle.rbac_paths.specs.Taking.{IsOver}
use Rattle.rbac_paths.specs.declared.table.Counts.{Counts}
use Rattle.rbac_paths.specs.declared.table.Over.TheVariants as over

-- the namespace and the name of a service account, if the principal is one
module _ (who : Who) where
  abbrev pub IsPartsOf : (Bor Text × Bor Text) → Type 0
  IsPartsOf parts = (n m : Text) → IsAccountNamed who n m ↔ ((n ≡ parts.0.now) × (m ≡ parts.1.now))

  pub is_none_named : (o : Option (Bor Text × Bor Text)) → is_some o ≡ false → MatchOption o ((n m : Text) → IsAccountNamed who n m → ⊥) IsPartsOf → (n m : Text) → IsAccountNamed who n m → ⊥
  is_none_named None e none = none
  is_none_named (Some x) e parts = cc

  pub is_named : (o : Option (Bor Text × Bor Text)) → is_some o ≡ true → MatchOption o ((n m : Text) → IsAccountNamed who n m → ⊥) IsPartsOf → (n : Text) × (m : Text) × IsAccountNamed who n m
  is_named None e none = cc
  is_named (Some x) e parts = (x.0.now, x.1.now, (parts x.0.now x.1.now).1 (refl, refl))

pub plain_user : (counts : Counts) (who : Who) (own : Text) → IsAnyUser who → ((n m : Text) → IsAccountNamed who n m → ⊥) → own ≡ who_name who
    → (namespace name : Text) → IsOver over.Users counts (Somebody who) namespace name ↔ ((namespace ≡ []) × (name ≡ own))
plain_user counts (AsUser user given) own is none e namespace name = (λ a. (a.0, a.1 ∙ sym e), λ a. (a.0, a.1 ∙ e, none))
plain_user counts (AsMember group) own is none e namespace name = elim is [ ]

pub no_user : (counts : Counts) (who : Who) → (IsAnyUser who → ⊥) → (namespace name : Text) → IsOver over.Users counts (Somebody who) namespace name → ⊥
no_user counts (AsUser user given) isnt namespace name a = isnt tt
no_user counts (AsMember group) isnt namespace name a = elim a [ ]

pub no_account : (counts : Counts) (who : Who) (n m : Text) → IsAccountNamed who n m → (namespace name : Text) → IsOver over.Users counts (Somebody who) namespace name → ⊥
no_account counts (AsUser user given) n m is namespace name a = a.2 n m is
no_account counts (AsMember group) n m is namespace name a = elim a [ ]
