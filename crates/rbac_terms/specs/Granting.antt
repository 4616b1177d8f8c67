use Rattle.std.specs.Prelude.{◌≡◌, [], ◌∷◌, Option, Some, None}
use Rattle.rbac_terms.specs.Text.{Text}
use Rattle.rbac_terms.specs.Principals.{Who, AsUser, AsMember, who_key, IsUserNamed, IsInGroup}
use Rattle.rbac_terms.specs.Principals.{account_user, account_principal}
use Rattle.rbac_terms.specs.declared.granting.Subject.{Subject}
use Rattle.rbac_terms.specs.declared.granting.Subject.TheVariants.{User, Group, Account}

-- a subject names the principal: the user of its name, anyone in its group, or the user of its
-- service account (Using RBAC Authorization, Referring to subjects); an account without a namespace
-- takes the binding's, and names nobody if the binding has none (own)
abbrev pub Names : Subject → Option Text → Who → Type 0
Names (User name) _ who = IsUserNamed who name
Names (Group name) _ who = IsInGroup who name
Names (Account (Some namespace) name) _ who = IsUserNamed who (account_user namespace name)
Names (Account None name) (Some namespace) who = IsUserNamed who (account_user namespace name)
Names (Account None name) None _ = ⊥

-- the key of the principal that a subject stands for (own): an account has the key of its user, and
-- no key if neither it nor the binding has a namespace
abbrev pub IsSubjectKey : Subject → Option Text → Text → Type 0
IsSubjectKey (User name) _ key = key ≡ who_key (AsUser name [])
IsSubjectKey (Group name) _ key = key ≡ who_key (AsMember name)
IsSubjectKey (Account (Some namespace) name) _ key =
    key ≡ who_key (AsUser (account_user namespace name) [])
IsSubjectKey (Account None name) (Some namespace) key =
    key ≡ who_key (AsUser (account_user namespace name) [])
IsSubjectKey (Account None name) None key = ⊥

-- the principal of this name; an empty name, which no document gives, names nobody (own)
abbrev pub named : (Text → Who) → Text → Option Who
named who [] = None
named who (b ∷ bs) = Some (who (b ∷ bs))

-- the principal that a subject stands for (own): an account stands for its user, and for nobody if
-- neither it nor the binding has a namespace
abbrev pub subject_principal : Option Text → Subject → Option Who
subject_principal _ (User name) = named (λ n. AsUser n []) name
subject_principal _ (Group name) = named AsMember name
subject_principal _ (Account (Some namespace) name) = Some (account_principal namespace name)
subject_principal (Some namespace) (Account None name) = Some (account_principal namespace name)
subject_principal None (Account None name) = None
