use Rattle.std.specs.Prelude.{◌≡◌, ◌≢◌, List, [], ◌++◌, ◌⊎◌, Contains, Bool, true, false, codes}
use Rattle.std.specs.Prelude.{drop}
use Rattle.rbac_terms.specs.Text.{Text, colon}

-- a principal, who asks: a user with a name and given groups (Using RBAC Authorization), or an
-- unnamed member of one group (own)
pub data Who : Type 0 where
  AsUser : (name : Text) (given : List Text) → Who
  AsMember : (group : Text) → Who

-- the key of a principal: `u:` and the user's name, or `g:` and the group's (own)
abbrev pub who_key : Who → Text
who_key (AsUser name given) = codes "u:" ++ name
who_key (AsMember group) = codes "g:" ++ group

-- the user name of a service account (Using RBAC Authorization, Referring to subjects)
abbrev pub account_user : Text → Text → Text
account_user namespace name = codes "system:serviceaccount:" ++ namespace ++ codes ":" ++ name

-- the principal that a service account is: its user, without further groups (Using RBAC
-- Authorization, Referring to subjects)
abbrev pub account_principal : Text → Text → Who
account_principal namespace name = AsUser (account_user namespace name) []

-- a part of a service account's user name, the namespace or the account's name: not empty and
-- without a colon (own)
abbrev pub IsPart : Text → Type 0
IsPart t = (t ≢ []) × (¬ Contains t colon)

-- the user is a service account of that namespace, whatever its name there (Using RBAC
-- Authorization, Referring to subjects)
abbrev pub IsAccountOf : Text → Text → Type 0
IsAccountOf user namespace = (name : Text) × (user ≡ account_user namespace name) × IsPart namespace
    × IsPart name

-- the groups of the service accounts of a namespace: the group of all service accounts, and the
-- group of the service accounts of that namespace (Using RBAC Authorization, Referring to subjects)
abbrev pub IsGroupOfAccounts : Text → Text → Type 0
IsGroupOfAccounts namespace g = (g ≡ codes "system:serviceaccounts")
    ⊎ (g ≡ codes "system:serviceaccounts:" ++ namespace)

-- the groups that a user is in as a service account (Using RBAC Authorization, Referring to
-- subjects)
abbrev pub IsAccountGroup : Text → Text → Type 0
IsAccountGroup user g = (namespace : Text) × IsAccountOf user namespace
    × IsGroupOfAccounts namespace g

-- the group that shows whether a user has signed in: `system:unauthenticated` for the anonymous
-- user, `system:authenticated` for any other (Using RBAC Authorization), but no group for another
-- user who is given `system:unauthenticated` (own)
abbrev pub IsSignInGroup : Text → List Text → Text → Type 0
IsSignInGroup user given g =
    ((user ≡ codes "system:anonymous") × (g ≡ codes "system:unauthenticated"))
    ⊎ ((user ≢ codes "system:anonymous") × (¬ Contains given (codes "system:unauthenticated"))
    × (g ≡ codes "system:authenticated"))

-- the groups that a user is in besides the given ones: as a service account, and by having signed
-- in or not (Using RBAC Authorization)
abbrev pub IsImpliedGroup : Text → List Text → Text → Type 0
IsImpliedGroup user given g = IsAccountGroup user g ⊎ IsSignInGroup user given g

-- the groups of a principal: for a user, the given and the implied ones (Using RBAC
-- Authorization); for a member of a group, that group alone (own)
abbrev pub IsInGroup : Who → Text → Type 0
IsInGroup (AsUser name given) g = Contains given g ⊎ IsImpliedGroup name given g
IsInGroup (AsMember group) g = g ≡ group

-- the name in the key: the user's, or the group's (own)
abbrev pub who_name : Who → Text
who_name (AsUser name given) = name
who_name (AsMember group) = group

-- the groups given to a user; none for a member of a group (own)
abbrev pub given_of : Who → List Text
given_of (AsUser name given) = given
given_of (AsMember group) = []

-- the principal is the user of that name, whatever its groups (Using RBAC Authorization, Referring
-- to subjects)
abbrev pub IsUserNamed : Who → Text → Type 0
IsUserNamed (AsUser name given) wanted = name ≡ wanted
IsUserNamed (AsMember group) wanted = ⊥

-- the principal is a service account of that namespace (Using RBAC Authorization, Referring to
-- subjects)
abbrev pub IsAccountIn : Who → Text → Type 0
IsAccountIn (AsUser name given) namespace = IsAccountOf name namespace
IsAccountIn (AsMember group) namespace = ⊥

-- the group that shows whether the principal has signed in; a member of a group has none (own)
abbrev pub SignsInAs : Who → Text → Type 0
SignsInAs (AsUser name given) g = IsSignInGroup name given g
SignsInAs (AsMember group) g = ⊥

-- the principal, from the program's fields: a flag that is true for a user, the key, and the given
-- groups
abbrev pub who_of : Bool → Text → List Text → Who
who_of true key given = AsUser (drop 2 key) given
who_of false key given = AsMember (drop 2 key)
