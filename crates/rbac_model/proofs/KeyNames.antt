-- a subject names the principal exactly where its key is that of the principal, or of one of its
-- groups
use Rattle.std.proofs.Common.{◌≡◌, [], ◌++◌, ap, sym, refl, subst, inl, inr}
use Rattle.std.specs.Prelude.{Option, Some, None, codes}
use Rattle.std.proofs.lemmas.List.{append_cancel_left}
use Rattle.rbac_terms.specs.Text.{Text}
use Rattle.rbac_terms.specs.Principals.{Who, AsUser, AsMember, who_key, account_user, IsInGroup, IsUserNamed}
use Rattle.rbac_terms.specs.Granting.{Names, IsSubjectKey}
use Rattle.rbac_terms.specs.declared.granting.Subject.{Subject}
use Rattle.rbac_terms.specs.declared.granting.Subject.TheVariants.{User, Group, Account}
use Rattle.rbac_terms.proofs.Groups.{apart}
use Rattle.rbac_model.specs.Holders.{IsKeyFor}

-- the user of a name
user_key : (who : Who) (name : Text) → IsUserNamed who name → who_key (AsUser name []) ≡ who_key who
user_key (AsUser n given) name e = ap (λ (t : Text). codes "u:" ++ t) (sym e)
user_key (AsMember g) name e = absurd e

user_named : (who : Who) (name : Text) → IsKeyFor who (who_key (AsUser name [])) → IsUserNamed who name
user_named (AsUser n given) name (inl e) = sym (append_cancel_left (codes "u:") name n e)
user_named (AsUser n given) name (inr g) = absurd (apart name g.0 g.2)
user_named (AsMember g) name (inl e) = absurd (apart name g e)
user_named (AsMember g) name (inr f) = absurd (apart name f.0 f.2)

group_named : (who : Who) (name : Text) → IsKeyFor who (who_key (AsMember name)) → IsInGroup who name
group_named (AsUser n given) name (inl e) = absurd (apart n name (sym e))
group_named (AsUser n given) name (inr g) = subst (λ (t : Text). IsInGroup (AsUser n given) t) (sym (append_cancel_left (codes "g:") name g.0 g.2)) g.1
group_named (AsMember g) name (inl e) = append_cancel_left (codes "g:") name g e
group_named (AsMember g) name (inr f) = subst (λ (t : Text). IsInGroup (AsMember g) t) (sym (append_cancel_left (codes "g:") name f.0 f.2)) f.1

-- a subject that names the principal has such a key
pub naming_key : (s : Subject) (namespace : Option Text) (who : Who) → Names s namespace who → (key : Text) × IsSubjectKey s namespace key × IsKeyFor who key
naming_key (User name) namespace who n = (who_key (AsUser name []), refl, inl (user_key who name n))
naming_key (Group name) namespace who n = (who_key (AsMember name), refl, inr (name, n, refl))
naming_key (Account (Some m) name) namespace who n = (who_key (AsUser (account_user m name) []), refl, inl (user_key who (account_user m name) n))
naming_key (Account None name) (Some m) who n = (who_key (AsUser (account_user m name) []), refl, inl (user_key who (account_user m name) n))
naming_key (Account None name) None who n = absurd n

-- a subject with such a key names the principal
pub key_names : (s : Subject) (namespace : Option Text) (who : Who) (key : Text) → IsSubjectKey s namespace key → IsKeyFor who key → Names s namespace who
key_names (User name) namespace who key e f = user_named who name (subst (IsKeyFor who) e f)
key_names (Group name) namespace who key e f = group_named who name (subst (IsKeyFor who) e f)
key_names (Account (Some m) name) namespace who key e f = user_named who (account_user m name) (subst (IsKeyFor who) e f)
key_names (Account None name) (Some m) who key e f = user_named who (account_user m name) (subst (IsKeyFor who) e f)
key_names (Account None name) None who key e f = absurd e
