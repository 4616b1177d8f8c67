-- the user names of service accounts, and the groups that follow from them
use Rattle.std.proofs.Common.{◌≡◌, List, [], ◌∷◌, ◌++◌, sym, ap, ◌∙◌, append_assoc, ◌↔◌, IsTrue, Bool, true, false, subst, Contains}
use Rattle.std.specs.Prelude.{codes}
use Rattle.std.proofs.lemmas.List.{append_cancel_left}
use Rattle.rbac_terms.specs.Text.{Text, colon, IsCutAtFirst, BeginsWith}
use Rattle.rbac_terms.specs.Principals.{Who, AsUser, who_of, who_name, account_user, IsPart, IsAccountOf, IsAccountGroup, IsGroupOfAccounts}
use Rattle.rbac_terms.proofs.Texts.{IsCutAtFirst-one, IsCutAtFirst-prefix, IsCutAtFirst-contains}

-- what follows the prefix of such a name
abbrev pub rest_of : Text → Text → Text
rest_of namespace name = namespace ++ colon ∷ name

pub user_is : (namespace name : Text) → account_user namespace name ≡ codes "system:serviceaccount:" ++ rest_of namespace name
user_is namespace name = ap (λ t. codes "system:serviceaccount:" ++ t) (append_assoc namespace (colon ∷ []) name)

pub account_rest : (user parts namespace name : Text) → user ≡ codes "system:serviceaccount:" ++ parts → user ≡ account_user namespace name → parts ≡ rest_of namespace name
account_rest user parts namespace name e g = append_cancel_left (codes "system:serviceaccount:") parts (rest_of namespace name) (sym e ∙ g ∙ user_is namespace name)

-- an account's name is its prefix, its namespace and the rest, each found in turn
pub account_user-iff : (user parts rest namespace name : Text) (r : Bool) → user ≡ codes "system:serviceaccount:" ++ parts → parts ≡ namespace ++ rest → (IsTrue r ↔ (rest ≡ codes ":" ++ name)) → IsTrue r ↔ (user ≡ account_user namespace name)
account_user-iff user parts rest namespace name r e f i = (
  λ h. e ∙ ap (λ t. codes "system:serviceaccount:" ++ t) (f ∙ ap (λ t. namespace ++ t) (i.0 h)) ∙ sym (user_is namespace name),
  λ g. i.1 (append_cancel_left namespace rest (colon ∷ name) (sym f ∙ account_rest user parts namespace name e g)),
)

-- an account's name begins with the prefix
pub IsAccountOf-begins : (user namespace : Text) → IsAccountOf user namespace → BeginsWith user (codes "system:serviceaccount:")
IsAccountOf-begins user namespace a = (rest_of namespace a.0, a.1 ∙ user_is namespace a.0)

-- the rest of an account's name is cut at its first colon
pub IsAccountOf-cut : (user parts namespace : Text) → user ≡ codes "system:serviceaccount:" ++ parts → (a : IsAccountOf user namespace) → IsCutAtFirst parts colon namespace a.0
IsAccountOf-cut user parts namespace e a =
    (append_cancel_left (codes "system:serviceaccount:") parts (rest_of namespace a.0) (sym e ∙ a.1 ∙ user_is namespace a.0), a.2.1)

-- and so has one
pub IsAccountOf-colon : (user parts namespace : Text) → user ≡ codes "system:serviceaccount:" ++ parts → IsAccountOf user namespace → Contains parts colon
IsAccountOf-colon user parts namespace e a = IsCutAtFirst-contains parts namespace a.0 colon (IsAccountOf-cut user parts namespace e a)

-- the parts of such a name are proper
pub IsAccountOf-from : (user parts namespace name : Text) → user ≡ codes "system:serviceaccount:" ++ parts → IsCutAtFirst parts colon namespace name → IsPart namespace → IsPart name → IsAccountOf user namespace
IsAccountOf-from user parts namespace name e c p q =
    (name, e ∙ ap (λ t. codes "system:serviceaccount:" ++ t) c.0 ∙ sym (user_is namespace name), p, q)

pub IsAccountOf-parts : (user parts namespace m s : Text) → user ≡ codes "system:serviceaccount:" ++ parts → IsCutAtFirst parts colon m s → IsAccountOf user namespace → IsPart m × IsPart s
IsAccountOf-parts user parts namespace m s e c a =
    let cut = IsAccountOf-cut user parts namespace e a in
    (subst IsPart (IsCutAtFirst-prefix parts namespace m a.0 s colon cut c) a.2, subst IsPart (IsCutAtFirst-one parts namespace m a.0 s colon cut c) a.3)

-- a user is the service account of one namespace
pub IsAccountOf-one : (user m n : Text) → IsAccountOf user m → IsAccountOf user n → m ≡ n
IsAccountOf-one user m n a b =
    let e = a.1 ∙ user_is m a.0 in
    IsCutAtFirst-prefix (rest_of m a.0) m n a.0 b.0 colon (IsAccountOf-cut user (rest_of m a.0) m e a) (IsAccountOf-cut user (rest_of m a.0) n e b)

pub IsAccountOf-iff : (user namespace : Text) → IsAccountOf user namespace → (other : Text) → IsAccountOf user other ↔ (other ≡ namespace)
IsAccountOf-iff user namespace a other = (λ b. IsAccountOf-one user other namespace b a, λ e. subst (IsAccountOf user) (sym e) a)

pub IsAccountGroup-iff : (user namespace g : Text) (r : Bool) → IsAccountOf user namespace → (IsTrue r ↔ IsGroupOfAccounts namespace g) → IsTrue r ↔ IsAccountGroup user g
IsAccountGroup-iff user namespace g r a i = (
  λ h. (namespace, a, i.0 h),
  λ b. i.1 (let P : Text → Type 0 = λ n. IsGroupOfAccounts n g in subst P (IsAccountOf-one user b.0 namespace b.1 a) b.2),
)

-- what is marked as a user is the user of its name
pub as_user : (b : Bool) (key : Text) (given : List Text) (who : Who) (user : Text) → who_of b key given ≡ who → b ≡ true → user ≡ who_name who → AsUser user given ≡ who
as_user true key given who user e h n = ap (λ u. AsUser u given) (n ∙ ap who_name (sym e)) ∙ e
as_user false key given who user e h n = cc
