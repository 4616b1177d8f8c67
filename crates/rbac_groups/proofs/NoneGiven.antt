-- Nobody whom documents list is given groups.
use Rattle.std.proofs.Common.{◌≡◌, List, [], ◌∷◌, All, refl}
use Rattle.std.specs.List.{cons_option, filter_map}
use Rattle.std.proofs.lemmas.List.Elements.{All-append, All-cons, All-nil}
use Rattle.rbac_terms.specs.Text.{Text}
use Rattle.rbac_terms.specs.Principals.{Who, AsUser, given_of}
use Rattle.rbac_groups.specs.Memberships.{user_named, users_listed}
use Rattle.rbac_groups.specs.declared.membership.Membership.{Membership}

abbrev HasNone : Who → Type 0
HasNone who = given_of who ≡ []

with_user : (name : Text) (rest : List Who) → All HasNone rest → All HasNone (cons_option (user_named name) rest)
with_user [] rest all = all
with_user (b ∷ bs) rest all = All-cons HasNone (AsUser (b ∷ bs) []) rest refl all

of_names : (names : List Text) → All HasNone (filter_map user_named names)
of_names [] = All-nil HasNone
of_names (name ∷ rest) = with_user name (filter_map user_named rest) (of_names rest)

pub none_given : (ms : List Membership) → All (λ who. given_of who ≡ []) (users_listed ms)
none_given [] = All-nil HasNone
none_given (m ∷ rest) = All-append HasNone (filter_map user_named m.users) (users_listed rest) (of_names m.users) (none_given rest)
