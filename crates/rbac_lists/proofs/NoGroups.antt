-- nobody that a subject or a service account names was given groups
use Rattle.std.proofs.Common.{◌≡◌, List, [], ◌∷◌, All, Option, Some, None, map, refl}
use Rattle.std.specs.List.{cons_option, filter_map, flat_map}
use Rattle.std.proofs.lemmas.List.Elements.{All-append, All-cons, All-map, All-nil}
use Rattle.rbac_terms.specs.Text.{Text}
use Rattle.rbac_terms.specs.Principals.{Who, AsMember, AsUser, account_principal, given_of}
use Rattle.rbac_terms.specs.Granting.{named, subject_principal}
use Rattle.rbac_terms.specs.declared.granting.Binding.{Binding}
use Rattle.rbac_terms.specs.declared.granting.Subject.{Subject}
use Rattle.rbac_terms.specs.declared.granting.Subject.TheVariants.{User, Group, Account}
use Rattle.rbac_model.specs.Policies.{Held}
use Rattle.rbac_lists.specs.declared.given_lists.Account.{Account as Listed}
use Rattle.rbac_lists.specs.Derived.{principals_of, subject_principals}

abbrev HasNone : Who → Type 0
HasNone who = given_of who ≡ []

with_user : (name : Text) (rest : List Who) → All HasNone rest → All HasNone (cons_option (named (λ n. AsUser n []) name) rest)
with_user [] rest all = all
with_user (b ∷ bs) rest all = All-cons HasNone (AsUser (b ∷ bs) []) rest refl all

with_members : (name : Text) (rest : List Who) → All HasNone rest → All HasNone (cons_option (named AsMember name) rest)
with_members [] rest all = all
with_members (b ∷ bs) rest all = All-cons HasNone (AsMember (b ∷ bs)) rest refl all

with_subject : (home : Option Text) (s : Subject) (rest : List Who) → All HasNone rest → All HasNone (cons_option (subject_principal home s) rest)
with_subject home (User name) rest all = with_user name rest all
with_subject home (Group name) rest all = with_members name rest all
with_subject home (Account (Some namespace) name) rest all = All-cons HasNone (account_principal namespace name) rest refl all
with_subject (Some namespace) (Account None name) rest all = All-cons HasNone (account_principal namespace name) rest refl all
with_subject None (Account None name) rest all = all

of_subjects : (home : Option Text) (subjects : List Subject) → All HasNone (filter_map (subject_principal home) subjects)
of_subjects home [] = All-nil HasNone
of_subjects home (s ∷ rest) = with_subject home s (filter_map (subject_principal home) rest) (of_subjects home rest)

of_bindings : (bs : List Binding) → All HasNone (flat_map (λ b. filter_map (subject_principal b.namespace) b.subjects) bs)
of_bindings [] = All-nil HasNone
of_bindings (b ∷ rest) =
    All-append HasNone (filter_map (subject_principal b.namespace) b.subjects) (flat_map (λ b. filter_map (subject_principal b.namespace) b.subjects) rest)
    (of_subjects b.namespace b.subjects) (of_bindings rest)

pub none_given : (h : Held) (accounts : List Listed) → All (λ who. given_of who ≡ []) (principals_of h accounts)
none_given h accounts =
    All-append HasNone (subject_principals h) (map (λ a. account_principal a.namespace a.name) accounts)
    (of_bindings h.bindings)
    (All-map HasNone (λ a. account_principal a.namespace a.name) accounts (λ k d l. refl))
