-- the principals that subjects stand for: listed and one by one, and by their keys
use Rattle.std.proofs.Common.{◌≡◌, ◌≢◌, List, [], ◌∷◌, Contains, Any, ◌⊎◌, ap, ap₂, sym, ◌∙◌, inl, inr, arith, refl, subst, zero, suc, codes}
use Rattle.std.specs.Prelude.{Option, Some, None}
use Rattle.std.specs.List.{cons_option, filter_map}
use Rattle.std.proofs.lemmas.List.{append_cancel_left}
use Rattle.std.proofs.lemmas.Option.{same_Some}
use Rattle.rbac_terms.specs.Text.{Text}
use Rattle.rbac_terms.specs.Principals.{Who, AsUser, AsMember, account_user, given_of, who_key, who_name}
use Rattle.rbac_terms.specs.Granting.{IsSubjectKey, named, subject_principal}
use Rattle.rbac_terms.specs.declared.granting.Subject.{Subject}
use Rattle.rbac_terms.specs.declared.granting.Subject.TheVariants.{User, Group, Account}
use Rattle.rbac_terms.proofs.Groups.{apart}

module _ {X Y : Type 0} (h : X → Option Y) (y : Y) where
  taken : (o : Option Y) (ys : List Y) → Contains (cons_option o ys) y → (o ≡ Some y) ⊎ Contains ys y
  taken None ys w = inr w
  taken (Some z) ys (zero, l, e) = inl (ap Some e)
  taken (Some z) ys (suc k, l, e) = inr (k, omega (arith, l), e)

  put : (o : Option Y) (ys : List Y) → (o ≡ Some y) ⊎ Contains ys y → Contains (cons_option o ys) y
  put None ys (inl e) = cc
  put None ys (inr w) = w
  put (Some z) ys (inl e) = (0, omega arith, same_Some z y e)
  put (Some z) ys (inr w) = (suc w.0, omega (arith, w.1), w.2)

  -- each that is listed is picked from one of the elements
  pub picked : (xs : List X) → Contains (filter_map h xs) y → Any (λ x. h x ≡ Some y) xs
  picked [] w = absurd (omega (arith, w.1))
  picked (x ∷ xs) w = elim (taken (h x) (filter_map h xs) w) [
    | inl e ↦ (0, x, omega arith, refl, e)
    | inr v ↦ let a = picked xs v in (suc a.0, a.1, omega (arith, a.2), a.3, a.4)
  ]

  pub pickable : (xs : List X) → Any (λ x. h x ≡ Some y) xs → Contains (filter_map h xs) y
  pickable [] a = absurd (omega (arith, a.2))
  pickable (x ∷ xs) (zero, z, l, e, is) = put (h x) (filter_map h xs) (inl (ap h e ∙ is))
  pickable (x ∷ xs) (suc k, z, l, e, is) = put (h x) (filter_map h xs) (inr (pickable xs (k, z, omega (arith, l), e, is)))

-- of those without given groups, a key is that of one
pub one_of_key : (who other : Who) → given_of who ≡ [] → given_of other ≡ [] → who_key who ≡ who_key other → who ≡ other
one_of_key (AsUser m gs) (AsUser n hs) none also e = ap₂ (λ (name : Text) (given : List Text). AsUser name given) (append_cancel_left (codes "u:") m n e) (none ∙ sym also)
one_of_key (AsUser m gs) (AsMember n) none also e = absurd (apart m n e)
one_of_key (AsMember m) (AsUser n hs) none also e = absurd (apart n m (sym e))
one_of_key (AsMember m) (AsMember n) none also e = ap (λ (group : Text). AsMember group) (append_cancel_left (codes "g:") m n e)

-- a principal with a name, and without given groups
abbrev pub IsPlain : Who → Type 0
IsPlain who = (who_name who ≢ []) × (given_of who ≡ [])

user_named : (name : Text) (who : Who) → IsPlain who → who_key who ≡ who_key (AsUser name []) → named (λ n. AsUser n []) name ≡ Some who
user_named [] who plain e = let same = one_of_key who (AsUser [] []) plain.1 refl e in absurd (plain.0 (ap who_name same))
user_named (b ∷ bs) who plain e = ap Some (sym (one_of_key who (AsUser (b ∷ bs) []) plain.1 refl e))

member_named : (name : Text) (who : Who) → IsPlain who → who_key who ≡ who_key (AsMember name) → named AsMember name ≡ Some who
member_named [] who plain e = let same = one_of_key who (AsMember []) plain.1 refl e in absurd (plain.0 (ap who_name same))
member_named (b ∷ bs) who plain e = ap Some (sym (one_of_key who (AsMember (b ∷ bs)) plain.1 refl e))

-- a subject with the key of such a principal stands for it
pub stands_by_key : (s : Subject) (home : Option Text) (who : Who) → IsPlain who → IsSubjectKey s home (who_key who) → subject_principal home s ≡ Some who
stands_by_key (User name) home who plain e = user_named name who plain e
stands_by_key (Group name) home who plain e = member_named name who plain e
stands_by_key (Account (Some m) name) home who plain e = ap Some (sym (one_of_key who (AsUser (account_user m name) []) plain.1 refl e))
stands_by_key (Account None name) (Some m) who plain e = ap Some (sym (one_of_key who (AsUser (account_user m name) []) plain.1 refl e))
stands_by_key (Account None name) None who plain e = absurd e

-- a subject stands for a principal with a name and without given groups, and has its key
abbrev pub HasPlainKey : Subject → Option Text → Who → Type 0
HasPlainKey s home who = IsPlain who × IsSubjectKey s home (who_key who)

user_stands : (home : Option Text) (name : Text) (who : Who) → named (λ n. AsUser n []) name ≡ Some who → HasPlainKey (User name) home who
user_stands home [] who e = cc
user_stands home (b ∷ bs) who e = let same = same_Some (AsUser (b ∷ bs) []) who e in subst (HasPlainKey (User (b ∷ bs)) home) same (((λ none. cc), refl), refl)

member_stands : (home : Option Text) (name : Text) (who : Who) → named AsMember name ≡ Some who → HasPlainKey (Group name) home who
member_stands home [] who e = cc
member_stands home (b ∷ bs) who e = let same = same_Some (AsMember (b ∷ bs)) who e in subst (HasPlainKey (Group (b ∷ bs)) home) same (((λ none. cc), refl), refl)

pub key_of_standing : (s : Subject) (home : Option Text) (who : Who) → subject_principal home s ≡ Some who → HasPlainKey s home who
key_of_standing (User name) home who e = user_stands home name who e
key_of_standing (Group name) home who e = member_stands home name who e
key_of_standing (Account (Some m) name) home who e = let same = same_Some (AsUser (account_user m name) []) who e in subst (HasPlainKey (Account (Some m) name) home) same (((λ none. cc), refl), refl)
key_of_standing (Account None name) (Some m) who e = let same = same_Some (AsUser (account_user m name) []) who e in subst (HasPlainKey (Account None name) (Some m)) same (((λ none. cc), refl), refl)
key_of_standing (Account None name) None who e = cc
