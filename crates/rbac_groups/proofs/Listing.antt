-- The groups whose documents list a user are those that documents give the user.
use Rattle.std.proofs.Common.{◌≡◌, List, [], ◌∷◌, Bool, true, false, Some, None, Contains, ◌↔◌, ◌⊎◌, inl, inr, zero, suc, refl, arith, cond}
use Rattle.std.specs.List.{cons_option}
use Rattle.std.specs.Set.{is_member}
use Rattle.std.specs.Str.{bytes_eq}
use Rattle.std.proofs.lemmas.Map.Made.{is_member-Decides}
use Rattle.std.proofs.lemmas.Slice.Eq.{bytes_eq-Decides}
use Rattle.rbac_terms.specs.Text.{Text}
use Rattle.rbac_groups.specs.declared.membership.Membership.{Membership}
use Rattle.rbac_groups.specs.Memberships.{group_listing, groups_listing, IsGivenBy}

-- ---- one document

given : (b : Bool) (g : Text) → b ≡ true → cond b (Some g) None ≡ Some g
given true g e = refl
given false g e = absurd (cc)

passed : (b : Bool) (g : Text) → (b ≡ true → ⊥) → cond b (Some g) None ≡ None
passed true g no_member = absurd (no_member refl)
passed false g no_member = refl

pub group_taken : (user : Text) (m : Membership) → Contains m.users user → group_listing user m ≡ Some m.group
group_taken user m w = given (is_member bytes_eq m.users user) m.group ((is_member-Decides bytes_eq-Decides m.users user).1 w)

pub group_passed : (user : Text) (m : Membership) → (Contains m.users user → ⊥) → group_listing user m ≡ None
group_passed user m other = passed (is_member bytes_eq m.users user) m.group (λ e. other ((is_member-Decides bytes_eq-Decides m.users user).0 e))

-- ---- all documents

module _ (user group : Text) where
  first : (b : Bool) (g : Text) (rest : List Text) → Contains (cons_option (cond b (Some g) None) rest) group → ((b ≡ true) × (g ≡ group)) ⊎ Contains rest group
  first true g rest (zero, l, e) = inl (refl, e)
  first true g rest (suc k, l, e) = inr (k, omega (arith, l), e)
  first false g rest w = inr w

  front : (b : Bool) (g : Text) (rest : List Text) → ((b ≡ true) × (g ≡ group)) ⊎ Contains rest group → Contains (cons_option (cond b (Some g) None) rest) group
  front true g rest (inl e) = (0, omega arith, e.1)
  front true g rest (inr w) = (suc w.0, omega (arith, w.1), w.2)
  front false g rest (inl e) = absurd (let same : false ≡ true = e.0 in cc)
  front false g rest (inr w) = w

  listed : (ms : List Membership) → Contains (groups_listing ms user) group → IsGivenBy ms user group
  listed [] w = absurd (omega (arith, w.1))
  listed (m ∷ ms) w = elim (first (is_member bytes_eq m.users user) m.group (groups_listing ms user) w) [
    | inl e ↦ (0, m, omega arith, refl, (e.1, (is_member-Decides bytes_eq-Decides m.users user).0 e.0))
    | inr v ↦ let a = listed ms v in (suc a.0, a.1, omega (arith, a.2), a.3, a.4)
  ]

  is_listed : (ms : List Membership) → IsGivenBy ms user group → Contains (groups_listing ms user) group
  is_listed [] a = absurd (omega (arith, a.2))
  is_listed (m ∷ ms) (zero, n, l, e, gives) = front (is_member bytes_eq m.users user) m.group (groups_listing ms user) (inl (
    (is_member-Decides bytes_eq-Decides m.users user).1 (rw e gives.1),
    rw e gives.0,
  ))
  is_listed (m ∷ ms) (suc k, n, l, e, gives) = front (is_member bytes_eq m.users user) m.group (groups_listing ms user) (inr (is_listed ms (k, n, omega (arith, l), e, gives)))

pub listed_is_given : (ms : List Membership) (user group : Text) → Contains (groups_listing ms user) group ↔ IsGivenBy ms user group
listed_is_given ms user group = (listed user group ms, is_listed user group ms)
