-- what lists have at some places
use Rattle.std.proofs.Common.{◌≡◌, ◌↔◌, ◌≤◌, ◌++◌, ◌∷◌, [], ℕ, List, Contains, arith, get_or, inl, inr, length, subst}
use Rattle.std.proofs.Math.ListN.{get_or-eq_default}
use Rattle.std.proofs.lemmas.List.Elements.{Contains-append_cases, Contains-append_left, Contains-append_right, Contains-push}
use Rattle.rbac_ways.proofs.Edges.{in_none}
use Rattle.rbac_ways.proofs.Meets.{of_pushed}
use Rattle.rbac_ways.specs.Joining.{IsListedIn}

module _ {X : Type 0} (lists : List (List X)) where
  -- exactly what the lists at these places have
  abbrev pub AreListedIn : List ℕ → List X → Type 0
  AreListedIn places all = (x : X) → Contains all x ↔ IsListedIn lists places x

  pub listed_none : (all : List X) → all ≡ [] → AreListedIn [] all
  listed_none all none x = (λ c. absurd (in_none all x none c), λ w. absurd (let low = w.1.1 in omega (arith, low)))

  pub listed_more : (places : List ℕ) (place : ℕ) (all : List X) → AreListedIn places all → AreListedIn (places ++ place ∷ []) (all ++ get_or lists place [])
  listed_more places place all are x = (
    λ c. elim (Contains-append_cases all (get_or lists place []) x c) [
      | inl old ↦ (let w = (are x).0 old in (w.0, Contains-append_left places (place ∷ []) w.0 w.1, w.2))
      | inr own ↦ (place, Contains-push places place, own)
    ],
    λ w. elim (of_pushed places place w.0 w.1) [
      | inl old ↦ Contains-append_left all (get_or lists place []) x ((are x).1 (w.0, old, w.2))
      | inr same ↦ Contains-append_right all (get_or lists place []) x (subst (λ (k : ℕ). Contains (get_or lists k []) x) same w.2)
    ],
  )

  -- a place past the last list has nothing
  pub listed_past : (places : List ℕ) (place : ℕ) (all : List X) → length lists ≤ place → AreListedIn places all → AreListedIn (places ++ place ∷ []) all
  listed_past places place all past are x = (
    λ c. (let w = (are x).0 c in (w.0, Contains-append_left places (place ∷ []) w.0 w.1, w.2)),
    λ w. elim (of_pushed places place w.0 w.1) [
      | inl old ↦ (are x).1 (w.0, old, w.2)
      | inr same ↦ absurd (in_none (get_or lists place []) x (get_or-eq_default lists [] past) (subst (λ (k : ℕ). Contains (get_or lists k []) x) same w.2))
    ],
  )
