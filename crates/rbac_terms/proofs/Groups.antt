-- principals of one key, when one is given the groups of another
use Rattle.std.proofs.Common.{◌≡◌, List, ◌++◌, get_or, Contains, ◌↔◌, ◌⊎◌, inl, inr, ap, arith, Bool, true, false}
use Rattle.std.proofs.lemmas.List.Elements.{Contains-append_left, Contains-append_right, Contains-append_cases}
use Rattle.std.specs.Prelude.{codes}
use Rattle.rbac_terms.specs.Text.{Text}
use Rattle.rbac_terms.specs.Principals.{who_key, given_of, who_of}

-- a user's groups grow; a group has none
pub given_more : (a b : Bool) (ka kb : Text) (ga gb : List Text) → who_key (who_of b kb gb) ≡ who_key (who_of a ka ga) → (g : Text) → Contains (given_of (who_of a ka (ga ++ gb))) g ↔ (Contains (given_of (who_of a ka ga)) g ⊎ Contains (given_of (who_of b kb gb)) g)
given_more true true ka kb ga gb e g = (λ w. Contains-append_cases ga gb g w, λ s. elim s [ inl w ↦ Contains-append_left ga gb g w | inr w ↦ Contains-append_right ga gb g w ])
given_more true false ka kb ga gb e g = let h : 103 ≡ 117 = ap (λ (t : Text). get_or t 0 0) e in absurd (omega (arith, h))
given_more false true ka kb ga gb e g = let h : 117 ≡ 103 = ap (λ (t : Text). get_or t 0 0) e in absurd (omega (arith, h))
given_more false false ka kb ga gb e g = (λ w. absurd (omega (arith, w.1)), λ s. elim s [ inl w ↦ w | inr w ↦ w ])

-- no key of a user is one of a member of a group
pub apart : (m n : Text) → codes "u:" ++ m ≡ codes "g:" ++ n → ⊥
apart m n e = omega (arith, ap (λ (t : Text). get_or t 0 0) e)
