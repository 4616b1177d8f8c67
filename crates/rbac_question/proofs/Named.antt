-- whom a key's name names
use Rattle.std.proofs.Common.{◌≡◌, ◌≢◌, ◌∙◌, ◌++◌, [], All, Bor, codes, MatchOption, refl, true}
use Rattle.std.specs.Prelude.{Option, Some, None, is_some}
use Rattle.rbac_terms.specs.Text.{Text}
use Rattle.rbac_terms.specs.Principals.{AsUser, AsMember}
use Rattle.rbac_question.specs.Lines.{WhoParts, HasBadPrincipal, groups_given}

pub a_user : (l : WhoParts) (key : Text) (none : Type 0) (name : Option (Bor Text)) → l.key ≡ key
    → MatchOption name none (λ name. (key ≡ codes "u:" ++ name.now) × (name.now ≢ [])) → is_some name ≡ true → HasBadPrincipal l → ⊥
a_user l key none None same h is = cc
a_user l key none (Some name) same h is = λ bad. bad (AsUser name.now (groups_given l.groups l.whole_groups)) (same ∙ h.0, h.1, refl)

pub a_member : (l : WhoParts) (key : Text) (none : Type 0) (name : Option (Bor Text)) → l.key ≡ key
    → MatchOption name none (λ name. (key ≡ codes "g:" ++ name.now) × (name.now ≢ [])) → is_some name ≡ true
    → (l.groups ≡ []) × All (λ whole. whole ≡ []) l.whole_groups → HasBadPrincipal l → ⊥
a_member l key none None same h is lacks = cc
a_member l key none (Some name) same h is lacks = λ bad. bad (AsMember name.now) (same ∙ h.0, h.1, lacks.0, lacks.1)
