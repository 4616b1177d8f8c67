-- Principals without memberships.
use Rattle.std.proofs.Common.{◌≡◌, List, [], ◌∷◌, ap, ap₂, map, refl, sym}
use Rattle.std.proofs.lemmas.List.{append-nil}
use Rattle.rbac_terms.specs.Principals.{Who, AsUser, AsMember}
use Rattle.rbac_groups.specs.Memberships.{with_memberships}

-- without memberships a principal stays as it is
pub unchanged : (who : Who) → with_memberships [] who ≡ who
unchanged (AsUser name given) = ap (AsUser name) (append-nil given)
unchanged (AsMember group) = refl

pub all_unchanged : (principals : List Who) → map (with_memberships []) principals ≡ principals
all_unchanged [] = refl
all_unchanged (who ∷ rest) = ap₂ (λ (w : Who) (ws : List Who). w ∷ ws) (unchanged who) (all_unchanged rest)
