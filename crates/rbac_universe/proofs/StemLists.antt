-- what the targets of stems are, and how their flags go with them
use Rattle.std.proofs.Common.{◌≡◌, List, [], ◌∷◌, false, map, refl, ap}
use Rattle.rbac_terms.specs.Text.{Text}
use Rattle.rbac_terms.specs.Targets.{What, Resource, is_path}
use Rattle.rbac_universe.specs.declared.lists.ListedResource.{ListedResource}
use Rattle.rbac_universe.specs.Stems.{flags_of}

flags_along : (s : ListedResource) (f : Text → What) (names : List Text) → map (λ t. s.namespaced) (map f names) ≡ map (λ n. s.namespaced) names
flags_along s f [] = refl
flags_along s f (n ∷ names) = ap (λ bs. s.namespaced ∷ bs) (flags_along s f names)

pub flags_each : (names : List Text) (s : ListedResource) → is_path s.text ≡ false → flags_of names s ≡ map (λ n. s.namespaced) names
flags_each names s e = rw e (flags_along s (λ n. Resource s.group s.text n) names)
