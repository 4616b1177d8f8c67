-- What the rules of all roles name, role by role.
use Rattle.std.proofs.Common.{◌≡◌, List, [], ◌∷◌, ◌++◌, refl, filter, is_none}
use Rattle.std.specs.List.{flat_map}
use Rattle.std.proofs.lemmas.Grind.{flat_map-append}
use Rattle.rbac_terms.specs.declared.matching.Rule.{Rule}
use Rattle.rbac_model.specs.Policies.{Held}
use Rattle.rbac_lists.specs.Derived.{source_rules}

flat_map-flat_map : {A B C : Type 0} (f : A → List B) (g : B → List C) (xs : List A) → flat_map g (flat_map f xs) ≡ flat_map (λ x. flat_map g (f x)) xs
flat_map-flat_map f g [] = refl
flat_map-flat_map f g (x ∷ xs) = rw (flat_map-append g (f x) (flat_map f xs), flat_map-flat_map f g xs) refl

-- the items of all rules are those of the roles and then those of the plain cluster roles
pub named_of_rules : {X : Type 0} (named : Rule → List X) (h : Held) → flat_map named (source_rules h) ≡ flat_map (λ r. flat_map named r.rules) h.roles ++ flat_map (λ r. flat_map named r.rules) (filter (λ r. is_none r.aggregation) h.cluster_roles)
named_of_rules named h =
    rw (
      flat_map-append named (flat_map (λ r. r.rules) h.roles) (flat_map (λ r. r.rules) (filter (λ r. is_none r.aggregation) h.cluster_roles)),
      flat_map-flat_map (λ r. r.rules) named h.roles,
      flat_map-flat_map (λ r. r.rules) named (filter (λ r. is_none r.aggregation) h.cluster_roles),
    ) refl
