-- How parts of a field are printed one after the other.
use Rattle.std.proofs.Common.{◌≡◌, ◌<◌, [], ◌∷◌, ◌++◌, length, refl, arith, All, Option, Some, None, codes, ◌∙◌, length-append}
use Rattle.std.specs.List.{flat_map}
use Rattle.std.proofs.lemmas.Grind.{flat_map-append}
use Rattle.std.proofs.lemmas.List.Elements.{All-head, All-tail}
use Rattle.rbac_terms.specs.Text.{Text}
use Rattle.rbac_text.specs.Field.{byte_text, field_text}
use Rattle.rbac_text.specs.Row.{binding_scope}

-- a text in which each byte stands as it is does so too
pub plain_text : (t : Text) → All (λ b. byte_text b ≡ b ∷ []) t → flat_map byte_text t ≡ t
plain_text [] plain = refl
plain_text (b ∷ bs) plain = rw (All-head (λ b. byte_text b ≡ b ∷ []) b bs plain, plain_text bs (All-tail (λ b. byte_text b ≡ b ∷ []) b bs plain)) refl

-- a field of two bytes or more is printed byte by byte
pub long_field : (t : Text) → 1 < length t → field_text t ≡ flat_map byte_text t
long_field [] long = absurd (omega arith)
long_field (b ∷ []) long = absurd (omega arith)
long_field (b ∷ c ∷ bs) long = refl

-- the text before a RoleBinding's name is that of its parts
pub scope_parts : (namespace : Text) → flat_map byte_text (binding_scope (Some namespace)) ≡ codes "RoleBinding/" ++ flat_map byte_text namespace ++ codes "/"
scope_parts namespace = rw (flat_map-append byte_text namespace (codes "/")) refl

scope_is_long : (namespace : Option Text) → 1 < length (binding_scope namespace)
scope_is_long None = omega arith
scope_is_long (Some namespace) = omega arith

-- a binding's path is printed part by part
pub binding_parts : (namespace : Option Text) (name : Text) → field_text (binding_scope namespace ++ name) ≡ flat_map byte_text (binding_scope namespace) ++ flat_map byte_text name
binding_parts namespace name =
    let long = scope_is_long namespace in
    long_field (binding_scope namespace ++ name) (omega (arith, length-append (binding_scope namespace) name, long))
    ∙ flat_map-append byte_text (binding_scope namespace) name
