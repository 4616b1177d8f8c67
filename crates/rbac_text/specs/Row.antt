-- How a binding, a row of the matrix and a holder are printed (own).
use Rattle.std.specs.Prelude.{ℕ, [], ◌∷◌, ◌++◌, codes, Option, Some, None}
use Rattle.std.specs.List.{flat_map}
use Rattle.rbac_terms.specs.Text.{Text}
use Rattle.rbac_terms.specs.Keys.{KeyTexts, texts}
use Rattle.rbac_terms.specs.declared.granting.Binding.{Binding}
use Rattle.rbac_text.specs.Field.{field_text}

-- the byte that ends a field
abbrev pub tab : ℕ
tab = 9

-- the byte that ends a line
abbrev pub newline : ℕ
newline = 10

-- a binding's kind and namespace, each with a slash after it; a ClusterRoleBinding has no namespace
abbrev pub binding_scope : Option Text → Text
binding_scope None = codes "ClusterRoleBinding/"
binding_scope (Some namespace) = codes "RoleBinding/" ++ namespace ++ codes "/"

-- the binding's name after its kind and namespace, as one field
abbrev pub binding_text : Binding → Text
binding_text b = field_text (binding_scope b.namespace ++ b.name)

-- a field with the tab after it
abbrev pub field_and_tab : Text → Text
field_and_tab t = field_text t ++ tab ∷ []

-- the line of a row: the six texts of its key and its binding, joined by tabs
abbrev pub row_text : KeyTexts → Binding → Text
row_text k b = flat_map field_and_tab (texts k) ++ binding_text b ++ newline ∷ []

-- the line of a holder: its key, and the binding that grants it the permission
abbrev pub holder_text : Text → Binding → Text
holder_text key b = field_and_tab key ++ binding_text b ++ newline ∷ []
