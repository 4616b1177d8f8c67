-- L7: what lint finds about replaced documents.
use Rattle.std.specs.Prelude.{◌≡◌, List, [], ◌∷◌, Option, Some, None, decimal}
use Rattle.rbac_terms.specs.Text.{Text}
use Rattle.rbac_manifest.specs.declared.replacement.Replaced.{Replaced}
use Rattle.rbac_lint.specs.Lines.{Line, ObjectName, OfEach}

-- the namespace of an object; a cluster-scoped one has none
abbrev pub namespace_if_any : Text → Option Text
namespace_if_any [] = None
namespace_if_any (c ∷ namespace) = Some (c ∷ namespace)

-- the name of a replaced object
abbrev pub replaced_object : Replaced → ObjectName
replaced_object r = record {
  kind = r.kind;
  namespace = namespace_if_any r.namespace;
  name = r.name;
}

-- L7: the object was given by several documents; the line gives how many earlier ones the last
-- replaced (own)
unfoldable pub IsReplacedOf : Replaced → Line → Type 0
IsReplacedOf r x =
    x ≡ record { code = 7; object = replaced_object r; place = None; other = decimal r.earlier }

-- a line of L7
abbrev pub IsReplaced : List Replaced → Line → Type 0
IsReplaced rs = OfEach (λ k r. IsReplacedOf r) rs
