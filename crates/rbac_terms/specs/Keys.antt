use Rattle.std.specs.Prelude.{List, [], ◌∷◌}
use Rattle.std.specs.declared.cmp.Ordering.{Ordering}
use Rattle.std.specs.Cmp.Lexicographic.{slice_cmp}
use Rattle.rbac_terms.specs.Text.{Text, text_cmp}
use Rattle.rbac_terms.specs.Principals.{Who, who_key}
use Rattle.rbac_terms.specs.Targets.{What, Resource, Url, group_of, text_of, name_of}

-- the key of a request: six texts, which are the principal's key, the namespace, verb, API group,
-- resource text or URL, and object name (own)
pub record KeyTexts : Type 0 where
  pub principal : Text
  pub namespace : Text
  pub verb : Text
  pub group : Text
  pub resource : Text
  pub name : Text

-- the six texts in their order (own)
abbrev pub texts : KeyTexts → List Text
texts k = k.principal ∷ k.namespace ∷ k.verb ∷ k.group ∷ k.resource ∷ k.name ∷ []

-- the namespace of a request; it is empty for a URL, whatever is passed in (own)
abbrev pub namespace_at : Text → What → Text
namespace_at namespace (Resource group text name) = namespace
namespace_at namespace (Url path) = []

-- the key of someone's request, in a namespace, for a verb on a target (own)
abbrev pub key_of : Who → Text → Text → What → KeyTexts
key_of who namespace verb t = record {
  principal = who_key who;
  namespace = namespace_at namespace t;
  verb = verb;
  group = group_of t;
  resource = text_of t;
  name = name_of t;
}

-- the order of keys: text by text, each text byte by byte (own)
abbrev pub key_cmp : KeyTexts → KeyTexts → Ordering
key_cmp a b = slice_cmp text_cmp (texts a) (texts b)
