-- The tokens that stand for marks (own).
use Rattle.std.specs.Prelude.{◌≡◌, ◌⊎◌, List, [], ◌++◌, Option, Some, None, codes}
use Rattle.std.specs.List.{flat_map}
use Rattle.base64.specs.Engines.{url_safe_no_pad}
use Rattle.base64.specs.GeneralPurpose.{encode_of}
use Rattle.rbac_terms.specs.Text.{Text}
use Rattle.rbac_terms.specs.Keys.{KeyTexts, texts}
use Rattle.rbac_model.specs.Policies.{binding_name_at}
use Rattle.rbac_token.specs.Token.{Encodes, HasVersion, IsKey, after_tab}
use Rattle.rbac_token.specs.declared.mark.BindingName.{BindingName}
use Rattle.rbac_token.specs.declared.mark.Mark.{Mark}

-- the version of a mark's token: `1`, as for its key, or `2` with a binding
abbrev pub version_of : Option BindingName → Text
version_of None = codes "1"
version_of (Some b) = codes "2"

-- the texts of a binding's name: its kind word, namespace and name; a ClusterRoleBinding has the
-- empty namespace
abbrev pub name_texts : Option BindingName → List Text
name_texts None = []
name_texts (Some b) = binding_name_at b.namespace b.name

-- the version, the six printed fields of a key and, with a binding, the three of its name, joined
-- by tabs
abbrev pub printed_mark : KeyTexts → Option BindingName → Text
printed_mark k b = version_of b ++ flat_map after_tab (texts k ++ name_texts b)

-- the token of a mark: unpadded URL-safe base64 of the version followed by its printed fields
abbrev pub mark_text : Mark → Text
mark_text m = encode_of url_safe_no_pad (printed_mark m.key m.binding)

-- the bytes are this mark, printed; its key is one of a request, its binding any or none
abbrev pub IsMarkPrintedAs : Text → Mark → Type 0
IsMarkPrintedAs bytes m = IsKey m.key × (bytes ≡ printed_mark m.key m.binding)

-- this mark has the token
abbrev pub IsTokenOfMark : Text → Mark → Type 0
IsTokenOfMark token m = IsKey m.key × Encodes token (printed_mark m.key m.binding)

-- the bytes before the first tab, or all bytes if there is no tab, are the version `1` or `2`
abbrev pub HasMarkVersion : Text → Type 0
HasMarkVersion bytes = HasVersion (codes "1") bytes ⊎ HasVersion (codes "2") bytes
