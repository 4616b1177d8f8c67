-- The tokens that stand for keys (own).
use Rattle.std.specs.Prelude.{◌≡◌, ◌≢◌, ◌⊎◌, [], ◌∷◌, ◌++◌, codes}
use Rattle.std.specs.List.{flat_map}
use Rattle.base64.specs.Engines.{url_safe_no_pad}
use Rattle.base64.specs.GeneralPurpose.{IsBytes, encode_of}
use Rattle.rbac_terms.specs.Text.{Text, BeginsWith}
use Rattle.rbac_terms.specs.Keys.{KeyTexts, texts, key_of}
use Rattle.rbac_terms.specs.Principals.{Who, who_key, who_name}
use Rattle.rbac_terms.specs.Targets.{What, IsProper}
use Rattle.rbac_text.specs.Field.{field_text}
use Rattle.rbac_text.specs.Row.{tab}

-- a text as a field, after a tab
abbrev pub after_tab : Text → Text
after_tab t = tab ∷ field_text t

-- the version and the six printed fields of a key, joined by tabs
abbrev pub printed_key : KeyTexts → Text
printed_key k = codes "1" ++ flat_map after_tab (texts k)

-- the token of a key: unpadded URL-safe base64 of the version followed by its printed fields
abbrev pub token_text : KeyTexts → Text
token_text k = encode_of url_safe_no_pad (printed_key k)

-- a principal has a name
abbrev pub HasName : Who → Type 0
HasName who = who_name who ≢ []

-- the text is the key of a principal: `u:` or `g:` and a name
abbrev pub IsWhoKey : Text → Type 0
IsWhoKey key = (who : Who) × HasName who × (key ≡ who_key who)

-- the key of some request: of a principal with a name, in a namespace, for a verb on a proper
-- target
pub record IsKey (k : KeyTexts) : Type 0 where
  pub who : Who
  pub namespace : Text
  pub verb : Text
  pub what : What
  pub named : HasName who
  pub proper : IsProper what
  pub is : k ≡ key_of who namespace verb what

-- the token is the unpadded URL-safe base64 of these bytes, each from 0 to 255
abbrev pub Encodes : Text → Text → Type 0
Encodes token bytes = IsBytes bytes × (token ≡ encode_of url_safe_no_pad bytes)

-- this key has the token
abbrev pub IsTokenOf : Text → KeyTexts → Type 0
IsTokenOf token k = IsKey k × Encodes token (printed_key k)

-- the bytes before the first tab, or all bytes if there is no tab, are that version
abbrev pub HasVersion : Text → Text → Type 0
HasVersion version bytes = (bytes ≡ version) ⊎ BeginsWith bytes (version ++ tab ∷ [])

-- the bytes have the version `1`, as a key's do
abbrev pub HasKeyVersion : Text → Type 0
HasKeyVersion bytes = HasVersion (codes "1") bytes
