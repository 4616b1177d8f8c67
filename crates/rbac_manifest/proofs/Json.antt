-- Bytes that are a JSON text, and bytes that are none.
use Rattle.std.proofs.Common.{◌≡◌, ℕ, Bool, true, false, List, Option, None, cond, refl}
use Rattle.std.specs.Str.{IsUtf8, is_utf8}
use Rattle.std.proofs.lemmas.Str.{is_utf8-from_IsUtf8, IsUtf8-from_is_utf8}
use Rattle.serde_json.specs.Data.{Data}
use Rattle.serde_json.specs.Read.{read}
use Rattle.rbac_manifest.specs.Load.{json_in}

pub json_in_text : (bytes : List ℕ) → IsUtf8 bytes → json_in bytes ≡ read bytes
unfolding json_in
json_in_text bytes text = rw (is_utf8-from_IsUtf8 bytes text) refl

refused_by : (b : Bool) (r : Option Data) → (b ≡ true → r ≡ None) → cond b r None ≡ None
refused_by true r h = h refl
refused_by false r h = refl

pub json_in_none : (bytes : List ℕ) → (IsUtf8 bytes → read bytes ≡ None) → json_in bytes ≡ None
unfolding json_in
json_in_none bytes h = refused_by (is_utf8 bytes) (read bytes) (λ e. h (IsUtf8-from_is_utf8 bytes e))
