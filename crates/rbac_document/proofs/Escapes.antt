-- what stands in a string for a byte, case by case
use Rattle.std.proofs.Common.{◌≡◌, ℕ, ◌/◌, ◌%◌, ◌<◌, ◌≤◌, [], ◌∷◌, refl}
use Rattle.std.proofs.lemmas.Bool.{lt-ltb, le-ltb}
use Rattle.std.specs.Char.{digit_char}
use Rattle.json.specs.Print.{escape_letter, escape_byte}

pub short_escape : (b : ℕ) → 0 < escape_letter b → escape_byte b ≡ 92 ∷ escape_letter b ∷ []
unfolding escape_byte
short_escape b e = rw (lt-ltb _ _ e) refl

pub code_escape : (b : ℕ) → escape_letter b ≤ 0 → b < 32 → escape_byte b ≡ 92 ∷ 117 ∷ 48 ∷ 48 ∷ digit_char (b / 16) ∷ digit_char (b % 16) ∷ []
unfolding escape_byte
code_escape b e l = rw (le-ltb _ _ e, lt-ltb _ _ l) refl

pub no_escape : (b : ℕ) → escape_letter b ≤ 0 → 32 ≤ b → escape_byte b ≡ b ∷ []
unfolding escape_byte
no_escape b e l = rw (le-ltb _ _ e, le-ltb _ _ l) refl
