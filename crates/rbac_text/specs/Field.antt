-- How a field is printed (own).
use Rattle.std.specs.Prelude.{ℕ, ◌+◌, ◌/◌, ◌%◌, Bool, ◌==◌, ◌||◌, nat_lt, [], ◌∷◌, codes}
use Rattle.std.specs.Prelude.{if◌then◌else◌}
use Rattle.std.specs.List.{flat_map}
use Rattle.rbac_terms.specs.Text.{Text}

-- a digit of a byte's code: `0` to `9`, `a` to `f`
abbrev pub hex_digit : ℕ → ℕ
hex_digit d = if nat_lt d 10 then 48 + d else 87 + d

-- bytes below 32, and 127
abbrev pub is_control : ℕ → Bool
is_control b = nat_lt b 32 || (b == 127)

-- a byte by its code: `\x` and two digits
abbrev pub code_text : ℕ → Text
code_text b = 92 ∷ 120 ∷ hex_digit (b / 16) ∷ hex_digit (b % 16) ∷ []

-- a backslash is doubled, a control byte is printed by its code, and any other byte is printed as
-- it is
abbrev pub byte_text : ℕ → Text
byte_text b = if b == 92 then 92 ∷ 92 ∷ [] else if is_control b then code_text b else b ∷ []

-- the empty field is printed as `-`, the field `-` by its code, and any other field byte by byte
abbrev pub field_text : Text → Text
field_text [] = codes "-"
field_text (b ∷ []) = if b == 45 then code_text b else byte_text b
field_text (b ∷ c ∷ bs) = flat_map byte_text (b ∷ c ∷ bs)
