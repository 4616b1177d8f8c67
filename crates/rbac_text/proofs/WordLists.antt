-- how the words of a list are printed
use Rattle.std.proofs.Common.{◌≡◌, ◌≢◌, ℕ, ◌/◌, ◌%◌, List, [], ◌∷◌, ◌++◌, refl, sym, ap, ap₂, ◌∙◌, arith, zero, suc, Contains, map, append-nil}
use Rattle.std.specs.Prelude.{◌==◌}
use Rattle.std.specs.List.{flat_map, join_with_byte}
use Rattle.std.proofs.lemmas.Grind.{common_steps, flat_map-append}
use Rattle.rbac_terms.specs.Text.{Text}
use Rattle.rbac_terms.proofs.Cases.{by_bool}
use Rattle.rbac_text.specs.Field.{hex_digit, is_control, code_text, byte_text, field_text}
use Rattle.rbac_text.specs.Rule.{comma, without_comma, item_text}

other_byte : (b : ℕ) → b ≢ 44 → without_comma b ≡ b ∷ []
other_byte b ne = grind (arith, common_steps)

digit_is_other : (d : ℕ) → hex_digit d ≢ 44
digit_is_other d = grind (arith, common_steps)

code_kept : (b : ℕ) → flat_map without_comma (code_text b) ≡ code_text b
code_kept b = rw (other_byte (hex_digit (b / 16)) (digit_is_other (b / 16)), other_byte (hex_digit (b % 16)) (digit_is_other (b % 16))) refl

byte_kept : (b : ℕ) → b ≢ 44 → flat_map without_comma (byte_text b) ≡ byte_text b
byte_kept b ne =
    by_bool (b == 92)
    (λ t. rw t refl)
    (λ f. by_bool (is_control b) (λ t. rw (f, t) (code_kept b)) (λ g. rw (f, g, other_byte b ne) refl))

not_later : (b : ℕ) (bs : Text) → ¬ Contains (b ∷ bs) comma → ¬ Contains bs comma
not_later b bs none w = none (suc w.0, omega (arith, w.1), w.2)

not_first : (b : ℕ) (bs : Text) → ¬ Contains (b ∷ bs) comma → b ≢ 44
not_first b bs none e = none (0, omega arith, e)

bytes_kept : (t : Text) → ¬ Contains t comma → flat_map without_comma (flat_map byte_text t) ≡ flat_map byte_text t
bytes_kept [] none = refl
bytes_kept (b ∷ bs) none =
    flat_map-append without_comma (byte_text b) (flat_map byte_text bs)
    ∙ ap₂ (λ (x y : Text). x ++ y) (byte_kept b (not_first b bs none)) (bytes_kept bs (not_later b bs none))

-- a word without a comma is printed as a field
pub plain_item : (t : Text) → ¬ Contains t comma → item_text t ≡ field_text t
plain_item [] none = refl
plain_item (b ∷ []) none = by_bool (b == 45) (λ t. rw t (code_kept b)) (λ f. rw f (byte_kept b (not_first b [] none)))
plain_item (b ∷ c ∷ bs) none = bytes_kept (b ∷ c ∷ bs) none

-- a word with a comma is printed byte by byte
pub item_with_comma : (t : Text) → Contains t comma → item_text t ≡ flat_map without_comma (flat_map byte_text t)
item_with_comma [] has = absurd (omega (arith, has.1))
item_with_comma (b ∷ []) (zero, l, e) = rw e refl
item_with_comma (b ∷ []) (suc k, l, e) = absurd (omega (arith, l))
item_with_comma (b ∷ c ∷ bs) has = refl

-- words joined by commas are the first, and then each other after a comma
pub joined : (w : Text) (ws : List Text) → join_with_byte comma (map item_text (w ∷ ws)) ≡ item_text w ++ flat_map (λ v. comma ∷ item_text v) ws
joined w [] = sym (append-nil (item_text w))
joined w (v ∷ ws) = ap (λ (t : Text). item_text w ++ (comma ∷ t)) (joined v ws)
