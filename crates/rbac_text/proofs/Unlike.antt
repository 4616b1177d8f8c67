-- No two texts are printed alike as fields, and no control byte stands in a field.
use Rattle.std.proofs.Common.{◌≡◌, ◌≢◌, ◌⊎◌, ℕ, ◌/◌, ◌%◌, ◌<◌, [], ◌∷◌, ◌++◌, refl, sym, ap, ap₂, ◌∙◌, arith, inl, inr, true, false, All, Contains, append-nil, subst}
use Rattle.std.specs.List.{flat_map}
use Rattle.std.proofs.lemmas.Bool.{cases_eq, ne_eqb, false≢true}
use Rattle.std.proofs.lemmas.Grind.{common_steps}
use Rattle.std.proofs.lemmas.List.Elements.{All-nil, All-cons, All-append, All-contains}
use Rattle.rbac_terms.specs.Text.{Text}
use Rattle.rbac_terms.proofs.Cases.{by_bool}
use Rattle.rbac_text.specs.Field.{hex_digit, is_control, code_text, byte_text, field_text}
use Rattle.rbac_text.specs.Row.{tab}

-- ---- how a byte is printed

-- a byte is printed as two backslashes, by its code, or as it is
data Shape (b : ℕ) : Type 0 where
  Doubled : b ≡ 92 → byte_text b ≡ 92 ∷ 92 ∷ [] → Shape b
  Coded : is_control b ≡ true → byte_text b ≡ code_text b → Shape b
  Kept : b ≢ 92 → is_control b ≡ false → byte_text b ≡ b ∷ [] → Shape b

shape : (b : ℕ) → Shape b
shape b = elim (cases_eq b 92) [
  | inl e ↦ Doubled e (rw e refl)
  | inr ne ↦ let f = ne_eqb b 92 ne in
      by_bool (is_control b) (λ t. Coded t (rw (f, t) refl)) (λ g. Kept ne g (rw (f, g) refl))
]

digit-one : (d e : ℕ) → hex_digit d ≡ hex_digit e → d ≡ e
digit-one d e same = grind (arith, common_steps)

halves-one : (a b : ℕ) → a / 16 ≡ b / 16 → a % 16 ≡ b % 16 → a ≡ b
halves-one a b high low = omega (arith, high, low)

-- a code has one byte, and what follows it is one text
code-one : (a b : ℕ) (r s : Text) → code_text a ++ r ≡ code_text b ++ s → (a ≡ b) × (r ≡ s)
code-one a b r s e =
    let high : hex_digit (a / 16) ≡ hex_digit (b / 16) = cc in
    let low : hex_digit (a % 16) ≡ hex_digit (b % 16) = cc in
    (halves-one a b (digit-one (a / 16) (b / 16) high) (digit-one (a % 16) (b % 16) low), cc)

pub first_is : (a b : ℕ) (r s : Text) → a ∷ r ≡ b ∷ s → a ≡ b
first_is a b r s e = cc

pub rest_is : (a b : ℕ) (r s : Text) → a ∷ r ≡ b ∷ s → r ≡ s
rest_is a b r s e = cc

-- a code begins otherwise than two backslashes
code_differs_from_doubled : (a : ℕ) (r s : Text) → code_text a ++ r ≢ 92 ∷ 92 ∷ s
code_differs_from_doubled a r s e =
    let digits = hex_digit (a / 16) ∷ hex_digit (a % 16) ∷ r in
    omega (arith, first_is 120 92 digits s (rest_is 92 92 (120 ∷ digits) (92 ∷ s) e))

-- a printed byte is one byte, and what follows it is one text
byte-one : (a b : ℕ) (r s : Text) → Shape a → Shape b → byte_text a ++ r ≡ byte_text b ++ s → (a ≡ b) × (r ≡ s)
byte-one a b r s (Doubled i t) (Doubled j u) e = let same : 92 ∷ 92 ∷ r ≡ 92 ∷ 92 ∷ s = rw (t, u) at e in (i ∙ sym j, cc)
byte-one a b r s (Doubled i t) (Coded j u) e = absurd (code_differs_from_doubled b s r (sym (rw (t, u) at e)))
byte-one a b r s (Doubled i t) (Kept n j u) e = absurd (n (sym (first_is 92 b (92 ∷ r) s (rw (t, u) at e))))
byte-one a b r s (Coded i t) (Doubled j u) e = absurd (code_differs_from_doubled a r s (rw (t, u) at e))
byte-one a b r s (Coded i t) (Coded j u) e = code-one a b r s (rw (t, u) at e)
byte-one a b r s (Coded i t) (Kept n j u) e = let bad : code_text a ++ r ≡ b ∷ s = rw (t, u) at e in absurd (n (sym (let same : 92 ≡ b = cc in same)))
byte-one a b r s (Kept n i t) (Doubled j u) e = absurd (n (first_is a 92 r (92 ∷ s) (rw (t, u) at e)))
byte-one a b r s (Kept n i t) (Coded j u) e = let bad : a ∷ r ≡ code_text b ++ s = rw (t, u) at e in absurd (n (let same : a ≡ 92 = cc in same))
byte-one a b r s (Kept n i t) (Kept m j u) e = let same : a ∷ r ≡ b ∷ s = rw (t, u) at e in (cc, cc)

-- ---- how a text is printed, byte by byte

nothing : (a : ℕ) (r : Text) → Shape a → byte_text a ++ r ≢ []
nothing a r (Doubled i t) e = let bad : 92 ∷ 92 ∷ r ≡ [] = rw t at e in cc
nothing a r (Coded i t) e = let bad : code_text a ++ r ≡ [] = rw t at e in cc
nothing a r (Kept n i t) e = let bad : a ∷ r ≡ [] = rw t at e in cc

bytes-one : (s t : Text) → flat_map byte_text s ≡ flat_map byte_text t → s ≡ t
bytes-one [] [] e = refl
bytes-one [] (b ∷ t) e = absurd (nothing b (flat_map byte_text t) (shape b) (sym e))
bytes-one (a ∷ s) [] e = absurd (nothing a (flat_map byte_text s) (shape a) e)
bytes-one (a ∷ s) (b ∷ t) e =
    let both = byte-one a b (flat_map byte_text s) (flat_map byte_text t) (shape a) (shape b) e in
    ap₂ (λ (x : ℕ) (y : Text). x ∷ y) both.0 (bytes-one s t both.1)

-- a text whose bytes are printed as a code begins with a control byte
code_is_control : (b c : ℕ) (r : Text) → Shape b → byte_text b ++ r ≡ code_text c → is_control c ≡ true
code_is_control b c r (Doubled i t) e = absurd (code_differs_from_doubled c [] r (sym (rw t at e)))
code_is_control b c r (Coded i t) e =
    let same : b ≡ c = (code-one b c r [] (rw t at e)).0 in
    subst (λ x. is_control x ≡ true) same i
code_is_control b c r (Kept n i t) e = let bad : b ∷ r ≡ code_text c = rw t at e in absurd (n (let same : b ≡ 92 = cc in same))

bytes_of_code : (s : Text) (c : ℕ) → flat_map byte_text s ≡ code_text c → is_control c ≡ true
bytes_of_code [] c e = let bad : [] ≡ code_text c = e in cc
bytes_of_code (b ∷ s) c e = code_is_control b c (flat_map byte_text s) (shape b) e

-- ---- fields

-- a field is `-`, the code of `-`, or its text byte by byte
data Printed (t : Text) : Type 0 where
  Empty : t ≡ [] → field_text t ≡ 45 ∷ [] → Printed t
  Dash : t ≡ 45 ∷ [] → field_text t ≡ code_text 45 → Printed t
  Bytes : t ≢ [] → t ≢ 45 ∷ [] → field_text t ≡ flat_map byte_text t → Printed t

printed : (t : Text) → Printed t
printed [] = Empty refl refl
printed (b ∷ []) = elim (cases_eq b 45) [
  | inl e ↦ Dash (ap (λ (x : ℕ). x ∷ []) e) (rw e refl)
  | inr ne ↦ Bytes (λ e. cc) (λ e. ne (first_is b 45 [] [] e)) (rw (ne_eqb b 45 ne) (sym (append-nil (byte_text b))))
]
printed (b ∷ c ∷ bs) = Bytes (λ e. cc) (λ e. cc) refl

-- only a dash and a control byte are printed by a code
field_of_code : (t : Text) (c : ℕ) → Printed t → field_text t ≡ code_text c → (t ≡ 45 ∷ []) ⊎ (is_control c ≡ true)
field_of_code t c (Empty i u) e = let bad : 45 ∷ [] ≡ code_text c = sym u ∙ e in absurd (cc)
field_of_code t c (Dash i u) e = inl i
field_of_code t c (Bytes n m u) e = inr (bytes_of_code t c (sym u ∙ e))

pub field_text-no_code : (t : Text) (c : ℕ) → c ≢ 45 → is_control c ≡ false → field_text t ≢ code_text c
field_text-no_code t c ne kept e = elim (field_of_code t c (printed t) e) [
  | inl i ↦ let same : code_text 45 ++ [] ≡ code_text c ++ [] = sym (ap field_text i) ∙ e in ne (sym (code-one 45 c [] [] same).0)
  | inr i ↦ false≢true (sym kept ∙ i)
]

-- bytes aren't printed as the empty field is, nor as a dash
bytes_of_dash : (t : Text) → t ≢ 45 ∷ [] → flat_map byte_text t ≢ 45 ∷ []
bytes_of_dash t ne e = ne (bytes-one t (45 ∷ []) e)

unlike : (s t : Text) → Printed s → Printed t → field_text s ≡ field_text t → s ≡ t
unlike s t (Empty i u) (Empty j v) e = i ∙ sym j
unlike s t (Empty i u) (Dash j v) e = let bad : 45 ∷ [] ≡ code_text 45 = sym u ∙ e ∙ v in absurd (cc)
unlike s t (Empty i u) (Bytes n m v) e = absurd (bytes_of_dash t m (sym v ∙ sym e ∙ u))
unlike s t (Dash i u) (Empty j v) e = let bad : code_text 45 ≡ 45 ∷ [] = sym u ∙ e ∙ v in absurd (cc)
unlike s t (Dash i u) (Dash j v) e = i ∙ sym j
unlike s t (Dash i u) (Bytes n m v) e = absurd (false≢true (bytes_of_code t 45 (sym v ∙ sym e ∙ u)))
unlike s t (Bytes n m u) (Empty j v) e = absurd (bytes_of_dash s m (sym u ∙ e ∙ v))
unlike s t (Bytes n m u) (Dash j v) e = absurd (false≢true (bytes_of_code s 45 (sym u ∙ e ∙ v)))
unlike s t (Bytes n m u) (Bytes k l v) e = bytes-one s t (sym u ∙ e ∙ v)

-- no two texts are printed alike
pub field_text-one : (s t : Text) → field_text s ≡ field_text t → s ≡ t
field_text-one s t e = unlike s t (printed s) (printed t) e

-- ---- bytes that stand in no field

abbrev IsPlain : ℕ → Type 0
IsPlain c = is_control c ≡ false

plain_digit : (d : ℕ) → d < 16 → IsPlain (hex_digit d)
plain_digit d low = grind (arith, common_steps)

code_is_plain : (b : ℕ) → b < 256 → All IsPlain (code_text b)
code_is_plain b low =
    let high = hex_digit (b / 16) in
    let rest = hex_digit (b % 16) in
    All-cons IsPlain 92 (120 ∷ high ∷ rest ∷ []) refl (All-cons IsPlain 120 (high ∷ rest ∷ []) refl
    (All-cons IsPlain high (rest ∷ []) (plain_digit (b / 16) (omega (arith, low)))
    (All-cons IsPlain rest [] (plain_digit (b % 16) (omega (arith, low))) (All-nil IsPlain))))

control_is_low : (b : ℕ) → is_control b ≡ true → b < 256
control_is_low b is = grind (arith, common_steps)

byte_is_plain : (b : ℕ) → Shape b → All IsPlain (byte_text b)
byte_is_plain b (Doubled i t) = rw t (All-cons IsPlain 92 (92 ∷ []) refl (All-cons IsPlain 92 [] refl (All-nil IsPlain)))
byte_is_plain b (Coded i t) = rw t (code_is_plain b (control_is_low b i))
byte_is_plain b (Kept n i t) = rw t (All-cons IsPlain b [] i (All-nil IsPlain))

bytes_are_plain : (t : Text) → All IsPlain (flat_map byte_text t)
bytes_are_plain [] = All-nil IsPlain
bytes_are_plain (b ∷ bs) = All-append IsPlain (byte_text b) (flat_map byte_text bs) (byte_is_plain b (shape b)) (bytes_are_plain bs)

plain_field : (t : Text) → Printed t → All IsPlain (field_text t)
plain_field t (Empty i u) = rw u (All-cons IsPlain 45 [] refl (All-nil IsPlain))
plain_field t (Dash i u) = rw u (code_is_plain 45 (omega arith))
plain_field t (Bytes n m u) = rw u (bytes_are_plain t)

pub field_text-plain : (t : Text) → All IsPlain (field_text t)
field_text-plain t = plain_field t (printed t)

-- so no tab does
none_is_tab : (t : Text) → All IsPlain t → ¬ Contains t tab
none_is_tab t plain has = false≢true (sym (All-contains IsPlain t tab plain has))

pub code_text-no_tab : (b : ℕ) → b < 256 → ¬ Contains (code_text b) tab
code_text-no_tab b low = none_is_tab (code_text b) (code_is_plain b low)

pub field_text-no_tab : (t : Text) → ¬ Contains (field_text t) tab
field_text-no_tab t = none_is_tab (field_text t) (field_text-plain t)
