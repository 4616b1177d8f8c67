-- What is printed in a field reads back.
use Rattle.std.proofs.Common.{◌≡◌, ◌≢◌, ℕ, ◌<◌, ◌⊎◌, [], ◌∷◌, ◌++◌, refl, ◌∙◌, sym, ap, arith, inl, inr, Bool, true, false, length}
use Rattle.std.specs.Prelude.{if◌then◌else◌}
use Rattle.std.specs.List.{flat_map}
use Rattle.std.proofs.lemmas.Bool.{cases_eq, ne_eqb}
use Rattle.std.proofs.lemmas.List.{append-nil, append_assoc}
use Rattle.rbac_terms.specs.Text.{Text}
use Rattle.rbac_text.specs.Field.{byte_text, code_text, field_text, is_control}

-- a text is spelled byte by byte, each as it stands in a field, or by its code
abbrev pub Spells : Text → Text → Type 0
Spells [] field = field ≡ []
Spells (b ∷ bs) field =
    (rest : Text) × ((field ≡ byte_text b ++ rest) ⊎ ((b < 256) × (field ≡ code_text b ++ rest))) × Spells bs rest

spells_bytes : (t : Text) → Spells t (flat_map byte_text t)
spells_bytes [] = refl
spells_bytes (b ∷ bs) = (flat_map byte_text bs, inl refl, spells_bytes bs)

spells_one : (b : ℕ) → Spells (b ∷ []) (field_text (b ∷ []))
spells_one b = elim (cases_eq b 45) [
  | inl e ↦ ([], inr (omega arith, rw e refl), refl)
  | inr ne ↦ ([], inl (rw (ne_eqb b 45 ne) (sym (append-nil (byte_text b)))), refl)
]

-- a field other than `-` spells its text
pub spells_field : (t : Text) → field_text t ≢ 45 ∷ [] → Spells t (field_text t)
spells_field [] ne = absurd (ne refl)
spells_field (b ∷ []) ne = spells_one b
spells_field (b ∷ c ∷ bs) ne = spells_bytes (b ∷ c ∷ bs)

-- ---- byte by byte

other_is_printed : (c : Bool) (b : ℕ) (rest : Text) → (if c then code_text b else b ∷ []) ++ rest ≢ []
other_is_printed true b rest h = cc
other_is_printed false b rest h = cc

byte_is_printed : (b : ℕ) (rest : Text) → byte_text b ++ rest ≢ []
byte_is_printed b rest e = elim (cases_eq b 92) [
  | inl same ↦ let bad : 92 ∷ 92 ∷ rest ≡ [] = rw same at e in cc
  | inr other ↦ other_is_printed (is_control b) b rest (rw (ne_eqb b 92 other) at e)
]

-- a byte more is read
pub reads_on : (text done rest field after : Text) (byte : ℕ) → text ≡ done ++ rest → Spells rest field → length after < length field
    → ((b : ℕ) (r : Text) → field ≡ byte_text b ++ r → (byte ≡ b) × (after ≡ r))
    → ((b : ℕ) (r : Text) → b < 256 → field ≡ code_text b ++ r → (byte ≡ b) × (after ≡ r))
    → (x : Text) × (text ≡ (done ++ byte ∷ []) ++ x) × Spells x after
reads_on text done [] field after byte e s shorter stands coded = absurd (let none : length field ≡ 0 = ap length s in omega (arith, none, shorter))
reads_on text done (b ∷ bs) field after byte e s shorter stands coded =
    let read : (byte ≡ b) × (after ≡ s.0) = elim s.1 [
      | inl h ↦ stands b s.0 h
      | inr h ↦ coded b s.0 h.0 h.1
    ] in
    (bs, rw (e, read.0, append_assoc) refl, rw read.1 s.2)

-- all is read
pub reads_all : (text done rest field : Text) → text ≡ done ++ rest → Spells rest field → field ≡ [] → done ≡ text
reads_all text done [] field e s none = sym (append-nil done) ∙ sym e
reads_all text done (b ∷ bs) field e s none = absurd (elim s.1 [
  | inl h ↦ byte_is_printed b s.0 (sym h ∙ none)
  | inr h ↦ let bad : code_text b ++ s.0 ≡ [] = sym h.1 ∙ none in cc
])
