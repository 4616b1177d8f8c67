-- the bits of a set of places
use Rattle.std.proofs.Common.{◌≡◌, ◌≢◌, ℕ, ◌+◌, ◌-◌, ◌*◌, ◌/◌, ◌%◌, ◌^◌, ◌<◌, ◌≤◌, ◌⊎◌, ◌↔◌, List, length, set, get_or, refl, ◌∙◌, sym, ap, arith, subst, inl, inr, w64, bit_or}
use Rattle.std.specs.Int.{bit_at, trailing_zeros}
use Rattle.std.proofs.lemmas.Bool.{cases_eq, cases_lt}
use Rattle.std.proofs.lemmas.List.{get_or-set_same, get_or-set_other}
use Rattle.std.proofs.lemmas.Nat.{shr-shr, shr_le, shr_below}
use Rattle.std.proofs.lemmas.Nat.Bits.{bit_at_set_same, bit_at_set_other, bit_at_above, bit_at_or, bit_at-lt, bit_at-zero, bit_at-trailing_zeros}
use Rattle.rbac_matrix.specs.GrantVerbs.{HasBit}
use Rattle.rbac_model.specs.Graphs.{HasPlace}
use Rattle.rbac_matrix.specs.VerbPlaces.{LacksPlace}

module _ (words : List ℕ) (at word : ℕ) (room : at < length words) (place : ℕ) where
  -- if a word is replaced, the bits of the other words stay the same
  of_word : place / 64 ≡ at → bit_at (get_or (set words at word) (place / 64) 0) (place % 64) ≡ bit_at word (place % 64)
  of_word e = ap (λ (w : ℕ). bit_at w (place % 64)) (subst (λ (i : ℕ). get_or (set words at word) i 0 ≡ word) (sym e) (get_or-set_same words at word 0 room))

  of_others : place / 64 ≢ at → bit_at (get_or (set words at word) (place / 64) 0) (place % 64) ≡ bit_at (get_or words (place / 64) 0) (place % 64)
  of_others ne = ap (λ (w : ℕ). bit_at w (place % 64)) (get_or-set_other words at (place / 64) word 0 ne)

-- a place is added
pub added : (words : List ℕ) (place : ℕ) → place / 64 < length words → (other : ℕ) → HasPlace (set words (place / 64) (bit_or (get_or words (place / 64) 0) (1 * 2 ^ (place % 64) % 2 ^ 64))) other ↔ ((other ≡ place) ⊎ HasPlace words other)
added words place room other =
    let word = bit_or (get_or words (place / 64) 0) (1 * 2 ^ (place % 64) % 2 ^ 64) in
    let few : place % 64 < 64 = omega arith in
    elim (cases_eq other place) [
      | inl e ↦
          let same = of_word words (place / 64) word room place refl in
          (λ _. inl e, λ _. rw e (same ∙ bit_at_set_same w64 (get_or words (place / 64) 0) (place % 64) few))
      | inr ne ↦
          let same : bit_at (get_or (set words (place / 64) word) (other / 64) 0) (other % 64) ≡ bit_at (get_or words (other / 64) 0) (other % 64) = elim (cases_eq (other / 64) (place / 64)) [
            | inl e ↦
                let bit : other % 64 ≢ place % 64 = λ b. ne (omega (arith, e, b)) in
                of_word words (place / 64) word room other e ∙ bit_at_set_other w64 (get_or words (place / 64) 0) (place % 64) few (other % 64) bit ∙ ap (λ (i : ℕ). bit_at (get_or words i 0) (other % 64)) (sym e)
            | inr far ↦ of_others words (place / 64) word room other far
          ] in (
            λ has. inr (sym same ∙ has),
            λ w. elim w [ inl e ↦ absurd (ne e) | inr has ↦ same ∙ has ],
          )
    ]

-- the places among the first 64 whose bit is 1 are added
pub bits_added : (words : List ℕ) (bits : ℕ) → 0 < length words → (place : ℕ) → HasPlace (set words 0 (bit_or (get_or words 0 0) bits)) place ↔ (((place < 64) × HasBit bits place) ⊎ HasPlace words place)
bits_added words bits room place = elim (cases_eq (place / 64) 0) [
  | inl first ↦
      let here : place % 64 ≡ place = omega (arith, first) in
      let new = of_word words 0 (bit_or (get_or words 0 0) bits) room place first ∙ bit_at_or (get_or words 0 0) bits (place % 64) in
      let old : bit_at (get_or words 0 0) (place % 64) ≡ bit_at (get_or words (place / 64) 0) (place % 64) = ap (λ (i : ℕ). bit_at (get_or words i 0) (place % 64)) (sym first) in
      let given : bit_at bits (place % 64) ≡ bit_at bits place = ap (bit_at bits) here in
      let few = bit_at-lt (get_or words 0 0) (place % 64) in
      let few_bits = bit_at-lt bits (place % 64) in (
        λ has. elim (cases_eq (bit_at bits place) 1) [
          | inl is ↦ inl (omega (arith, first), is)
          | inr none ↦ inr (omega (arith, has, new, old, given, few, few_bits, none))
        ],
        λ w. elim w [
          | inl b ↦ omega (arith, b.1, new, old, given, few, few_bits)
          | inr has ↦ omega (arith, has, new, old, given, few, few_bits)
        ],
      )
  | inr later ↦
      let same = of_others words 0 (bit_or (get_or words 0 0) bits) room place later in (
        λ has. inr (sym same ∙ has),
        λ w. elim w [ inl b ↦ absurd (omega (arith, later, b.0)) | inr has ↦ same ∙ has ],
      )
]

-- the bits of a word from one bit on
rest_bit : (word from k : ℕ) → bit_at (word / 2 ^ from) k ≡ bit_at word (from + k)
rest_bit word from k = ap (λ (n : ℕ). n % 2) (shr-shr word from k)

module _ (words : List ℕ) (from place : ℕ) (passed : (q : ℕ) → from ≤ q → q < place → LacksPlace words q) (room : place / 64 < length words) (rest : ℕ) (is : rest ≡ get_or words (place / 64) 0 / 2 ^ (place % 64)) where
  -- the bit of a place in the same word
  in_word : (q : ℕ) → place ≤ q → q < (place / 64 + 1) * 64 → bit_at rest (q - place) ≡ bit_at (get_or words (q / 64) 0) (q % 64)
  in_word q low high =
      let same : q / 64 ≡ place / 64 = omega arith in
      let bit : place % 64 + (q - place) ≡ q % 64 = omega (arith, same) in
      ap (λ (w : ℕ). bit_at w (q - place)) is ∙ rest_bit (get_or words (place / 64) 0) (place % 64) (q - place)
      ∙ ap (λ (k : ℕ). bit_at (get_or words (place / 64) 0) k) bit ∙ ap (λ (i : ℕ). bit_at (get_or words i 0) (q % 64)) (sym same)

  pub none_in_word : rest ≡ 0 → (q : ℕ) → from ≤ q → q < (place / 64 + 1) * 64 → LacksPlace words q
  none_in_word zero q low high = elim (cases_lt q place) [
    | inl lt ↦ passed q low lt
    | inr ge ↦ (
      omega arith,
      λ has. let e : bit_at rest (q - place) ≡ 0 = ap (λ (w : ℕ). bit_at w (q - place)) zero ∙ bit_at-zero (q - place) in omega (arith, e, in_word q ge high, has),
    )
  ]

  module _ (some : 0 < rest) (fits : get_or words (place / 64) 0 < 2 ^ 64) where
    first : (trailing_zeros w64 rest < 64) × (bit_at rest (trailing_zeros w64 rest) ≡ 1) × ((i : ℕ) → i < trailing_zeros w64 rest → bit_at rest i ≡ 0)
    first = bit_at-trailing_zeros w64 rest some (let few = shr_le (get_or words (place / 64) 0) (place % 64) in omega (arith, few, is))

    -- if the rest of the word has a bit that is 1, the lowest one is within this word
    here : place % 64 + trailing_zeros w64 rest < 64
    here = elim (cases_lt (place % 64 + trailing_zeros w64 rest) 64) [
      | inl lt ↦ lt
      | inr past ↦
          let whole : 64 - place % 64 + place % 64 ≡ 64 = omega arith in
          let below : get_or words (place / 64) 0 / 2 ^ (place % 64) < 2 ^ (64 - place % 64) = shr_below (get_or words (place / 64) 0) (64 - place % 64) (place % 64) (rw whole fits) in
          absurd (let none = bit_at_above rest (64 - place % 64) (trailing_zeros w64 rest) (rw is below) (omega (arith, past)) in omega (arith, none, first.1))
    ]

    pub none_before : (q : ℕ) → from ≤ q → q < place + trailing_zeros w64 rest → LacksPlace words q
    none_before q low high = elim (cases_lt q place) [
      | inl lt ↦ passed q low lt
      | inr ge ↦ (
        omega (arith, here),
        λ has. omega (arith, first.2 (q - place) (omega arith), in_word q ge (omega (arith, here)), has),
      )
    ]

    pub has_here : LacksPlace words (place + trailing_zeros w64 rest) → ⊥
    has_here lacks =
        let q = place + trailing_zeros w64 rest in
        let e : q - place ≡ trailing_zeros w64 rest = omega arith in
        lacks.1 (sym (in_word q (omega arith) (omega (arith, here))) ∙ ap (bit_at rest) e ∙ first.1)
