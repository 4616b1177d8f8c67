-- places that are put by words, kept and taken away
use Rattle.std.proofs.Common.{◌≡◌, ◌≢◌, ℕ, ◌+◌, ◌-◌, ◌/◌, ◌%◌, ◌^◌, ◌<◌, ◌≤◌, ◌⊎◌, ◌↔◌, List, [], length, get_or, set, take, inl, inr, sym, ap, ◌∙◌, arith, subst, min, w64, bit_or, bit_and, get_or-set_same, get_or-set_other, get_or-take}
use Rattle.std.specs.Int.{bit_at, bit_not}
use Rattle.std.proofs.lemmas.Bool.{cases_eq, cases_lt}
use Rattle.std.proofs.lemmas.Nat.Bits.{bit_at-zero, bit_at_and, bit_at_not, bit_at-lt}
use Rattle.std.proofs.lemmas.List.{length-take}
use Rattle.std.proofs.Math.ListN.{get_or-eq_default}
use Rattle.rbac_model.specs.Graphs.{HasPlace}
use Rattle.rbac_model.proofs.PlaceSets.{has_none, either_bit}

-- all places below one, and this one
pub one_below : (old new : List ℕ) (i : ℕ) → ((k : ℕ) → HasPlace new k ↔ (HasPlace old k ⊎ (k ≡ i))) → ((k : ℕ) → HasPlace old k ↔ (k < i)) → (k : ℕ) → HasPlace new k ↔ (k < i + 1)
one_below old new i more below k = (
  λ m. elim ((more k).0 m) [ inl v ↦ (let l = (below k).0 v in omega (arith, l)) | inr e ↦ omega (arith, e) ],
  λ l. (more k).1 (elim (cases_eq k i) [ inl e ↦ inr e | inr ne ↦ inl ((below k).1 (omega (arith, l, ne))) ]),
)

pub none_below : (k : ℕ) → HasPlace [] k ↔ (k < 0)
none_below k = (λ m. absurd (has_none k m), λ l. absurd (omega (arith, l)))

-- the bits of a word among those of another
pub bits_put : (old words : List ℕ) (word place bits : ℕ) → ((i : ℕ) → get_or words i 0 ≡ get_or old i 0) → place / 64 < length words → word ≡ get_or words (place / 64) 0 → (k : ℕ) → HasPlace (set words (place / 64) (bit_or word bits)) k ↔ (HasPlace old k ⊎ ((k / 64 ≡ place / 64) × (bit_at bits (k % 64) ≡ 1)))
bits_put old words word place bits same l read k = elim (cases_eq (k / 64) (place / 64)) [
  | inl e ↦
      let here : get_or (set words (place / 64) (bit_or word bits)) (k / 64) 0 ≡ bit_or (get_or old (k / 64) 0) bits =
      ap (λ (i : ℕ). get_or (set words (place / 64) (bit_or word bits)) i 0) e ∙ get_or-set_same words (place / 64) (bit_or word bits) 0 l
      ∙ ap (λ (w : ℕ). bit_or w bits) (read ∙ same (place / 64) ∙ ap (λ (i : ℕ). get_or old i 0) (sym e)) in
      let either = either_bit (get_or old (k / 64) 0) bits (k % 64) in
      rw here (
        λ m. elim (either.0 m) [ inl v ↦ inl v | inr v ↦ inr (e, v) ],
        λ w. either.1 (elim w [ inl v ↦ inl v | inr v ↦ inr v.1 ]),
      )
  | inr ne ↦
      let there : get_or (set words (place / 64) (bit_or word bits)) (k / 64) 0 ≡ get_or old (k / 64) 0 =
      get_or-set_other words (place / 64) (k / 64) (bit_or word bits) 0 ne ∙ same (k / 64) in
      rw there (λ m. inl m, λ w. elim w [ inl v ↦ v | inr v ↦ absurd (ne v.0) ])
]

-- a place past the words isn't in the set
pub past_words : (xs : List ℕ) (k : ℕ) → length xs ≤ k / 64 → HasPlace xs k → ⊥
past_words xs k le m =
    let zero_bit = bit_at-zero (k % 64) in
    let one : bit_at 0 (k % 64) ≡ 1 = subst (λ (w : ℕ). bit_at w (k % 64) ≡ 1) (get_or-eq_default xs 0 le) m in
    absurd (omega (arith, zero_bit, one))

-- the words before one have their places as wanted, and it gets them too
module _ (Q : ℕ → Type 0) where
  pub word_done : (words : List ℕ) (at value : ℕ) → at < length words → ((k : ℕ) → k / 64 ≡ at → (bit_at value (k % 64) ≡ 1) ↔ Q k) → ((k : ℕ) → k / 64 < at → HasPlace words k ↔ Q k) → (k : ℕ) → k / 64 < at + 1 → HasPlace (set words at value) k ↔ Q k
  word_done words at value l here done k le = elim (cases_eq (k / 64) at) [
    | inl e ↦
        let read : get_or (set words at value) (k / 64) 0 ≡ value = ap (λ (i : ℕ). get_or (set words at value) i 0) e ∙ get_or-set_same words at value 0 l in
        rw read (here k e)
    | inr ne ↦
        let read : get_or (set words at value) (k / 64) 0 ≡ get_or words (k / 64) 0 = get_or-set_other words at (k / 64) value 0 ne in
        rw read (done k (omega (arith, le, ne)))
  ]

pub words_after : (words initial : List ℕ) (at value : ℕ) → ((j : ℕ) → at ≤ j → get_or words j 0 ≡ get_or initial j 0) → (j : ℕ) → at + 1 ≤ j → get_or (set words at value) j 0 ≡ get_or initial j 0
words_after words initial at value kept j le =
    let ne : j ≢ at = λ e. omega (arith, e, le) in
    get_or-set_other words at j value 0 ne ∙ kept j (omega (arith, le))

both_one : (a b : ℕ) → a < 2 → b < 2 → (min a b ≡ 1) ↔ ((a ≡ 1) × (b ≡ 1))
both_one a b l m = (λ e. (omega (arith, e, l, m), omega (arith, e, l, m)), λ w. omega (arith, w.0, w.1))

-- the bits that two words share
pub kept_word : (initial other : List ℕ) (at word mask : ℕ) → word ≡ get_or initial at 0 → mask ≡ get_or other at 0 → (k : ℕ) → k / 64 ≡ at → (bit_at (bit_and word mask) (k % 64) ≡ 1) ↔ (HasPlace initial k × HasPlace other k)
kept_word initial other at word mask is masked k e =
    let both = both_one (bit_at word (k % 64)) (bit_at mask (k % 64)) (bit_at-lt word (k % 64)) (bit_at-lt mask (k % 64)) in
    rw (e, ← is, ← masked, bit_at_and word mask (k % 64)) both

one_alone : (a b : ℕ) → a < 2 → b < 2 → (min a (1 - b) ≡ 1) ↔ ((a ≡ 1) × (b ≡ 1 → ⊥))
one_alone a b l m = (λ e. (omega (arith, e, l, m), λ f. omega (arith, e, f)), λ w. elim (cases_eq b 1) [ inl f ↦ absurd (w.1 f) | inr ne ↦ omega (arith, w.0, ne, m) ])

-- the bits of a word that aren't in another
pub removed_word : (initial other : List ℕ) (at word mask : ℕ) → mask < 2 ^ 64 → word ≡ get_or initial at 0 → mask ≡ get_or other at 0 → (k : ℕ) → k / 64 ≡ at → (bit_at (bit_and word (bit_not w64 mask)) (k % 64) ≡ 1) ↔ (HasPlace initial k × (HasPlace other k → ⊥))
removed_word initial other at word mask fits is masked k e =
    let alone = one_alone (bit_at word (k % 64)) (bit_at mask (k % 64)) (bit_at-lt word (k % 64)) (bit_at-lt mask (k % 64)) in
    rw (e, ← is, ← masked, bit_at_and word (bit_not w64 mask) (k % 64), bit_at_not w64 mask (k % 64) fits (omega arith)) alone

-- once each word is masked, the places of both are left
pub all_kept : (old other cut new : List ℕ) (at : ℕ) → cut ≡ take (length other) old → length new ≡ length cut → length new ≤ at → ((k : ℕ) → k / 64 < at → HasPlace new k ↔ (HasPlace cut k × HasPlace other k)) → (k : ℕ) → HasPlace new k ↔ (HasPlace old k × HasPlace other k)
all_kept old other cut new at is len all done k = elim (cases_lt (k / 64) (length other)) [
  | inl l ↦
      let same : get_or cut (k / 64) 0 ≡ get_or old (k / 64) 0 = ap (λ (xs : List ℕ). get_or xs (k / 64) 0) is ∙ get_or-take (length other) old (k / 64) 0 l in
      let into : HasPlace old k → HasPlace cut k = λ m. subst (λ (w : ℕ). bit_at w (k % 64) ≡ 1) (sym same) m in
      let back : HasPlace cut k → HasPlace old k = λ m. subst (λ (w : ℕ). bit_at w (k % 64) ≡ 1) same m in
      elim (cases_lt (k / 64) (length new)) [
        | inl m ↦ let both = done k (omega (arith, m, all)) in (
          λ v. let w = both.0 v in (back w.0, w.1),
          λ w. both.1 (into w.0, w.1),
        )
        | inr g ↦ (λ v. absurd (past_words new k g v), λ w. absurd (past_words cut k (omega (arith, g, len)) (into w.0)))
      ]
  | inr g ↦
      let short : length cut ≤ length other = omega (arith, ap length is, length-take (length other) old) in
      (λ v. absurd (past_words new k (omega (arith, g, len, short)) v), λ w. absurd (past_words other k g w.1))
]

pub all_removed : (old other new : List ℕ) (at : ℕ) → length new ≡ length old → length new ≤ at → ((k : ℕ) → k / 64 < at → HasPlace new k ↔ (HasPlace old k × (HasPlace other k → ⊥))) → (k : ℕ) → HasPlace new k ↔ (HasPlace old k × (HasPlace other k → ⊥))
all_removed old other new at len all done k = elim (cases_lt (k / 64) (length new)) [
  | inl m ↦ done k (omega (arith, m, all))
  | inr g ↦ (λ v. absurd (past_words new k g v), λ w. absurd (past_words old k (omega (arith, g, len)) w.0))
]
