-- places as bits of words
use Rattle.std.proofs.Common.{◌≡◌, ◌≢◌, ℕ, ◌*◌, ◌/◌, ◌%◌, ◌^◌, ◌<◌, ◌≤◌, ◌⊎◌, ◌↔◌, List, [], ◌∷◌, ◌++◌, length, get_or, set, inl, inr, ap, refl, arith, subst, zero, suc, max, w64, bit_or, get_or-set_same, get_or-set_other}
use Rattle.std.specs.Int.{bit_at}
use Rattle.std.proofs.lemmas.Bool.{cases_eq, cases_lt}
use Rattle.std.proofs.lemmas.Nat.Bits.{bit_at-zero, bit_at_or, bit_at-lt, bit_at_set_same, bit_at_set_other}
use Rattle.std.proofs.Math.ListN.{get_or-eq_default}
use Rattle.rbac_model.specs.Graphs.{HasPlace}

pub has_none : (k : ℕ) → HasPlace [] k → ⊥
has_none k m = let none = bit_at-zero (k % 64) in absurd (omega (arith, m, none))

-- words that read alike have the same places
pub same_places : (xs ys : List ℕ) → ((i : ℕ) → get_or xs i 0 ≡ get_or ys i 0) → (k : ℕ) → HasPlace xs k ↔ HasPlace ys k
same_places xs ys same k = (λ m. rw (← same (k / 64)) m, λ m. rw (same (k / 64)) m)

either_one : (a b : ℕ) → a < 2 → b < 2 → (max a b ≡ 1) ↔ ((a ≡ 1) ⊎ (b ≡ 1))
either_one zero zero l m = (λ e. inl e, elim [ inl e ↦ e | inr e ↦ e ])
either_one zero (suc zero) l m = (λ e. inr refl, λ e. refl)
either_one (suc zero) zero l m = (λ e. inl refl, λ e. refl)
either_one (suc zero) (suc zero) l m = (λ e. inl refl, λ e. refl)
either_one (suc (suc a)) b l m = absurd (omega arith)
either_one a (suc (suc b)) l m = absurd (omega arith)

-- the bits of two words together
pub either_bit : (a b i : ℕ) → (bit_at (bit_or a b) i ≡ 1) ↔ ((bit_at a i ≡ 1) ⊎ (bit_at b i ≡ 1))
either_bit a b i = rw (bit_at_or a b i) (either_one (bit_at a i) (bit_at b i) (bit_at-lt a i) (bit_at-lt b i))

-- words that are put together have the places of both
pub both_places : (old new more : List ℕ) (n : ℕ) → ((j : ℕ) → j < n → get_or new j 0 ≡ bit_or (get_or old j 0) (get_or more j 0)) → ((j : ℕ) → n ≤ j → get_or new j 0 ≡ get_or old j 0) → length more ≤ n → (k : ℕ) → HasPlace new k ↔ (HasPlace old k ⊎ HasPlace more k)
both_places old new more n joined kept few k = elim (cases_lt (k / 64) n) [
  | inl l ↦ rw (joined (k / 64) l) (either_bit (get_or old (k / 64) 0) (get_or more (k / 64) 0) (k % 64))
  | inr le ↦
      let none : get_or more (k / 64) 0 ≡ 0 = get_or-eq_default more 0 (omega (arith, few, le)) in
      let isnt : HasPlace more k → ⊥ = λ m. let zero_bit = bit_at-zero (k % 64) in let one : bit_at 0 (k % 64) ≡ 1 = rw none at m in absurd (omega (arith, zero_bit, one)) in
      rw (kept (k / 64) le) (λ m. inl m, elim [ inl m ↦ m | inr m ↦ absurd (isnt m) ])
]

-- where the bits of one word are among those of another, so are its places
pub covered_word : (xs ys : List ℕ) (at : ℕ) → bit_or (get_or xs at 0) (get_or ys at 0) ≡ get_or ys at 0 → (k : ℕ) → k / 64 ≡ at → HasPlace xs k → HasPlace ys k
covered_word xs ys at covered k here has =
    let same : bit_or (get_or xs (k / 64) 0) (get_or ys (k / 64) 0) ≡ get_or ys (k / 64) 0 = rw here covered in
    subst (λ (word : ℕ). bit_at word (k % 64) ≡ 1) same ((either_bit (get_or xs (k / 64) 0) (get_or ys (k / 64) 0) (k % 64)).1 (inl has))

-- a word with one bit more
module _ (words new : List ℕ) (place : ℕ) (l : place / 64 < length words) (is : new ≡ set words (place / 64) (bit_or (get_or words (place / 64) 0) (1 * 2 ^ (place % 64) % 2 ^ 64))) where
  here : get_or new (place / 64) 0 ≡ bit_or (get_or words (place / 64) 0) (1 * 2 ^ (place % 64) % 2 ^ 64)
  here = rw is (get_or-set_same words (place / 64) _ 0 l)

  there : (j : ℕ) → j ≢ place / 64 → get_or new j 0 ≡ get_or words j 0
  there j ne = rw is (get_or-set_other words (place / 64) j _ 0 ne)

  pub one_place : (k : ℕ) → HasPlace new k ↔ (HasPlace words k ⊎ (k ≡ place))
  one_place k = elim (cases_eq (k / 64) (place / 64)) [
    | inr ne ↦ rw (there (k / 64) ne) (λ m. inl m, elim [ inl m ↦ m | inr e ↦ absurd (ne (ap (λ i. i / 64) e)) ])
    | inl same ↦ elim (cases_eq (k % 64) (place % 64)) [
      | inl e ↦
          let one : HasPlace new k = rw (same, e, here) (bit_at_set_same w64 (get_or words (place / 64) 0) (place % 64) (omega arith)) in
          let is_place : k ≡ place = omega arith in
          (λ m. inr is_place, λ w. one)
      | inr ne ↦
          let other : bit_at (get_or new (k / 64) 0) (k % 64) ≡ bit_at (get_or words (k / 64) 0) (k % 64) = rw (same, here) (bit_at_set_other w64 (get_or words (place / 64) 0) (place % 64) (omega arith) (k % 64) ne) in
          rw other (λ m. inl m, elim [ inl m ↦ m | inr e ↦ absurd (ne (ap (λ i. i % 64) e)) ])
    ]
  ]

-- a word without places at the end is as none
pub widened : (ws : List ℕ) (k : ℕ) → get_or (ws ++ 0 ∷ []) k 0 ≡ get_or ws k 0
widened [] zero = refl
widened [] (suc k) = refl
widened (w ∷ ws) zero = refl
widened (w ∷ ws) (suc k) = widened ws k

pub inserted : (old words : List ℕ) (word place : ℕ) → ((i : ℕ) → get_or words i 0 ≡ get_or old i 0) → place / 64 < length words → word ≡ get_or words (place / 64) 0 → (k : ℕ) → HasPlace (set words (place / 64) (bit_or word (1 * 2 ^ (place % 64) % 2 ^ 64))) k ↔ (HasPlace old k ⊎ (k ≡ place))
inserted old words word place same l read k =
    let new = set words (place / 64) (bit_or word (1 * 2 ^ (place % 64) % 2 ^ 64)) in
    let one = one_place words new place l (rw read refl) k in
    let alike = same_places words old same k in (
      λ m. elim (one.0 m) [ inl v ↦ inl (alike.0 v) | inr e ↦ inr e ],
      λ w. one.1 (elim w [ inl v ↦ inl (alike.1 v) | inr e ↦ inr e ]),
    )
