-- a binary search, and how many entries it reads
use Rattle.std.proofs.Common.{◌≡◌, ℕ, zero, suc, ◌+◌, ◌*◌, ◌^◌, ◌<◌, ◌≤◌, List, length, get_or, arith, inl, inr, add-one}
use Rattle.std.specs.List.Sorted.{IsStrictlyIncreasing}
use Rattle.std.proofs.lemmas.Bool.{cases_lt}
use Rattle.std.proofs.Math.Nat.{pow-le-pow_right, pow-succ', mul-le-mul_right}
use Rattle.rbac_reaches.specs.Reaches.{raised}

-- to raise a meter twice is to raise it once by the sum
pub raised-raised : (m a b : ℕ) → raised (raised m a) b ≡ raised m (a + b)
raised-raised m a b = omega arith

-- each entry is greater than those before it
pub ascends : (xs : List ℕ) → IsStrictlyIncreasing xs → (i j : ℕ) → i < j → j < length xs → get_or xs i 0 < get_or xs j 0
ascends xs up i zero h k = absurd (omega arith)
ascends xs up i (suc j) h k =
    let step : get_or xs j 0 < get_or xs (j + 1) 0 = up j (omega arith) in
    let next : suc j ≡ j + 1 = omega arith in
    rw next (elim (cases_lt i j) [
      | inl lt ↦ omega (arith, ascends xs up i j lt (omega arith))
      | inr ge ↦ let same : i ≡ j = omega arith in rw same step
    ])

-- after `total` reads, the part that is left is no wider than a million halved `total` times
pub record Halved (width before after : ℕ) : Type 0 where
  pub total : ℕ
  pub small : width * 2 ^ total ≤ 1000000
  pub most : total ≤ 20
  pub meter : after ≡ raised before total

-- while an entry is left, fewer than 20 reads were made
below_20 : (width total : ℕ) → 0 < width → width * 2 ^ total ≤ 1000000 → total < 20
below_20 width total some small = elim (cases_lt total 20) [
  | inl lt ↦ lt
  | inr ge ↦ absurd
      (let power : 2 ^ 20 ≤ 2 ^ total = pow-le-pow_right (omega arith) ge in
      let whole : 1 * 2 ^ total ≤ width * 2 ^ total = mul-le-mul_right (2 ^ total) some in
      omega arith)
]

pub Halved-more : (width width' before m after : ℕ) → 0 < width → width' * 2 ≤ width → Halved width before m → after ≡ raised m 1 → Halved width' before after
Halved-more width width' before m after some half h e = record {
  total = h.total + 1;
  small =
      (let power : 2 ^ (h.total + 1) ≡ 2 * 2 ^ h.total = rw add-one (pow-succ' 2 h.total) in
      let part : width' * 2 * 2 ^ h.total ≤ width * 2 ^ h.total = mul-le-mul_right (2 ^ h.total) half in
      rw power (omega (arith, part, h.small)));
  most = omega (arith, below_20 width h.total some h.small);
  meter = rw (← raised-raised, ← h.meter) e;
}

-- each entry up to one that is too small is too small; each entry from one that is large enough on
-- is large enough
pub before_middle : (xs : List ℕ) (from middle : ℕ) → IsStrictlyIncreasing xs → middle < length xs → get_or xs middle 0 < from → (k : ℕ) → k < middle + 1 → get_or xs k 0 < from
before_middle xs from middle up h small k lt = elim (cases_lt k middle) [
  | inl below ↦ omega (arith, ascends xs up k middle below h)
  | inr ge ↦ let same : k ≡ middle = omega arith in rw same small
]

pub after_middle : (xs : List ℕ) (from middle : ℕ) → IsStrictlyIncreasing xs → middle < length xs → from ≤ get_or xs middle 0 → (k : ℕ) → middle ≤ k → k < length xs → from ≤ get_or xs k 0
after_middle xs from middle up h large k ge lt = elim (cases_lt middle k) [
  | inl above ↦ omega (arith, ascends xs up middle k above lt)
  | inr le ↦ let same : k ≡ middle = omega arith in rw same large
]
