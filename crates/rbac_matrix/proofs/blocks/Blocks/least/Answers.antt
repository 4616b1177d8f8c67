use Rattle.std.proofs.Common.{◌≡◌, ℕ, ◌+◌, ◌<◌, ◌≤◌, List, arith, inl, inr, refl}
use Rattle.std.proofs.lemmas.Bool.{cases_lt}
use Rattle.rbac_matrix.specs.Blocks.{block_at}
use Rattle.rbac_matrix.specs.declared.blocks.Block.{Block}
use Rattle.rbac_matrix.proofs.BlockLemmas.{IsLeastBelow}
use Rattle.rbac_matrix.proofs.blocks.Blocks.least.Goals.{then-block-place, else-block-place}
use Rattle.rbac_matrix.proofs.blocks.Blocks.least.Goals as goal

module _ (bs : List Block) (n place number : ℕ) (h : IsLeastBelow bs n place number) where
  last : (i : ℕ) → i < n + 1 → n ≤ i → i ≡ n
  last i lt ge = omega arith

  least_new : (block_at bs n).place < place → IsLeastBelow bs (n + 1) (block_at bs n).place (block_at bs n).number
  least_new lt = record {
    bound = omega (arith, h.bound);
    found = λ _. (
      n,
      omega arith,
      refl,
      refl,
      λ j below low. elim (cases_lt j n) [
        | inl old ↦ absurd (omega (arith, h.least j old, low, lt))
        | inr ge ↦ ge
      ],
    );
    least = λ i below. elim (cases_lt i n) [
      | inl old ↦ omega (arith, h.least i old, lt)
      | inr ge ↦ rw (last i below ge) (omega arith)
    ];
  }

  least_same : place ≤ (block_at bs n).place → IsLeastBelow bs (n + 1) place number
  least_same le = record {
    bound = h.bound;
    found = λ real. let old = h.found real in (
      old.0,
      omega (arith, old.1),
      old.2,
      old.3,
      λ j below low. elim (cases_lt j n) [
        | inl is ↦ old.4 j is low
        | inr ge ↦ omega (arith, old.1)
      ],
    );
    least = λ i below. elim (cases_lt i n) [
      | inl old ↦ h.least i old
      | inr ge ↦ rw (last i below ge) le
    ];
  }

pub loop-block-preserved : goal.loop-block-preserved
loop-block-preserved c =
    let bs = c.args.self.now.kept.items in
    let n = c.loop-block.block-index in
    let old = c.loop-block.invariant in
    elim c.if-block-place.branch [
      | then-block-place w ↦ rw (w.place-is, w.number-is, c.as_slice-block-items.ensures.value) (least_new bs n c.loop-block.place c.loop-block.number old (rw c.as_slice-block-items.ensures.value at w.if-block-place.true))
      | else-block-place w ↦ rw (w.place-is, w.number-is) (least_same bs n c.loop-block.place c.loop-block.number old (rw c.as_slice-block-items.ensures.value at w.if-block-place.false))
    ]
