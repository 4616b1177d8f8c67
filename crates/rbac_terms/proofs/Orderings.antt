-- what the result of a comparison says
use Rattle.std.proofs.Common.{◌≡◌, ◌≤◌, ◌⊎◌, true, false, refl, inl, inr, arith, Less, Equal, Greater, Ordering}
use Rattle.std.specs.Ordering.{ordering_index, ordering_then, is_lt, is_le, is_eq}

pub equal_from_test : (o : Ordering) → is_eq o ≡ true → o ≡ Equal
equal_from_test Less h = cc
equal_from_test Equal h = refl
equal_from_test Greater h = cc

-- between what is not less and what is at most stands what is equal
pub between_is : (o : Ordering) → is_lt o ≡ false → is_le o ≡ true → o ≡ Equal
between_is Less e f = cc
between_is Equal e f = refl
between_is Greater e f = cc

-- the first of two decides, unless it is equal
pub then_less : (o p : Ordering) → ordering_then o p ≡ Less → (o ≡ Less) ⊎ (o ≡ Equal)
then_less Less p e = inl refl
then_less Equal p e = inr refl
then_less Greater p e = cc

pub less_alone : (o : Ordering) → ordering_then o Equal ≡ Less → o ≡ Less
less_alone Less e = refl
less_alone Equal e = cc
less_alone Greater e = cc

pub both_equal : (o p : Ordering) → ordering_then o p ≡ Equal → (o ≡ Equal) × (p ≡ Equal)
both_equal Less p e = cc
both_equal Equal p e = (refl, e)
both_equal Greater p e = cc

-- what is less, or at most, stays so if it falls
pub lt_back : (o p : Ordering) → ordering_index o ≤ ordering_index p → is_lt p ≡ true → is_lt o ≡ true
lt_back Less p le e = refl
lt_back Equal Less le e = absurd (omega arith)
lt_back Equal Equal le e = cc
lt_back Equal Greater le e = cc
lt_back Greater Less le e = absurd (omega arith)
lt_back Greater Equal le e = cc
lt_back Greater Greater le e = cc

pub le_back : (o p : Ordering) → ordering_index o ≤ ordering_index p → is_le p ≡ true → is_le o ≡ true
le_back Less p le e = refl
le_back Equal p le e = refl
le_back Greater Less le e = absurd (omega arith)
le_back Greater Equal le e = absurd (omega arith)
le_back Greater Greater le e = cc
