-- orders of texts, text by text
use Rattle.std.proofs.Common.{◌≡◌, true, List, [], ◌∷◌, ◌++◌, length, Less, Equal, Greater, Ordering, refl, ap, ◌∙◌, arith}
use Rattle.std.specs.Ordering.{is_gt, ordering_then}
use Rattle.std.specs.Cmp.Lexicographic.{slice_cmp}
use Rattle.rbac_terms.specs.Text.{Text, text_cmp}

pub not_greater : (o : Ordering) → o ≡ Less → o ≡ Greater → ⊥
not_greater o e f = cc

pub not_less : (o : Ordering) → o ≡ Less → o ≡ Equal → ⊥
not_less o e f = cc

pub not_tied : (o : Ordering) → o ≡ Equal → o ≡ Greater → ⊥
not_tied o e f = cc

pub greater : (o : Ordering) → is_gt o ≡ true → o ≡ Greater
greater Less e = cc
greater Equal e = cc
greater Greater e = refl

pub is_greater : (o : Ordering) → o ≡ Greater → is_gt o ≡ true
is_greater o e = rw e refl

-- the first text decides, unless both are equal
pub first_less : (o p : Ordering) → o ≡ Less → ordering_then o p ≡ Less
first_less o p e = rw e refl

pub first_greater : (o p : Ordering) → o ≡ Greater → ordering_then o p ≡ Greater
first_greater o p e = rw e refl

pub first_tied : (o p : Ordering) → o ≡ Equal → ordering_then o p ≡ p
first_tied o p e = rw e refl

then_assoc : (o p q : Ordering) → ordering_then o (ordering_then p q) ≡ ordering_then (ordering_then o p) q
then_assoc Less p q = refl
then_assoc Equal p q = refl
then_assoc Greater p q = refl

-- if two prefixes have the same length, lists with these prefixes compare by them, then by the rest
pub cmp_append : (xs ys : List Text) → length xs ≡ length ys → (zs ws : List Text) → slice_cmp text_cmp (xs ++ zs) (ys ++ ws) ≡ ordering_then (slice_cmp text_cmp xs ys) (slice_cmp text_cmp zs ws)
cmp_append [] [] e zs ws = refl
cmp_append [] (y ∷ ys) e zs ws = absurd (omega (arith, e))
cmp_append (x ∷ xs) [] e zs ws = absurd (omega (arith, e))
cmp_append (x ∷ xs) (y ∷ ys) e zs ws =
    ap (ordering_then (text_cmp x y)) (cmp_append xs ys (omega (arith, e)) zs ws) ∙ then_assoc (text_cmp x y) (slice_cmp text_cmp xs ys) (slice_cmp text_cmp zs ws)
