-- A text, cut at the first of a byte.
use Rattle.std.proofs.Common.{◌≡◌, ◌≢◌, ℕ, ◌+◌, ◌<◌, ◌==◌, true, [], ◌∷◌, ◌++◌, length, take, drop, get_or, Contains, refl, sym, ap, ◌∙◌, arith}
use Rattle.std.specs.List.{before_first, after_first, position_or_len}
use Rattle.std.proofs.lemmas.Bool.Decides.{nat_tests}
use Rattle.std.proofs.lemmas.Grind.{common_steps}
use Rattle.std.proofs.lemmas.List.{append_assoc, drop_all, drop_at, get_or_append_left, get_or_at, get_or_default, length_push, take_all, take_at}
use Rattle.std.proofs.lemmas.List.Sums.{position_or_len_is}
use Rattle.rbac_terms.specs.Text.{Text, IsCutAtFirst}

-- no byte of the text is the one that it lacks
lacks : (t : Text) (b k : ℕ) → (Contains t b → ⊥) → k < length t → get_or t k 0 ≢ b
lacks t b k none lt e = none (k, lt, get_or_default t k b 0 lt ∙ e)

same_byte : (b : ℕ) → (b == b) ≡ true
same_byte b = grind (arith, nat_tests)

-- where the byte is
place : (m s : Text) (b : ℕ) → (Contains m b → ⊥) → position_or_len (λ x. x == b) (m ++ b ∷ s) ≡ length m
place m s b none =
    position_or_len_is (λ x. x == b) (m ++ b ∷ s) (length m) 0 (grind (arith, common_steps))
    (λ k lt. let ne = lacks m b k none lt in rw get_or_append_left (grind (arith, nat_tests))) (λ _. rw (get_or_at m b s 0 (length m) refl) (same_byte b))

no_place : (t : Text) (b : ℕ) → (Contains t b → ⊥) → position_or_len (λ x. x == b) t ≡ length t
no_place t b none =
    position_or_len_is (λ x. x == b) t (length t) 0 (omega arith) (λ k lt. let ne = lacks t b k none lt in grind (arith, nat_tests)) (λ lt. absurd (omega arith))

pub before_cut : (x m s : Text) (b : ℕ) → IsCutAtFirst x b m s → before_first (λ y. y == b) x ≡ m
before_cut x m s b cut =
    ap (before_first (λ y. y == b)) cut.0 ∙ ap (λ n. take n (m ++ b ∷ s)) (place m s b cut.1) ∙ take_at m (b ∷ s) (length m) refl

pub after_cut : (x m s : Text) (b : ℕ) → IsCutAtFirst x b m s → after_first (λ y. y == b) x ≡ s
after_cut x m s b cut =
    ap (after_first (λ y. y == b)) cut.0 ∙ ap (λ n. drop (n + 1) (m ++ b ∷ s)) (place m s b cut.1)
    ∙ ap (drop (length m + 1)) (sym (append_assoc m (b ∷ []) s)) ∙ drop_at (m ++ b ∷ []) s (length m + 1) (length_push m b)

pub before_uncut : (x : Text) (b : ℕ) → (Contains x b → ⊥) → before_first (λ y. y == b) x ≡ x
before_uncut x b none = ap (λ n. take n x) (no_place x b none) ∙ take_all (length x) x (omega arith)

pub after_uncut : (x : Text) (b : ℕ) → (Contains x b → ⊥) → after_first (λ y. y == b) x ≡ []
after_uncut x b none = ap (λ n. drop (n + 1) x) (no_place x b none) ∙ drop_all (length x + 1) x (omega arith)
