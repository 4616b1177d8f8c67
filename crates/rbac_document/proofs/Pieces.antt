-- pieces that are added one after the other
use Rattle.std.proofs.Common.{◌≡◌, ℕ, List, ◌++◌, ap, ◌∙◌, append_assoc, Result, Ok, Err, OnOk}
use Rattle.std.specs.Prelude.{if◌then◌else◌}
use Rattle.std.specs.Result.{is_ok}

-- where the last call went well, its piece was added
pub on_ok : {T E Q : Type 0} (o : Result T E) (a b c : List ℕ) → c ≡ (if is_ok o then a else b) → (c ≡ a → Q) → OnOk o Q
on_ok (Ok x) a b c e f = f e
on_ok (Err x) a b c e f = tt

-- three pieces, the first two of two parts each
pub three : (old a x b y z m n last : List ℕ) → m ≡ old ++ a ++ x → n ≡ m ++ b ++ y → last ≡ n ++ z → last ≡ old ++ (a ++ x ++ b ++ y ++ z)
three old a x b y z m n last p q e = e ∙ ap (λ l. l ++ z) (q ∙ ap (λ l. l ++ b ++ y) p) ∙ simp append_assoc

-- four pieces, the first two of two parts each
pub four : (old a x b y d z m n o last : List ℕ) → m ≡ old ++ a ++ x → n ≡ m ++ b ++ y → o ≡ n ++ d → last ≡ o ++ z
    → last ≡ old ++ (a ++ x ++ b ++ y ++ d ++ z)
four old a x b y d z m n o last p q r e = e ∙ ap (λ l. l ++ z) (r ∙ ap (λ l. l ++ d) (q ∙ ap (λ l. l ++ b ++ y) p)) ∙ simp append_assoc

-- a text between two others
pub between : (old a b d m n last : List ℕ) → m ≡ old ++ a → n ≡ m ++ b → last ≡ n ++ d → last ≡ old ++ (a ++ b ++ d)
between old a b d m n last p q e = e ∙ ap (λ l. l ++ d) (q ∙ ap (λ l. l ++ b) p) ∙ simp append_assoc

-- five pieces
pub five : (old a b d f g m n o p last : List ℕ) → m ≡ old ++ a → n ≡ m ++ b → o ≡ n ++ d → p ≡ o ++ f → last ≡ p ++ g
    → last ≡ old ++ (a ++ b ++ d ++ f ++ g)
five old a b d f g m n o p last h i j k e =
    e ∙ ap (λ l. l ++ g) (k ∙ ap (λ l. l ++ f) (j ∙ ap (λ l. l ++ d) (i ∙ ap (λ l. l ++ b) h))) ∙ simp append_assoc
