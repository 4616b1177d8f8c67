-- a byte that stands at no place isn't among a text's, and names behind a key's mark
use Rattle.std.proofs.Common.{◌≡◌, ◌≢◌, ◌↔◌, ℕ, ◌<◌, length, get_or, All, Contains, List, map, ◌∙◌, [], ◌++◌, Bool, true, false, ◌∷◌, Bor, MatchOption, refl, arith}
use Rattle.std.specs.Bool.{MatchBool}
use Rattle.std.specs.List.{AllWithin, HoldsAt}
use Rattle.std.specs.Prelude.{Option, Some, None, ◌==◌}
use Rattle.std.proofs.lemmas.List.{get_or_default}
use Rattle.std.proofs.lemmas.List.Elements.{All-nil, All-cons, All-head, All-tail}
use Rattle.rbac_terms.specs.Text.{Text}

pub lacks : (x : Text) (b : ℕ) → ((i : ℕ) → i < length x → get_or x i 0 ≢ b) → Contains x b → ⊥
lacks x b h w = h w.0 w.1 (get_or_default x w.0 0 b w.1 ∙ w.2)

-- no name stands behind the mark, and so none that isn't empty
pub not_behind : (key mark : Text) (r : Option (Bor Text)) → r ≡ None → ((name : Text) → key ≢ mark ++ name)
    → MatchOption r ((name : Text) → key ≡ mark ++ name → name ≡ []) (λ name. (key ≡ mark ++ name.now) × (name.now ≢ []))
not_behind key mark None e h = λ name k. absurd (h name k)
not_behind key mark (Some x) e h = cc

pub not_empty : (x : Text) → (length x == 0) ≡ false → x ≢ []
not_empty [] h = cc
not_empty (b ∷ x) h = λ e. cc

pub unmapped : {X Y : Type 0} (P : Y → Type 0) (f : X → Y) (xs : List X) → All P (map f xs) → All (λ x. P (f x)) xs
unmapped P f [] all = All-nil (λ x. P (f x))
unmapped P f (x ∷ xs) all = All-cons (λ x. P (f x)) x xs (All-head P (f x) (map f xs) all) (unmapped P f xs (All-tail P (f x) (map f xs) all))

-- a search that ends at the first part without P, and whether all have it
pub all_or_one : (P : Text → Type 0) (xs : List Text) (r : Bool) → MatchBool r (AllWithin P xs 0 (length xs)) ((k : ℕ) × (k < length xs) × HoldsAt (λ x. ¬ P x) xs k)
    → (r ≡ true) ↔ All P xs
all_or_one P xs true h = ((λ e. λ k d l. h k d (omega arith) l), λ all. refl)
all_or_one P xs false h = ((λ e. cc), λ all. absurd (h.2 [] (all h.0 [] h.1)))
