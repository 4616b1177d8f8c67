-- proofs by cases: of a test, of two tests, of an order, of a result
use Rattle.std.proofs.Common.{◌≡◌, ◌⊎◌, Bool, true, false, cond, refl, inl, inr, Result, Ok, Err, OnOk, Less, Equal, Greater, Ordering}

pub by_bool : {G : Type 0} (b : Bool) → (b ≡ true → G) → (b ≡ false → G) → G
by_bool true f g = f refl
by_bool false f g = g refl

pub either_true : (b c : Bool) → cond b true c ≡ true → (b ≡ true) ⊎ (c ≡ true)
either_true true c h = inl refl
either_true false c h = inr h

pub true_either : (b c : Bool) → (b ≡ true) ⊎ (c ≡ true) → cond b true c ≡ true
true_either true c h = refl
true_either false c (inl h) = cc
true_either false c (inr h) = h

pub by_ordering : {G : Type 0} (o : Ordering) → (o ≡ Less → G) → (o ≡ Equal → G) → (o ≡ Greater → G) → G
by_ordering Less f g h = f refl
by_ordering Equal f g h = g refl
by_ordering Greater f g h = h refl

pub on_ok : {T E : Type 0} {P Q : Type 0} (o : Result T E) → (P → Q) → OnOk o P → OnOk o Q
on_ok (Ok x) f p = f p
on_ok (Err e) f p = tt
