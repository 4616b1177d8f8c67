-- A word with one star at its end.
use Rattle.std.proofs.Common.{◌≡◌, ◌≢◌, ℕ, [], ◌∷◌, ◌++◌, Bool, true, false, refl, sym, ap, ap₂, ◌∙◌, inl, inr, ◌-◌, length, take, drop, length-append, append_assoc, arith, nat_eq}
use Rattle.std.specs.Prelude.{◌==◌, ◌&&◌, if◌then◌else◌}
use Rattle.std.specs.Cmp.Lexicographic.{pointwise}
use Rattle.std.proofs.lemmas.Bool.{cases_eq, ne_eqb, eqb-true, and_parts, true≢false}
use Rattle.std.proofs.lemmas.Bool.Decides.{Decides-eqb}
use Rattle.std.proofs.lemmas.List.{take_at}
use Rattle.std.proofs.lemmas.Slice.Eq.{ends_is}
use Rattle.rbac_terms.specs.Text.{Text, star}
use Rattle.rbac_terms.proofs.Cases.{by_bool}
use Rattle.rbac_diff.specs.Permissions.{are_stars, one_star}

-- whether a word is stars doesn't depend on how many end it
stars_off : (w : Text) → are_stars (w ++ star ∷ star ∷ []) ≡ are_stars (w ++ star ∷ [])
stars_off [] = refl
stars_off (c ∷ w) = ap (λ (t : Bool). (c == star) && t) (stars_off w)

-- of two stars at the end of a word one is enough
pub one_star-off : (w : Text) → one_star (w ++ star ∷ star ∷ []) ≡ one_star (w ++ star ∷ [])
one_star-off [] = refl
one_star-off (c ∷ w) =
    ap₂ (λ (t : Bool) (r : Text). if (c == star) && t then star ∷ [] else c ∷ r) (stars_off w) (one_star-off w)

-- two stars, and more, end in two stars
end_in_two : (c d : ℕ) (w : Text) → are_stars (c ∷ d ∷ w) ≡ true → (before : Text) × (c ∷ d ∷ w ≡ before ++ star ∷ star ∷ [])
end_in_two c d [] h =
    let first = and_parts (c == star) (are_stars (d ∷ [])) h in
    let second = and_parts (d == star) true first.1 in
    ([], ap₂ (λ (x y : ℕ). x ∷ y ∷ []) (eqb-true c star first.0) (eqb-true d star second.0))
end_in_two c d (x ∷ w) h =
    let rest = end_in_two d x w (and_parts (c == star) (are_stars (d ∷ x ∷ w)) h).1 in
    (c ∷ rest.0, ap (λ (t : Text). c ∷ t) rest.1)

-- a word that doesn't end in two stars is left as it is
pub one_star-kept : (w : Text) → ((before : Text) → w ≢ before ++ star ∷ star ∷ []) → one_star w ≡ w
one_star-kept [] ends = refl
one_star-kept (c ∷ []) ends = elim (cases_eq c star) [
  | inl e ↦ rw e refl
  | inr ne ↦ rw (ne_eqb c star ne) refl
]
one_star-kept (c ∷ d ∷ w) ends =
    by_bool (are_stars (c ∷ d ∷ w))
    (λ t. let two = end_in_two c d w t in absurd (ends two.0 two.1))
    (λ f. rw f (ap (λ (t : Text). c ∷ t) (one_star-kept (d ∷ w) (λ before e. ends (c ∷ before) (ap (λ (t : Text). c ∷ t) e)))))

-- a word that ends in two stars, without the last byte
one_less : (front w : Text) → w ≡ front ++ star ∷ star ∷ [] → one_star (take (length w - 1) w) ≡ one_star w
one_less front w e =
    let shorter = front ++ star ∷ [] in
    let split : w ≡ shorter ++ star ∷ [] = e ∙ sym (append_assoc front (star ∷ []) (star ∷ [])) in
    let taken : take (length w - 1) w ≡ shorter =
    ap (λ (t : Text). take (length w - 1) t) split ∙ take_at shorter (star ∷ []) (length w - 1) (omega (arith, ap length split, length-append shorter (star ∷ []))) in
    ap one_star taken ∙ sym (one_star-off front) ∙ ap one_star (sym e)

pub ends_in_two : (w : Text) (r : Bool) → r ≡ pointwise nat_eq (star ∷ star ∷ []) (drop (length w - 2) w) → r ≡ true → one_star (take (length w - 1) w) ≡ one_star w
ends_in_two w r tested is = one_less (take (length w - 2) w) w ((ends_is Decides-eqb w (star ∷ star ∷ []) r tested).0 is)

pub ends_otherwise : (w : Text) (r : Bool) → r ≡ pointwise nat_eq (star ∷ star ∷ []) (drop (length w - 2) w) → r ≡ false → one_star w ≡ w
ends_otherwise w r tested isn = one_star-kept w (λ front e. true≢false (sym ((ends_is Decides-eqb w (star ∷ star ∷ []) r tested).1 front e) ∙ isn))
