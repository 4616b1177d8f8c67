-- No two users or groups in order of their keys have the same key.
use Rattle.std.proofs.Common.{◌≡◌, ◌≢◌, ◌∙◌, AllPairs, Equal, Less, List, ap, ap₂, arith, get_or, map, sym, ◌∷◌, []}
use Rattle.std.proofs.lemmas.List.{get_or-map, length-map}
use Rattle.rbac_terms.specs.Principals.{Who, who_key}
use Rattle.rbac_terms.specs.Text.{Text}
use Rattle.rbac_model.proofs.NamePlaces.{equal_from_name}
use Rattle.rbac_model.specs.Lists.{IsAscendingBy, by_name}
use Rattle.rbac_model.specs.Unions.{who_texts}

-- if a user or a group comes before another, their keys differ
apart : (x y : Who) → by_name who_texts x y ≡ Less → who_key x ≢ who_key y
apart x y less e =
    let tied : by_name who_texts x y ≡ Equal = equal_from_name who_texts x y (ap (λ (t : Text). t ∷ []) e) in
    let both : Less ≡ Equal = sym less ∙ tied in cc

pub keys_apart : {R : Type 0} (f : R → Who) (xs : List R) → IsAscendingBy who_texts (map f xs) → AllPairs (λ a b. who_key (f a) ≢ who_key (f b)) xs
keys_apart f xs up i j d low within =
    let first : get_or (map f xs) i (f d) ≡ f (get_or xs i d) = get_or-map f xs i d (f d) (omega (arith, low, within)) in
    let second : get_or (map f xs) j (f d) ≡ f (get_or xs j d) = get_or-map f xs j d (f d) within in
    let len = length-map xs f in
    let less = up i j (f d) low (omega (arith, within, len)) in
    apart (f (get_or xs i d)) (f (get_or xs j d)) (ap₂ (λ (x : Who) (y : Who). by_name who_texts x y) (sym first) (sym second) ∙ less)
