-- what stands at a place of a list
use Rattle.std.proofs.Common.{◌≡◌, ◌∙◌, ap, ℕ, ◌<◌, List, map, length, get_or, slice_get, sym, Bor}
use Rattle.std.specs.Prelude.{Some}
use Rattle.std.specs.Option.{option_map}
use Rattle.std.proofs.lemmas.Option.{slice_get-map, slice_get-get_or}

-- what a reference at that place leads to
pub read_now : {X : Type 0} (rs : List (Bor X)) (i : ℕ) (r : Bor X) → i < length rs → r ≡ get_or rs i r → slice_get (map (λ x. x.now) rs) i ≡ Some r.now
read_now {X} rs i r lt e = slice_get-map (λ (x : Bor X). x.now) rs i ∙ ap (option_map (λ (x : Bor X). x.now)) (slice_get-get_or rs i r lt ∙ ap (λ (x : Bor X). Some x) (sym e))
