-- Lists that are read item by item.
use Rattle.std.proofs.Common.{◌≡◌, ℕ, ◌&&◌, Bool, true, false, List, [], ◌∷◌, ◌++◌, map, Option, Some, None, option_map, unwrap_or, is_some, cond, refl, ap, ◌∙◌}
use Rattle.std.specs.List.{list_all}
use Rattle.serde_json.specs.Data.{Data}
use Rattle.serde_json.specs.Find.{as_str}
use Rattle.json_fields.specs.Fields.{all_texts, is_text, text_in}
use Rattle.json_fields.specs.Lists.{all_at, cons_if}

-- what was read so far, before what the rest gives
abbrev pub with_prefix : {A : Type 0} → List A → Option (List A) → Option (List A)
with_prefix prefix rest = option_map (λ xs. prefix ++ xs) rest

one_more : (o : Option (List ℕ)) (b : Bool) (ts : List (List ℕ))
    → cond (is_some o && b) (Some (unwrap_or o [] ∷ ts)) None ≡ cons_if o (cond b (Some ts) None)
one_more None b ts = refl
one_more (Some t) true ts = refl
one_more (Some t) false ts = refl

-- a list of texts is read text by text
pub all_texts_at : (ds : List Data) → all_texts ds ≡ all_at as_str ds
unfolding all_texts
all_texts_at [] = refl
all_texts_at (d ∷ ds) = one_more (as_str d) (list_all is_text ds) (map text_in ds) ∙ ap (cons_if (as_str d)) (all_texts_at ds)
