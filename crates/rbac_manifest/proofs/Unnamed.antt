-- the objects without these names, whatever the order of the names
use Rattle.std.proofs.Common.{◌≡◌, Bool, List, [], ◌∷◌, ◌++◌, map, not, refl, sym, ap}
use Rattle.std.specs.List.{filter}
use Rattle.std.specs.List.Sorted.{IsPermutation}
use Rattle.std.specs.Ordering.{is_eq}
use Rattle.std.proofs.lemmas.List.Sorted.{list_any-IsPermutation}
use Rattle.rbac_terms.specs.Text.{Text}
use Rattle.rbac_model.specs.declared.objects.Object.{Object}
use Rattle.rbac_manifest.specs.Names.{object_name, name_cmp, has_name}
use Rattle.rbac_manifest.specs.Changed.{is_named, changed_objects}

filter_alike : {X : Type 0} (p q : X → Bool) → ((x : X) → p x ≡ q x) → (xs : List X) → filter p xs ≡ filter q xs
filter_alike p q alike [] = refl
filter_alike p q alike (x ∷ xs) = rw (alike x, filter_alike p q alike xs) refl

has_name_alike : (ms ns : List (List Text)) → IsPermutation ms ns → (name : List Text) → has_name ms name ≡ has_name ns name
has_name_alike ms ns moved name = list_any-IsPermutation (λ n. is_eq (name_cmp n name)) ms ns moved

pub changed_by : (objects without over : List Object) (names : List (List Text)) → IsPermutation (map object_name without) names
    → filter (λ o. not (has_name names (object_name o))) objects ++ over ≡ changed_objects objects without over
changed_by objects without over names moved =
    ap (λ (kept : List Object). kept ++ over) (filter_alike (λ o. not (has_name names (object_name o))) (λ o. not (is_named without o))
    (λ o. ap not (sym (has_name_alike (map object_name without) names moved (object_name o)))) objects)
