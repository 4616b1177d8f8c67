-- What one more document changes of the lists that are given.
use Rattle.std.proofs.Common.{◌≡◌, ℕ, ◌+◌, ◌<◌, length, take, get_or, List, [], ◌∷◌, ◌++◌, refl, Option, Some, None}
use Rattle.std.specs.List.{last_or, cons_option, filter_map}
use Rattle.std.specs.Option.{option_or}
use Rattle.std.proofs.lemmas.List.{append-nil, take_more}
use Rattle.std.proofs.lemmas.List.Elements.{filter_map-append}
use Rattle.rbac_lists.specs.declared.given_lists.GivenLists.{GivenLists}
use Rattle.rbac_lists.specs.Meant.{last_given}

last_pushed : {X : Type 0} (o : Option X) (xs : List X) (y : X) → last_or o (xs ++ y ∷ []) ≡ Some y
last_pushed o [] y = refl
last_pushed o (x ∷ xs) y = last_pushed (Some x) xs y

last_step : {X : Type 0} (o : Option X) (xs : List X) → last_or None (xs ++ cons_option o []) ≡ option_or o (last_or None xs)
last_step None xs = rw (append-nil xs) refl
last_step (Some y) xs = last_pushed None xs y

-- where it has the list that stands, and else what stood before it
pub last_more : {X : Type 0} (field : GivenLists → Option X) (documents : List GivenLists) (document : GivenLists) → last_given field (documents ++ document ∷ []) ≡ option_or (field document) (last_given field documents)
last_more field documents document = rw (filter_map-append field documents (document ∷ [])) (last_step (field document) (filter_map field documents))

-- what stands after the document at a place, from what stood before it
pub last_now : {X : Type 0} (field : GivenLists → Option X) (documents : List GivenLists) (i : ℕ) (document : GivenLists) (before now : Option X) → i < length documents → document ≡ get_or documents i document → before ≡ last_given field (take i documents) → now ≡ option_or (field document) before → now ≡ last_given field (take (i + 1) documents)
last_now field documents i document before now within is was made =
    rw (take_more documents i document within, ← is, last_more field (take i documents) document, ← was) made
