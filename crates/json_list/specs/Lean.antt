-- A value without the members that nobody uses.
use Rattle.std.specs.Prelude.{ℕ, Bool, List, Option, Some, None, option_map}
use Rattle.std.specs.List.{list_any}
use Rattle.std.specs.Str.{bytes_eq}
use Rattle.serde_json.specs.Data.{Data, null, boolean, number, string, array, object}
use Rattle.serde_json.specs.Data.{Items, no_items, item, Members, no_members, member}

-- a name is among these
abbrev pub is_among : List (List ℕ) → List ℕ → Bool
is_among names name = list_any (bytes_eq name) names

-- the members, and before them one of this name, unless it is left out
abbrev pub with_member : List ℕ → Option Data → Members → Members
with_member name None ms = ms
with_member name (Some d) ms = member name d ms

-- What is kept of a value. Of an object: each member whose name `under` keeps, with what it keeps
-- of the value. Of an array: each item, of which the same is kept as of the array. Any other value
-- is kept as it is.
abbrev mutual
  pub lean : {K : Type 0} → (K → List ℕ → Option K) → K → Data → Data
  lean under kept null = null
  lean under kept (boolean b) = boolean b
  lean under kept (number n) = number n
  lean under kept (string s) = string s
  lean under kept (array ds) = array (lean_items under kept ds)
  lean under kept (object ms) = object (lean_members under kept ms)

  pub lean_items : {K : Type 0} → (K → List ℕ → Option K) → K → Items → Items
  lean_items under kept no_items = no_items
  lean_items under kept (item d ds) = item (lean under kept d) (lean_items under kept ds)

  pub lean_members : {K : Type 0} → (K → List ℕ → Option K) → K → Members → Members
  lean_members under kept no_members = no_members
  lean_members under kept (member name d ms) =
      with_member name (option_map (λ inner. lean under inner d) (under kept name))
      (lean_members under kept ms)
