-- The fields of a JSON value. A field whose value is null counts as missing (own).
use Rattle.std.specs.Prelude.{ℕ, ◌==◌, ◌||◌, Bool, true, false, length, List, [], ◌∷◌, map, Option}
use Rattle.std.specs.Prelude.{Some, None, option_map, option_and_then, unwrap_or, is_none, is_some}
use Rattle.std.specs.Prelude.{if◌then◌else◌, codes}
use Rattle.std.specs.List.{list_all}
use Rattle.serde_json.specs.Data.{Data, null, boolean, number, string, array, object, Items}
use Rattle.serde_json.specs.Data.{no_items, item}
use Rattle.serde_json.specs.Find.{get, as_bool, as_str, as_array, as_object}

-- what `f` makes of a value, if the value isn't missing
infixr 5 ◌>>=◌
abbrev pub ◌>>=◌ : {A B : Type 0} → Option A → (A → Option B) → Option B
None >>= f = None
(Some x) >>= f = f x

-- a value, unless it is null
abbrev pub present : Data → Option Data
present null = None
present (boolean b) = Some (boolean b)
present (number n) = Some (number n)
present (string s) = Some (string s)
present (array ds) = Some (array ds)
present (object ms) = Some (object ms)

-- the value of the field with this name, unless it is missing or null
unfoldable pub field : List ℕ → Data → Option Data
field name d = option_and_then present (get name d)

-- items as a list
abbrev pub elements : Items → List Data
elements no_items = []
elements (item d ds) = d ∷ elements ds

-- the items of a list
unfoldable pub as_list : Data → Option (List Data)
as_list d = option_map elements (as_array d)

-- a list, empty if it is missing
abbrev pub list_or_empty : Option Data → Option (List Data)
list_or_empty None = Some []
list_or_empty (Some d) = as_list d

-- the items of the list in a field
unfoldable pub list_field : List ℕ → Data → Option (List Data)
list_field name d = list_or_empty (field name d)

-- whether a value is a text
abbrev pub is_text : Data → Bool
is_text d = is_some (as_str d)

-- the text of a value; empty if it isn't a text
abbrev pub text_in : Data → List ℕ
text_in d = unwrap_or (as_str d) []

-- the texts of the items, if each item is a text
unfoldable pub all_texts : List Data → Option (List (List ℕ))
all_texts ds = if list_all is_text ds then Some (map text_in ds) else None

-- the texts of a field that is a list of texts
unfoldable pub texts_field : List ℕ → Data → Option (List (List ℕ))
texts_field name d = option_and_then all_texts (list_field name d)

-- whether a value is an object
abbrev pub is_object : Data → Bool
is_object d = is_some (as_object d)

-- whether a list or a text is empty
abbrev pub is_empty : {A : Type 0} → List A → Bool
is_empty xs = length xs == 0

-- a text, empty if it is missing
abbrev pub text_or_empty : Option Data → Option (List ℕ)
text_or_empty None = Some []
text_or_empty (Some d) = as_str d

-- the text in a field
unfoldable pub text_at : List ℕ → Data → Option (List ℕ)
text_at name d = text_or_empty (field name d)

-- a text, unless it is empty
abbrev pub non_empty : List ℕ → Option (List ℕ)
non_empty t = if is_empty t then None else Some t

-- a name: a text that isn't empty
unfoldable pub name_at : Data → Option (List ℕ)
name_at d = option_and_then non_empty (text_at (codes "name") d)

-- a boolean, or `missing` if it is missing
abbrev pub flag_or : Bool → Option Data → Option Bool
flag_or missing None = Some missing
flag_or missing (Some d) = as_bool d

-- the boolean in a field
unfoldable pub flag_at : Bool → List ℕ → Data → Option Bool
flag_at missing name d = flag_or missing (field name d)

-- ---- conditions

-- one of these conditions holds
abbrev pub any_of : List Bool → Bool
any_of [] = false
any_of (b ∷ []) = b
any_of (b ∷ c ∷ bs) = b || any_of (c ∷ bs)

-- a value is missing, or it is bad
abbrev pub missing_or : (Data → Bool) → Option Data → Bool
missing_or is_bad None = true
missing_or is_bad (Some d) = is_bad d

-- a value is given, and it is bad
abbrev pub given_and : (Data → Bool) → Option Data → Bool
given_and is_bad None = false
given_and is_bad (Some d) = is_bad d

-- a field is given but isn't a text
abbrev pub is_no_text : List ℕ → Data → Bool
is_no_text name d = is_none (text_at name d)

-- the text of a field; empty if it is missing, or isn't a text
abbrev pub text : List ℕ → Data → List ℕ
text name d = unwrap_or (text_at name d) []

-- a field is given but isn't a list of texts
abbrev pub is_no_texts : List ℕ → Data → Bool
is_no_texts name d = is_none (texts_field name d)

-- the texts of a field; none if it is missing, or isn't a list of texts
abbrev pub texts : List ℕ → Data → List (List ℕ)
texts name d = unwrap_or (texts_field name d) []

-- a field is given but isn't a boolean
abbrev pub is_no_flag : List ℕ → Data → Bool
is_no_flag name d = given_and (λ flag. is_none (as_bool flag)) (field name d)
