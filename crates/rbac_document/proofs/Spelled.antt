-- texts that a JSON reader takes for a value, piece by piece
use Rattle.std.proofs.Common.{◌≡◌, ℕ, Bool, true, false, List, [], ◌∷◌, ◌++◌, map, refl, sym, ap, ap₂, ◌∙◌, append_assoc}
use Rattle.std.specs.List.{flat_map, join_by}
use Rattle.json.specs.Token.{Token}
use Rattle.json.specs.Json.{Json, Items, no_items, item, Members, no_members, member}
use Rattle.json.specs.Json as json
use Rattle.json.specs.Tree.{json_tokens, items_tokens}
use Rattle.json.specs.Lex.{Lexeme, token, comma, string_token, lex, between, Place, fresh, after_value, after_comma, after_key, begins_colon, may_begin, punctuate}
use Rattle.json.specs.Print.{escape, quoted}
use Rattle.json.proofs.Printed.Strings.{content-escape, lex-escape}

-- where a value may begin, the text gives its tokens, whatever follows
abbrev pub Spells : List ℕ → Json → Type 0
Spells text j = (p : Place) (r : List ℕ) → may_begin p ≡ true → begins_colon (lex between r) ≡ false
    → punctuate p (lex between (text ++ r)) ≡ json_tokens j ++ punctuate after_value (lex between r)

pub lex-quoted : (s r : List ℕ) → lex between (quoted s ++ r) ≡ token (Token.string s) ∷ lex between r
unfolding lex
lex-quoted s r =
    ap (λ l. lex between (34 ∷ l)) (append_assoc (escape s) (34 ∷ []) r)
    ∙ ap₂ (λ o l. token (string_token o) ∷ l) (content-escape s r) (lex-escape s r)

string_placed : (s : List ℕ) (p : Place) (b : Bool) (ls : List Lexeme) → may_begin p ≡ true → begins_colon ls ≡ false → punctuate p (token (Token.string s) ∷ ls) ≡ Token.string s ∷ punctuate after_value ls
unfolding punctuate
string_placed s fresh b ls may none = rw none refl
string_placed s after_value b ls may none = cc
string_placed s after_comma b ls may none = rw none refl
string_placed s after_key b ls may none = cc

pub spells_string : (s : List ℕ) → Spells (quoted s) (json.string s)
spells_string s p r may none = ap (punctuate p) (lex-quoted s r) ∙ string_placed s p true (lex between r) may none

-- the items of a list
abbrev pub json_items : List Json → Items
json_items [] = no_items
json_items (j ∷ js) = item j (json_items js)

pub array_placed : (p : Place) (ls : List Lexeme) → may_begin p ≡ true → punctuate p (token Token.begin_array ∷ ls) ≡ Token.begin_array ∷ punctuate fresh ls
unfolding punctuate
array_placed fresh ls may = refl
array_placed after_value ls may = cc
array_placed after_comma ls may = refl
array_placed after_key ls may = cc

object_placed : (p : Place) (ls : List Lexeme) → may_begin p ≡ true → punctuate p (token Token.begin_object ∷ ls) ≡ Token.begin_object ∷ punctuate fresh ls
unfolding punctuate
object_placed fresh ls may = refl
object_placed after_value ls may = cc
object_placed after_comma ls may = refl
object_placed after_key ls may = cc

-- an object is opened where a value may begin
pub opened : {ls : List Lexeme} (p : Place) (text : List ℕ) → may_begin p ≡ true → lex between text ≡ token Token.begin_object ∷ ls → punctuate p (lex between text) ≡ Token.begin_object ∷ punctuate fresh ls
opened {ls} p text may e = ap (punctuate p) e ∙ object_placed p ls may

module _ {X : Type 0} (text : X → List ℕ) (value : X → Json) (each : (x : X) → Spells (text x) (value x)) (opening separator closing : List ℕ)
    (opens : (r : List ℕ) → lex between (opening ++ r) ≡ token Token.begin_array ∷ lex between r)
    (separates : (r : List ℕ) → lex between (separator ++ r) ≡ comma ∷ lex between r)
    (closes : (r : List ℕ) → lex between (closing ++ r) ≡ token Token.end_array ∷ lex between r) where
  abbrev others : List X → List ℕ → List ℕ
  others xs r = flat_map (λ x. separator ++ text x) xs ++ (closing ++ r)

  one_more : (x : X) (xs : List X) (r : List ℕ) → others (x ∷ xs) r ≡ separator ++ (text x ++ others xs r)
  one_more x xs r = simp append_assoc

  no_colon : (xs : List X) (r : List ℕ) → begins_colon (lex between (others xs r)) ≡ false
  no_colon [] r = ap begins_colon (closes r)
  no_colon (x ∷ xs) r = ap (λ l. begins_colon (lex between l)) (one_more x xs r) ∙ ap begins_colon (separates (text x ++ others xs r))

  others_placed : (xs : List X) (r : List ℕ) → punctuate after_value (lex between (others xs r)) ≡ items_tokens (json_items (map value xs)) ++ punctuate after_value (lex between r)
  unfolding punctuate
  others_placed [] r = ap (punctuate after_value) (closes r)
  others_placed (x ∷ xs) r =
      ap (λ l. punctuate after_value (lex between l)) (one_more x xs r)
      ∙ ap (punctuate after_value) (separates (text x ++ others xs r))
      ∙ each x after_comma (others xs r) refl (no_colon xs r)
      ∙ ap (λ l. json_tokens (value x) ++ l) (others_placed xs r)
      ∙ sym (append_assoc (json_tokens (value x)) (items_tokens (json_items (map value xs))) (punctuate after_value (lex between r)))

  pub spells_array : (x : X) (xs : List X) → Spells (opening ++ join_by text separator (x ∷ xs) ++ closing) (json.array (json_items (map value (x ∷ xs))))
  spells_array x xs p r may none =
      let whole : (opening ++ join_by text separator (x ∷ xs) ++ closing) ++ r ≡ opening ++ (text x ++ others xs r) = simp append_assoc in
      ap (λ l. punctuate p (lex between l)) whole
      ∙ ap (punctuate p) (opens (text x ++ others xs r))
      ∙ array_placed p (lex between (text x ++ others xs r)) may
      ∙ ap (λ l. Token.begin_array ∷ l)
      (each x fresh (others xs r) refl (no_colon xs r)
      ∙ ap (λ l. json_tokens (value x) ++ l) (others_placed xs r)
      ∙ sym (append_assoc (json_tokens (value x)) (items_tokens (json_items (map value xs))) (punctuate after_value (lex between r))))
