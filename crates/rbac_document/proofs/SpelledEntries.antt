-- entries and lists of a document are spelled as their JSON values
use Rattle.std.proofs.Common.{◌≡◌, ℕ, Bool, true, false, List, [], ◌∷◌, ◌++◌, refl, sym, ap, ◌∙◌, append_assoc, append-nil, codes}
use Rattle.std.specs.List.{join_by}
use Rattle.json.specs.Token.{Token}
use Rattle.json.specs.Json.{Json}
use Rattle.json.specs.Json as json
use Rattle.json.specs.Tree.{json_tokens}
use Rattle.json.specs.Text.{content}
use Rattle.json.specs.Word.{word}
use Rattle.json.specs.Lex.{token, comma, colon, lex, between, Place, fresh, after_value, may_begin, punctuate}
use Rattle.json.specs.Print.{quoted}
use Rattle.rbac_terms.specs.Text.{Text}
use Rattle.rbac_terms.specs.Principals.{Who, AsUser, AsMember}
use Rattle.rbac_universe.specs.declared.lists.ListedResource.{ListedResource}
use Rattle.rbac_document.specs.Document.{list_text, principal_text, resource_text, rest_of_resource}
use Rattle.rbac_document.proofs.Shapes.{list_json, principal_json, resource_json}
use Rattle.rbac_document.proofs.Spelled.{Spells, lex-quoted, spells_string, spells_array, opened, array_placed}

empty_placed : (p : Place) (r : List ℕ) → may_begin p ≡ true → punctuate p (lex between (codes "[]" ++ r)) ≡ Token.begin_array ∷ Token.end_array ∷ punctuate after_value (lex between r)
unfolding lex punctuate
empty_placed p r may = array_placed p (token Token.end_array ∷ lex between r) may

-- a list, each entry on a line of its own
pub spells_list : {X : Type 0} (text : X → List ℕ) (value : X → Json) → ((x : X) → Spells (text x) (value x)) → (xs : List X) → Spells (list_text text xs) (list_json value xs)
unfolding lex
spells_list text value each [] = λ p r may none. empty_placed p r may
spells_list text value each (x ∷ xs) =
    spells_array text value each (codes "[\n    ") (codes ",\n    ") (codes "\n  ]") (λ r. refl) (λ r. refl) (λ r. refl) x xs

-- groups, on one line
spells_groups : (g : Text) (gs : List Text) → Spells (codes "[" ++ join_by quoted (codes ", ") (g ∷ gs) ++ codes "]") (list_json json.string (g ∷ gs))
unfolding lex
spells_groups g gs =
    spells_array quoted json.string spells_string (codes "[") (codes ", ") (codes "]") (λ r. refl) (λ r. refl) (λ r. refl) g gs

-- what follows from the name on, in an object
lex-user : (name r : List ℕ) → lex between (codes "{\"user\": " ++ (quoted name ++ r)) ≡ token Token.begin_object ∷ token (Token.string (codes "user")) ∷ colon ∷ token (Token.string name) ∷ lex between r
unfolding lex content
lex-user name r = ap (λ l. token Token.begin_object ∷ token (Token.string (codes "user")) ∷ colon ∷ l) (lex-quoted name r)

lex-group : (name r : List ℕ) → lex between (codes "{\"group\": " ++ (quoted name ++ r)) ≡ token Token.begin_object ∷ token (Token.string (codes "group")) ∷ colon ∷ token (Token.string name) ∷ lex between r
unfolding lex content
lex-group name r = ap (λ l. token Token.begin_object ∷ token (Token.string (codes "group")) ∷ colon ∷ l) (lex-quoted name r)

lex-resource : (text r : List ℕ) → lex between (codes ", \"resource\": " ++ (quoted text ++ r)) ≡ comma ∷ token (Token.string (codes "resource")) ∷ colon ∷ token (Token.string text) ∷ lex between r
unfolding lex content
lex-resource text r = ap (λ l. comma ∷ token (Token.string (codes "resource")) ∷ colon ∷ l) (lex-quoted text r)

lex-flag : (b : Bool) (r : List ℕ) → lex between (rest_of_resource b ++ r) ≡ comma ∷ token (Token.string (codes "namespaced")) ∷ colon ∷ token (Token.boolean b) ∷ token Token.end_object ∷ lex between r
unfolding lex content word
lex-flag true r = refl
lex-flag false r = refl

pub spells_resource : (r : ListedResource) → Spells (resource_text r) (resource_json r)
unfolding punctuate
spells_resource r p rest may none =
    let flag = rest_of_resource r.namespaced ++ rest in
    let after_group = codes ", \"resource\": " ++ (quoted r.text ++ flag) in
    let whole : resource_text r ++ rest ≡ codes "{\"group\": " ++ (quoted r.group ++ after_group) = simp append_assoc in
    ap (λ l. punctuate p (lex between l)) whole
    ∙ opened p (codes "{\"group\": " ++ (quoted r.group ++ after_group)) may
    (lex-group r.group after_group
    ∙ ap (λ l. token Token.begin_object ∷ token (Token.string (codes "group")) ∷ colon ∷ token (Token.string r.group) ∷ l)
    (lex-resource r.text flag ∙ ap (λ l. comma ∷ token (Token.string (codes "resource")) ∷ colon ∷ token (Token.string r.text) ∷ l) (lex-flag r.namespaced rest)))

pub spells_principal : (who : Who) → Spells (principal_text who) (principal_json who)
unfolding punctuate lex content
spells_principal (AsMember group) p rest may none =
    let whole : principal_text (AsMember group) ++ rest ≡ codes "{\"group\": " ++ (quoted group ++ (125 ∷ rest)) = simp (append_assoc, append-nil) in
    ap (λ l. punctuate p (lex between l)) whole ∙ opened p (codes "{\"group\": " ++ (quoted group ++ (125 ∷ rest))) may (lex-group group (125 ∷ rest))
spells_principal (AsUser name []) p rest may none =
    let whole : principal_text (AsUser name []) ++ rest ≡ codes "{\"user\": " ++ (quoted name ++ (125 ∷ rest)) = simp (append_assoc, append-nil) in
    ap (λ l. punctuate p (lex between l)) whole ∙ opened p (codes "{\"user\": " ++ (quoted name ++ (125 ∷ rest))) may (lex-user name (125 ∷ rest))
spells_principal (AsUser name (g ∷ gs)) p rest may none =
    let list = codes "[" ++ join_by quoted (codes ", ") (g ∷ gs) ++ codes "]" in
    let after_name = codes ", \"groups\": " ++ (list ++ (125 ∷ rest)) in
    let whole : principal_text (AsUser name (g ∷ gs)) ++ rest ≡ codes "{\"user\": " ++ (quoted name ++ after_name) = simp append_assoc in
    ap (λ l. punctuate p (lex between l)) whole
    ∙ opened p (codes "{\"user\": " ++ (quoted name ++ after_name)) may (lex-user name after_name)
    ∙ ap (λ l. Token.begin_object ∷ Token.key (codes "user") ∷ Token.string name ∷ Token.key (codes "groups") ∷ l)
    (spells_groups g gs fresh (125 ∷ rest) refl refl
    ∙ sym (append_assoc (json_tokens (list_json json.string (g ∷ gs))) (Token.end_object ∷ []) (punctuate after_value (lex between rest))))
