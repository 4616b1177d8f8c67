-- a document's text gives the tokens of its JSON value, and is read as that value
use Rattle.std.proofs.Common.{◌≡◌, ℕ, ◌≤◌, false, List, [], ◌∷◌, ◌++◌, map, max, option_and_then, refl, sym, ap, ◌∙◌, arith, append_assoc, append-nil, codes}
use Rattle.json.specs.Token.{Token}
use Rattle.json.specs.Json.{Json, Members, no_members, member, value, if_last}
use Rattle.json.specs.Json as json
use Rattle.json.specs.Tree.{json_tokens, members_tokens, items_depth, depth}
use Rattle.json.specs.Text.{content}
use Rattle.json.specs.Lex.{token, comma, colon, lex, between, fresh, after_value, begins_colon, punctuate, tokens}
use Rattle.json.specs.Print.{quoted}
use Rattle.json.proofs.Printed.Trees.{value-json_tokens}
use Rattle.serde_json.specs.Read.{read, of_json, max_depth}
use Rattle.rbac_terms.specs.Text.{Text}
use Rattle.rbac_terms.specs.Principals.{Who, AsUser, AsMember}
use Rattle.rbac_universe.specs.declared.lists.UniverseLists.{UniverseLists}
use Rattle.rbac_document.specs.Document.{list_text, principal_text, resource_text, member_text, document_text}
use Rattle.rbac_document.proofs.Shapes.{list_json, principal_json, resource_json, lists_json, document_json}
use Rattle.rbac_document.proofs.Spelled.{Spells, json_items, lex-quoted, spells_string}
use Rattle.rbac_document.proofs.SpelledEntries.{spells_list, spells_principal, spells_resource}

lex-member : (name text r : List ℕ) → lex between (member_text name text ++ r) ≡ comma ∷ token (Token.string name) ∷ colon ∷ lex between (text ++ r)
unfolding lex member_text
lex-member name text r =
    let whole : member_text name text ++ r ≡ codes ",\n  " ++ (quoted name ++ (codes ": " ++ (text ++ r))) = simp append_assoc in
    ap (λ l. lex between l) whole ∙ ap (λ l. comma ∷ l) (lex-quoted name (codes ": " ++ (text ++ r)))

-- after a value, the text gives the members, and with them the object ends
record Ends (text : List ℕ) (ms : Members) : Type 0 where
  no_colon : begins_colon (lex between text) ≡ false
  placed : punctuate after_value (lex between text) ≡ members_tokens ms

-- a list under its name, and what follows
list_ends : {X : Type 0} (text : X → List ℕ) (value : X → Json) → ((x : X) → Spells (text x) (value x)) → (name : List ℕ) (xs : List X) (r : List ℕ) (ms : Members) → Ends r ms
    → Ends (member_text name (list_text text xs) ++ r) (member name (list_json value xs) ms)
unfolding punctuate
list_ends text value each name xs r ms ends =
    let named = lex-member name (list_text text xs) r in
    record {
      no_colon = ap begins_colon named;
      placed = ap (punctuate after_value) named
          ∙ ap (λ l. Token.key name ∷ l)
          (spells_list text value each xs fresh r refl ends.no_colon ∙ ap (λ l. json_tokens (list_json value xs) ++ l) ends.placed);
    }

abbrev start : List ℕ
start = codes "{\n  \"apiVersion\": \"rbacaudit/v1\",\n  \"kind\": \"Universe\""

start_placed : (r : List ℕ) → begins_colon (lex between r) ≡ false
    → punctuate fresh (lex between (start ++ r)) ≡ Token.begin_object ∷ Token.key (codes "apiVersion") ∷ Token.string (codes "rbacaudit/v1") ∷ Token.key (codes "kind") ∷ Token.string (codes "Universe") ∷ punctuate after_value (lex between r)
unfolding lex content punctuate
start_placed r none = rw none refl

end_ends : Ends (codes "\n}\n") no_members
unfolding lex punctuate
end_ends = record { no_colon = refl; placed = refl }

pub document_tokens : (lists : UniverseLists) → tokens (document_text lists) ≡ json_tokens (document_json lists)
document_tokens lists =
    let r6 : List ℕ = codes "\n}\n" in
    let r5 : List ℕ = member_text (codes "urls") (list_text quoted lists.urls) ++ r6 in
    let r4 : List ℕ = member_text (codes "names") (list_text quoted lists.names) ++ r5 in
    let r3 : List ℕ = member_text (codes "resources") (list_text resource_text lists.resources) ++ r4 in
    let r2 : List ℕ = member_text (codes "verbs") (list_text quoted lists.verbs) ++ r3 in
    let r1 : List ℕ = member_text (codes "namespaces") (list_text quoted lists.namespaces) ++ r2 in
    let r0 : List ℕ = member_text (codes "principals") (list_text principal_text lists.principals) ++ r1 in
    let e5 = list_ends quoted json.string spells_string (codes "urls") lists.urls r6 no_members end_ends in
    let e4 = list_ends quoted json.string spells_string (codes "names") lists.names r5 _ e5 in
    let e3 = list_ends resource_text resource_json spells_resource (codes "resources") lists.resources r4 _ e4 in
    let e2 = list_ends quoted json.string spells_string (codes "verbs") lists.verbs r3 _ e3 in
    let e1 = list_ends quoted json.string spells_string (codes "namespaces") lists.namespaces r2 _ e2 in
    let e0 : Ends r0 (lists_json lists) = list_ends principal_text principal_json spells_principal (codes "principals") lists.principals r1 _ e1 in
    let whole : document_text lists ≡ start ++ r0 = simp append_assoc in
    ap tokens whole
    ∙ start_placed r0 e0.no_colon
    ∙ ap (λ l. Token.begin_object ∷ Token.key (codes "apiVersion") ∷ Token.string (codes "rbacaudit/v1") ∷ Token.key (codes "kind") ∷ Token.string (codes "Universe") ∷ l) e0.placed

-- ---- how deep it nests

max_within : (a b n : ℕ) → a ≤ n → b ≤ n → max a b ≤ n
max_within a b n p q = omega (arith, p, q)

items_within : {X : Type 0} (value : X → Json) (n : ℕ) → ((x : X) → depth (value x) ≤ n) → (xs : List X) → items_depth (json_items (map value xs)) ≤ n
items_within value n each [] = omega arith
items_within value n each (x ∷ xs) = max_within (depth (value x)) (items_depth (json_items (map value xs))) n (each x) (items_within value n each xs)

words_within : (words : List Text) → items_depth (json_items (map json.string words)) ≤ 0
words_within words = items_within json.string 0 (λ word. omega arith) words

principal_within : (who : Who) → depth (principal_json who) ≤ 2
principal_within (AsUser name []) = omega arith
principal_within (AsUser name (g ∷ gs)) = omega (arith, words_within (g ∷ gs))
principal_within (AsMember group) = omega arith

document_within : (lists : UniverseLists) → depth (document_json lists) ≤ max_depth
document_within lists =
    omega (
      arith,
      items_within principal_json 2 principal_within lists.principals,
      words_within lists.namespaces,
      words_within lists.verbs,
      items_within resource_json 1 (λ r. omega arith) lists.resources,
      words_within lists.names,
      words_within lists.urls,
    )

-- ---- the value that is read

pub document_read : (lists : UniverseLists) → read (document_text lists) ≡ of_json (document_json lists)
document_read lists =
    let j = document_json lists in
    ap (λ ts. option_and_then of_json (option_and_then (λ p. if_last p.0 p.1) (value max_depth ts))) (document_tokens lists ∙ sym (append-nil (json_tokens j)))
    ∙ ap (λ o. option_and_then of_json (option_and_then (λ p. if_last p.0 p.1) o)) (value-json_tokens j max_depth [] (document_within lists))
