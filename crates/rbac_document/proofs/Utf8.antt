-- the document of lists that JSON can carry is UTF-8
use Rattle.std.proofs.Common.{◌≡◌, ℕ, Bool, true, false, List, [], ◌∷◌, ◌++◌, All, refl, codes}
use Rattle.std.specs.List.{flat_map, join_by}
use Rattle.std.specs.Str.{IsUtf8}
use Rattle.std.proofs.lemmas.List.Elements.{All-head, All-tail}
use Rattle.std.proofs.lemmas.Str.{IsUtf8-append, IsUtf8-nil}
use Rattle.json.specs.Print.{quoted}
use Rattle.json.proofs.Printed.Utf8.{are_ascii, IsUtf8-are_ascii, IsUtf8-quoted}
use Rattle.rbac_terms.specs.Text.{Text}
use Rattle.rbac_terms.specs.Principals.{Who, who_name, given_of}
use Rattle.rbac_universe.specs.declared.lists.ListedResource.{ListedResource}
use Rattle.rbac_universe.specs.declared.lists.UniverseLists.{UniverseLists}
use Rattle.rbac_document.specs.Document.{IsReadable, AreReadable, list_text, groups_text, is_user, before_name, principal_text, rest_of_resource, resource_text, member_text, document_text}

module _ {X : Type 0} (text : X → List ℕ) (P : X → Type 0) (each : (x : X) → P x → IsUtf8 (text x)) (separator : List ℕ) (plain : IsUtf8 separator) where
  utf8_others : (xs : List X) → All P xs → IsUtf8 (flat_map (λ x. separator ++ text x) xs)
  utf8_others [] all = IsUtf8-nil
  utf8_others (x ∷ xs) all =
      IsUtf8-append (separator ++ text x) _ (IsUtf8-append separator (text x) plain (each x (All-head P x xs all))) (utf8_others xs (All-tail P x xs all))

  utf8_joined : (xs : List X) → All P xs → IsUtf8 (join_by text separator xs)
  utf8_joined [] all = IsUtf8-nil
  utf8_joined (x ∷ xs) all = IsUtf8-append (text x) _ (each x (All-head P x xs all)) (utf8_others xs (All-tail P x xs all))

utf8_list : {X : Type 0} (text : X → List ℕ) (P : X → Type 0) → ((x : X) → P x → IsUtf8 (text x)) → (xs : List X) → All P xs → IsUtf8 (list_text text xs)
utf8_list text P each [] all = IsUtf8-are_ascii (codes "[]") refl
utf8_list text P each (x ∷ xs) all =
    IsUtf8-append (codes "[\n    " ++ join_by text (codes ",\n    ") (x ∷ xs)) (codes "\n  ]")
    (IsUtf8-append (codes "[\n    ") _ (IsUtf8-are_ascii (codes "[\n    ") refl) (utf8_joined text P each (codes ",\n    ") (IsUtf8-are_ascii (codes ",\n    ") refl) (x ∷ xs) all))
    (IsUtf8-are_ascii (codes "\n  ]") refl)

utf8_words : (words : List Text) → All IsUtf8 words → IsUtf8 (list_text quoted words)
utf8_words words all = utf8_list quoted IsUtf8 IsUtf8-quoted words all

utf8_groups : (groups : List Text) → All IsUtf8 groups → IsUtf8 (groups_text groups)
utf8_groups [] all = IsUtf8-nil
utf8_groups (g ∷ gs) all =
    IsUtf8-append (codes ", \"groups\": [" ++ join_by quoted (codes ", ") (g ∷ gs)) (codes "]")
    (IsUtf8-append (codes ", \"groups\": [") _ (IsUtf8-are_ascii (codes ", \"groups\": [") refl) (utf8_joined quoted IsUtf8 IsUtf8-quoted (codes ", ") (IsUtf8-are_ascii (codes ", ") refl) (g ∷ gs) all))
    (IsUtf8-are_ascii (codes "]") refl)

utf8_before : (b : Bool) → IsUtf8 (before_name b)
utf8_before true = IsUtf8-are_ascii (before_name true) refl
utf8_before false = IsUtf8-are_ascii (before_name false) refl

utf8_principal : (who : Who) → IsReadable who → IsUtf8 (principal_text who)
utf8_principal who can =
    IsUtf8-append (before_name (is_user who) ++ quoted (who_name who) ++ groups_text (given_of who)) (codes "}")
    (IsUtf8-append (before_name (is_user who) ++ quoted (who_name who)) _
    (IsUtf8-append (before_name (is_user who)) _ (utf8_before (is_user who)) (IsUtf8-quoted (who_name who) can.name)) (utf8_groups (given_of who) can.given))
    (IsUtf8-are_ascii (codes "}") refl)

utf8_rest : (b : Bool) → IsUtf8 (rest_of_resource b)
utf8_rest true = IsUtf8-are_ascii (rest_of_resource true) refl
utf8_rest false = IsUtf8-are_ascii (rest_of_resource false) refl

utf8_resource : (r : ListedResource) → (IsUtf8 r.group × IsUtf8 r.text) → IsUtf8 (resource_text r)
utf8_resource r can =
    IsUtf8-append (codes "{\"group\": " ++ quoted r.group ++ codes ", \"resource\": " ++ quoted r.text) _
    (IsUtf8-append (codes "{\"group\": " ++ quoted r.group ++ codes ", \"resource\": ") (quoted r.text)
    (IsUtf8-append (codes "{\"group\": " ++ quoted r.group) (codes ", \"resource\": ")
    (IsUtf8-append (codes "{\"group\": ") _ (IsUtf8-are_ascii (codes "{\"group\": ") refl) (IsUtf8-quoted r.group can.0))
    (IsUtf8-are_ascii (codes ", \"resource\": ") refl))
    (IsUtf8-quoted r.text can.1))
    (utf8_rest r.namespaced)

utf8_member : (name text : List ℕ) → IsUtf8 (quoted name) → IsUtf8 text → IsUtf8 (member_text name text)
unfolding member_text
utf8_member name text n t =
    IsUtf8-append (codes ",\n  " ++ quoted name ++ codes ": ") text
    (IsUtf8-append (codes ",\n  " ++ quoted name) (codes ": ") (IsUtf8-append (codes ",\n  ") (quoted name) (IsUtf8-are_ascii (codes ",\n  ") refl) n) (IsUtf8-are_ascii (codes ": ") refl))
    t

utf8_name : (name : List ℕ) → are_ascii name ≡ true → IsUtf8 (quoted name)
utf8_name name e = IsUtf8-quoted name (IsUtf8-are_ascii name e)

-- one more member
with_member : (before name text : List ℕ) → IsUtf8 before → are_ascii name ≡ true → IsUtf8 text → IsUtf8 (before ++ member_text name text)
with_member before name text b n t = IsUtf8-append before (member_text name text) b (utf8_member name text (utf8_name name n) t)

pub utf8_document : (lists : UniverseLists) → AreReadable lists → IsUtf8 (document_text lists)
utf8_document lists can =
    let start : List ℕ = codes "{\n  \"apiVersion\": \"rbacaudit/v1\",\n  \"kind\": \"Universe\"" in
    IsUtf8-append _ (codes "\n}\n")
    (with_member _ (codes "urls") (list_text quoted lists.urls)
    (with_member _ (codes "names") (list_text quoted lists.names)
    (with_member _ (codes "resources") (list_text resource_text lists.resources)
    (with_member _ (codes "verbs") (list_text quoted lists.verbs)
    (with_member _ (codes "namespaces") (list_text quoted lists.namespaces)
    (with_member start (codes "principals") (list_text principal_text lists.principals)
    (IsUtf8-are_ascii start refl) refl (utf8_list principal_text IsReadable utf8_principal lists.principals can.principals))
    refl (utf8_words lists.namespaces can.namespaces))
    refl (utf8_words lists.verbs can.verbs))
    refl (utf8_list resource_text (λ r. IsUtf8 r.group × IsUtf8 r.text) utf8_resource lists.resources can.resources))
    refl (utf8_words lists.names can.names))
    refl (utf8_words lists.urls can.urls))
    (IsUtf8-are_ascii (codes "\n}\n") refl)
