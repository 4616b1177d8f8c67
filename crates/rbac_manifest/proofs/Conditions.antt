-- What the conditions of the table of refusals call bad is what gives nothing when it is read.
use Rattle.std.proofs.Common.{◌≡◌, ◌||◌, ◌&&◌, ◌+◌, ℕ, Bool, true, false, not, List, [], ◌∷◌, codes, Option, Some, None, option_map, option_and_then, unwrap_or, is_none, is_some, cond, refl, sym, ap₂, ◌∙◌}
use Rattle.std.specs.List.{list_any, position_from}
use Rattle.rbac_terms.specs.Targets.{is_path}
use Rattle.std.specs.Str.{bytes_eq}
use Rattle.serde_json.specs.Data.{Data}
use Rattle.serde_json.specs.Find.{as_bool, as_str}
use Rattle.rbac_terms.specs.Text.{Text}
use Rattle.json_fields.specs.Fields.{◌>>=◌, field, list_field, all_texts, texts_field, text_at, name_at, flag_or, flag_at, is_text, is_object, is_empty, non_empty, missing_or, given_and, text, texts, is_no_text, is_no_texts, is_no_flag, any_of}
use Rattle.json_fields.specs.Lists.{bad_place, cons_if, all_at}
use Rattle.rbac_manifest.specs.Lists.{is_bad_list}
use Rattle.rbac_manifest.specs.Metadata.{is_bad_metadata, metadata_in, metadata_from, metadata_at}
use Rattle.rbac_manifest.specs.Rule.{rule_in, is_bad_rule, rule_at}
use Rattle.rbac_manifest.specs.Binding.{is_rbac_group, role_named, role_ref_from, role_ref_at, is_bad_role_ref, subject_named, subject_from, subject_at, is_bad_subject}
use Rattle.rbac_manifest.specs.Label.{labels_at, operator_named, requirement_from, requirement_at, selector_from, selector_at, selectors_from, aggregation_of, aggregation_at, is_bad_requirement, is_bad_selector, is_bad_aggregation}
use Rattle.rbac_manifest.specs.ApiList.{parts, group_by, are_one_or_two, group_of, resource_name_at, entry_at, entries_at, is_bad_group_version, is_bad_entry, is_bad_api_list}
use Rattle.rbac_manifest.specs.UniverseDocument.{name_in, user_at, member_at, principal_by, principal_at, resource_at, items_field, where_given, given_lists_at, is_bad_name, is_bad_principal, is_bad_resource, is_bad_universe}
use Rattle.rbac_manifest.specs.Group.{is_bad_group}

-- ---- booleans

or_is : {a b c d : Bool} → a ≡ b → c ≡ d → (a || c) ≡ (b || d)
or_is p q = ap₂ (λ x y. x || y) p q

or_assoc : (a b c : Bool) → ((a || b) || c) ≡ (a || (b || c))
or_assoc true b c = refl
or_assoc false b c = refl

or_false : (a : Bool) → (a || false) ≡ a
or_false true = refl
or_false false = refl

-- ---- steps of a reader

-- the second step is taken with what the first gave
then_bad : {A B : Type 0} (o : Option A) (missing : A) (f : A → Option B) → is_none (o >>= f) ≡ (is_none o || is_none (f (unwrap_or o missing)))
then_bad None missing f = refl
then_bad (Some x) missing f = refl

-- whether the second step gives nothing doesn't depend on what the first gave
then_other : {A B : Type 0} (o : Option A) (f : A → Option B) (c : Bool) → ((x : A) → is_none (f x) ≡ c) → is_none (o >>= f) ≡ (is_none o || c)
then_other None f c e = refl
then_other (Some x) f c e = e x

-- the second step always gives something
then_some : {A B : Type 0} (o : Option A) (f : A → B) → is_none (o >>= λ x. Some (f x)) ≡ is_none o
then_some None f = refl
then_some (Some x) f = refl

none_map : {A B : Type 0} (f : A → B) (o : Option A) → is_none (option_map f o) ≡ is_none o
none_map f None = refl
none_map f (Some x) = refl

none_not_some : {A : Type 0} (o : Option A) → is_none o ≡ not (is_some o)
none_not_some None = refl
none_not_some (Some x) = refl

none_if : {A : Type 0} (b : Bool) (x : A) → is_none (cond b None (Some x)) ≡ b
none_if true x = refl
none_if false x = refl

some_if : {A : Type 0} (b : Bool) (x : A) → is_none (cond b (Some x) None) ≡ not b
some_if true x = refl
some_if false x = refl

none_or : {A : Type 0} (b : Bool) (o : Option A) → is_none (cond b None o) ≡ (b || is_none o)
none_or true o = refl
none_or false o = refl

none_unless : {A : Type 0} (b : Bool) (o : Option A) → is_none (cond b o None) ≡ (not b || is_none o)
none_unless true o = refl
none_unless false o = refl

missing_is : {A : Type 0} (read : Data → Option A) (is_bad : Data → Bool) → ((d : Data) → is_none (read d) ≡ is_bad d) → (o : Option Data) → is_none (option_and_then read o) ≡ missing_or is_bad o
missing_is read is_bad e None = refl
missing_is read is_bad e (Some d) = e d

no_name : (o : Option (List ℕ)) → is_none (option_and_then non_empty o) ≡ is_empty (unwrap_or o [])
no_name None = refl
no_name (Some t) = none_if (is_empty t) t

no_flag_or : (missing : Bool) (o : Option Data) → is_none (flag_or missing o) ≡ given_and (λ flag. is_none (as_bool flag)) o
no_flag_or missing None = refl
no_flag_or missing (Some flag) = refl

no_flag : (missing : Bool) (name : List ℕ) (d : Data) → is_none (flag_at missing name d) ≡ is_no_flag name d
unfolding flag_at
no_flag missing name d = no_flag_or missing (field name d)

-- ---- lists

no_cons : {A : Type 0} (o : Option A) (rest : Option (List A)) → is_none (cons_if o rest) ≡ (is_none o || is_none rest)
no_cons None rest = refl
no_cons (Some x) rest = none_map (λ xs. x ∷ xs) rest

module _ {A : Type 0} (read : Data → Option A) (is_bad : Data → Bool) (each : (d : Data) → is_none (read d) ≡ is_bad d) where
  place_is : (i : ℕ) (ds : List Data) → position_from (λ d. is_none (read d)) i ds ≡ position_from is_bad i ds
  place_is i [] = refl
  place_is i (d ∷ ds) = ap₂ (λ b rest. cond b (Some i) rest) (each d) (place_is (i + 1) ds)

  first_is : (ds : List Data) → bad_place read 0 ds ≡ position_from is_bad 0 ds
  unfolding bad_place
  first_is ds = place_is 0 ds

  any_is : (ds : List Data) → is_none (all_at read ds) ≡ list_any is_bad ds
  any_is [] = refl
  any_is (d ∷ ds) = no_cons (read d) (all_at read ds) ∙ or_is (each d) (any_is ds)

  list_is : (o : Option (List Data)) → is_none (o >>= all_at read) ≡ is_bad_list is_bad o
  list_is None = refl
  list_is (Some ds) = any_is ds

  list_and_then_is : (o : Option (List Data)) → is_none (option_and_then (all_at read) o) ≡ is_bad_list is_bad o
  list_and_then_is None = refl
  list_and_then_is (Some ds) = any_is ds

-- ---- M4

metadata_from_is : (m : Data) → is_none (metadata_from m) ≡ is_bad_metadata m
unfolding metadata_from
metadata_from_is m = none_if (is_bad_metadata m) (metadata_in m)

pub metadata_is : (d : Data) → missing_or is_bad_metadata (field (codes "metadata") d) ≡ is_none (metadata_at d)
unfolding metadata_at
metadata_is d = sym (missing_is metadata_from is_bad_metadata metadata_from_is (field (codes "metadata") d))

-- ---- M5

rule_is : (in_role : Bool) (r : Data) → is_none (rule_at in_role r) ≡ is_bad_rule in_role r
unfolding rule_at
rule_is in_role r = none_if (is_bad_rule in_role r) (rule_in r)

pub rules_are : (in_role : Bool) (ds : List Data) → bad_place (rule_at in_role) 0 ds ≡ position_from (is_bad_rule in_role) 0 ds
rules_are in_role ds = first_is (rule_at in_role) (is_bad_rule in_role) (rule_is in_role) ds

-- ---- M6

no_role : {A : Type 0} (group cluster_role in_namespace role : Bool) (x y : A)
    → is_none (cond (not group) None (cond cluster_role (Some x) (cond (in_namespace && role) (Some y) None))) ≡ (not group || not (cluster_role || (in_namespace && role)))
no_role false c n r x y = refl
no_role true true n r x y = refl
no_role true false n r x y = some_if (n && r) y

bad_role_ref_from : (in_namespace : Bool) (r : Data) → is_none (cond (is_object r) (role_ref_from in_namespace r) None) ≡ is_bad_role_ref in_namespace r
unfolding role_ref_from role_named name_at is_bad_role_ref
bad_role_ref_from in_namespace r =
    let kind = text (codes "kind") r in
    let group = text (codes "apiGroup") r in
    none_unless (is_object r) (role_ref_from in_namespace r)
    ∙ or_is refl (then_bad (text_at (codes "kind") r) [] _
    ∙ or_is refl (then_bad (text_at (codes "apiGroup") r) [] _
    ∙ or_is refl (then_bad (name_at r) [] _
    ∙ or_is (no_name (text_at (codes "name") r))
    (no_role (is_rbac_group group) (bytes_eq kind (codes "ClusterRole")) in_namespace (bytes_eq kind (codes "Role")) _ _))))

pub role_ref_is : (in_namespace : Bool) (d : Data) → missing_or (is_bad_role_ref in_namespace) (field (codes "roleRef") d) ≡ is_none (role_ref_at in_namespace d)
unfolding role_ref_at
role_ref_is in_namespace d = sym (missing_is _ (is_bad_role_ref in_namespace) (bad_role_ref_from in_namespace) (field (codes "roleRef") d))

-- ---- M7

no_subject : {A : Type 0} (user group account rbac core : Bool) (x y z : A)
    → is_none (cond (user && rbac) (Some x) (cond (group && rbac) (Some y) (cond (account && core) (Some z) None))) ≡ not (((user || group) && rbac) || (account && core))
no_subject true g a true e x y z = refl
no_subject true true a false e x y z = some_if (a && e) z
no_subject true false a false e x y z = some_if (a && e) z
no_subject false true a true e x y z = refl
no_subject false true a false e x y z = some_if (a && e) z
no_subject false false a r e x y z = some_if (a && e) z

bad_subject_is : (s : Data) → is_none (subject_at s) ≡ is_bad_subject s
unfolding subject_at subject_from subject_named name_at is_bad_subject
bad_subject_is s =
    let kind = text (codes "kind") s in
    let group = text (codes "apiGroup") s in
    none_unless (is_object s) (subject_from s)
    ∙ or_is refl (then_bad (text_at (codes "kind") s) [] _
    ∙ or_is refl (then_bad (text_at (codes "apiGroup") s) [] _
    ∙ or_is refl (then_bad (name_at s) [] _
    ∙ or_is (no_name (text_at (codes "name") s)) (then_bad (text_at (codes "namespace") s) [] _
    ∙ or_is refl
    (no_subject (bytes_eq kind (codes "User")) (bytes_eq kind (codes "Group")) (bytes_eq kind (codes "ServiceAccount")) (is_rbac_group group) (is_empty group) _ _ _)))))

pub subjects_are : (ds : List Data) → bad_place subject_at 0 ds ≡ position_from is_bad_subject 0 ds
subjects_are ds = first_is subject_at is_bad_subject bad_subject_is ds

-- ---- M8

no_operator : {A : Type 0} (one_of none_of present absent empty : Bool) (w x y z : A)
    → is_none (cond (one_of && not empty) (Some w) (cond (none_of && not empty) (Some x) (cond (present && empty) (Some y) (cond (absent && empty) (Some z) None))))
    ≡ not (((one_of || none_of) && not empty) || ((present || absent) && empty))
no_operator true n p a false w x y z = refl
no_operator true true true a true w x y z = refl
no_operator true true false true true w x y z = refl
no_operator true true false false true w x y z = refl
no_operator true false true a true w x y z = refl
no_operator true false false true true w x y z = refl
no_operator true false false false true w x y z = refl
no_operator false true p a false w x y z = refl
no_operator false true true a true w x y z = refl
no_operator false true false true true w x y z = refl
no_operator false true false false true w x y z = refl
no_operator false false true a true w x y z = refl
no_operator false false true true false w x y z = refl
no_operator false false true false false w x y z = refl
no_operator false false false a e w x y z = some_if (a && e) z

bad_requirement_is : (r : Data) → is_none (requirement_at r) ≡ is_bad_requirement r
unfolding requirement_at requirement_from operator_named is_bad_requirement
bad_requirement_is r =
    let name = text (codes "operator") r in
    let values = texts (codes "values") r in
    none_unless (is_object r) (requirement_from r)
    ∙ or_is refl (then_bad (option_and_then non_empty (text_at (codes "key") r)) [] _
    ∙ or_is (no_name (text_at (codes "key") r)) (then_bad (text_at (codes "operator") r) [] _
    ∙ or_is refl (then_bad (texts_field (codes "values") r) [] _
    ∙ or_is refl (then_some (operator_named name values) _
    ∙ no_operator (bytes_eq name (codes "In")) (bytes_eq name (codes "NotIn")) (bytes_eq name (codes "Exists")) (bytes_eq name (codes "DoesNotExist")) (is_empty values) _ _ _ _))))

bad_selector_is : (s : Data) → is_none (selector_at s) ≡ is_bad_selector s
unfolding selector_at selector_from is_bad_selector
bad_selector_is s =
    none_unless (is_object s) (selector_from s)
    ∙ or_is refl (then_other (labels_at (codes "matchLabels") s) _ (is_bad_list is_bad_requirement (list_field (codes "matchExpressions") s)) (λ labels.
    then_some (option_and_then (all_at requirement_at) (list_field (codes "matchExpressions") s)) _
    ∙ list_and_then_is requirement_at is_bad_requirement bad_requirement_is (list_field (codes "matchExpressions") s)))

bad_aggregation_is : (a : Data) → is_none (selectors_from a) ≡ is_bad_aggregation a
unfolding selectors_from is_bad_aggregation
bad_aggregation_is a =
    none_unless (is_object a) _
    ∙ or_is refl (list_and_then_is selector_at is_bad_selector bad_selector_is (list_field (codes "clusterRoleSelectors") a))

aggregation_of_is : (o : Option Data) → is_none (aggregation_of o) ≡ given_and is_bad_aggregation o
aggregation_of_is None = refl
aggregation_of_is (Some a) = none_map Some (selectors_from a) ∙ bad_aggregation_is a

pub aggregation_is : (d : Data) → given_and is_bad_aggregation (field (codes "aggregationRule") d) ≡ is_none (aggregation_at d)
unfolding aggregation_at
aggregation_is d = sym (aggregation_of_is (field (codes "aggregationRule") d))

-- ---- M9

no_group_by : (ps : List Text) → is_none (group_by ps) ≡ not (are_one_or_two ps)
no_group_by [] = refl
no_group_by (version ∷ []) = refl
no_group_by (group ∷ version ∷ []) = refl
no_group_by (a ∷ b ∷ c ∷ ps) = refl

bad_group_version_is : (version : Text) → is_none (group_of version) ≡ is_bad_group_version version
unfolding group_of is_bad_group_version
bad_group_version_is version = none_or _ (group_by (parts version)) ∙ or_is refl (no_group_by (parts version))

name_if : (b : Bool) (t : List ℕ) (is_bad : List ℕ → Bool) → (is_none (cond b None (Some t)) || is_bad (unwrap_or (cond b None (Some t)) [])) ≡ (b || is_bad t)
name_if true t is_bad = refl
name_if false t is_bad = refl

bad_name : (o : Option (List ℕ)) (is_bad : List ℕ → Bool) → (is_none (option_and_then non_empty o) || is_bad (unwrap_or (option_and_then non_empty o) [])) ≡ (is_empty (unwrap_or o []) || is_bad (unwrap_or o []))
bad_name None is_bad = refl
bad_name (Some t) is_bad = name_if (is_empty t) t is_bad

bad_resource_name_is : (e : Data) → is_none (resource_name_at e) ≡ (is_empty (text (codes "name") e) || is_path (text (codes "name") e))
unfolding resource_name_at name_at
bad_resource_name_is e =
    then_bad (name_at e) [] _
    ∙ or_is refl (none_if _ _)
    ∙ bad_name (text_at (codes "name") e) is_path

bad_entry_is : (group : Text) (e : Data) → is_none (entry_at group e) ≡ is_bad_entry e
unfolding entry_at is_bad_entry
bad_entry_is group e =
    then_other (resource_name_at e) _ _ (λ name.
    then_other (text_at (codes "singularName") e) _ _ (λ singular.
    then_other (flag_at false (codes "namespaced") e) _ _ (λ namespaced.
    then_other (texts_field (codes "shortNames") e) _ _ (λ short_names.
    then_some (texts_field (codes "verbs") e) _))
    ∙ or_is (no_flag false (codes "namespaced") e) refl))
    ∙ or_is (bad_resource_name_is e) refl
    ∙ or_assoc (is_empty (text (codes "name") e)) (is_path (text (codes "name") e)) (any_of (
    is_no_text (codes "singularName") e
    ∷ is_no_flag (codes "namespaced") e
    ∷ is_no_texts (codes "shortNames") e
    ∷ is_no_texts (codes "verbs") e
    ∷ []))

pub api_list_is : (d : Data) → is_bad_api_list d ≡ is_none (entries_at d)
unfolding entries_at is_bad_api_list
api_list_is d = sym (
    then_bad (text_at (codes "groupVersion") d) [] _
    ∙ or_is refl (then_other (group_of (text (codes "groupVersion") d)) _ _ (λ group. list_is (entry_at group) is_bad_entry (bad_entry_is group) (list_field (codes "resources") d))
    ∙ or_is (bad_group_version_is (text (codes "groupVersion") d)) refl))

-- ---- M10

no_name_in : (o : Option (List ℕ)) → is_none (o >>= non_empty) ≡ is_empty (unwrap_or o [])
no_name_in None = refl
no_name_in (Some t) = none_if (is_empty t) t

no_texts_missing : (name : List ℕ) (d : Data) → field name d ≡ None → is_no_texts name d ≡ false
unfolding texts_field list_field all_texts
no_texts_missing name d e = rw (e) refl

no_principal : (p : Data) (user group groups : Option Data) → field (codes "groups") p ≡ groups
    → is_none (principal_by user group groups p)
    ≡ any_of (
    (not (is_some user) && not (is_some group))
    ∷ (is_some user && is_some group)
    ∷ (is_some group && is_some groups)
    ∷ given_and is_bad_name user
    ∷ given_and is_bad_name group
    ∷ is_no_texts (codes "groups") p
    ∷ [])
unfolding user_at member_at
no_principal p None None groups e = refl
no_principal p (Some u) (Some g) groups e = refl
no_principal p (Some u) None groups e =
    then_other (name_in u) _ _ (λ user. then_some (texts_field (codes "groups") p) _)
    ∙ or_is (no_name_in (as_str u)) refl
no_principal p None (Some g) (Some x) e = refl
no_principal p None (Some g) None e =
    none_map _ (name_in g)
    ∙ no_name_in (as_str g)
    ∙ sym (or_is refl (no_texts_missing (codes "groups") p e) ∙ or_false (is_bad_name g))

bad_principal_is : (p : Data) → is_none (principal_at p) ≡ is_bad_principal p
unfolding principal_at is_bad_principal
bad_principal_is p = no_principal p (field (codes "user") p) (field (codes "group") p) (field (codes "groups") p) refl

no_resource : {A : Type 0} (o : Option Data) (f : List ℕ → Option A) (c : Bool) → ((text : List ℕ) → is_none (f text) ≡ c)
    → is_none (o >>= λ resource. as_str resource >>= f) ≡ (not (given_and is_text o) || c)
no_resource None f c e = refl
no_resource (Some resource) f c e = then_other (as_str resource) f c e ∙ or_is (none_not_some (as_str resource)) refl

bad_resource_is : (r : Data) → is_none (resource_at r) ≡ is_bad_resource r
unfolding resource_at is_bad_resource
bad_resource_is r =
    no_resource (field (codes "resource") r) _ (is_no_text (codes "group") r || is_no_flag (codes "namespaced") r) (λ text.
    then_other (text_at (codes "group") r) _ _ (λ group. then_some (flag_at true (codes "namespaced") r) _ ∙ no_flag true (codes "namespaced") r))

given_by_field : {X : Type 0} (o : Option Data) (given : Option X) → (o ≡ None → is_none given ≡ false) → is_none (cond (is_none o) (Some None) (option_map Some given)) ≡ is_none given
given_by_field None given missing = sym (missing refl)
given_by_field (Some x) given missing = none_map Some given

where_given_is : {X : Type 0} (read : Text → Data → Option X) (name : Text) (d : Data) → (field name d ≡ None → is_none (read name d) ≡ false)
    → is_none (where_given read name d) ≡ is_none (read name d)
where_given_is read name d missing = given_by_field (field name d) (read name d) missing

texts_given : (name : Text) (d : Data) → is_none (where_given texts_field name d) ≡ is_no_texts name d
texts_given name d = where_given_is texts_field name d (no_texts_missing name d)

no_items_missing : {X : Type 0} (read : Data → Option X) (name : Text) (d : Data) → field name d ≡ None → is_none (items_field read name d) ≡ false
unfolding list_field
no_items_missing read name d e = rw (e) refl

items_given_is : {X : Type 0} (read : Data → Option X) (is_bad : Data → Bool) → ((d : Data) → is_none (read d) ≡ is_bad d) → (name : Text) (d : Data)
    → is_none (where_given (items_field read) name d) ≡ is_bad_list is_bad (list_field name d)
items_given_is read is_bad each name d = where_given_is (items_field read) name d (no_items_missing read name d) ∙ list_is read is_bad each (list_field name d)

pub universe_is : (d : Data) → is_bad_universe d ≡ is_none (given_lists_at d)
unfolding given_lists_at is_bad_universe
universe_is d = sym (
    then_other (where_given (items_field principal_at) (codes "principals") d) _ _ (λ principals.
    then_other (where_given texts_field (codes "namespaces") d) _ _ (λ namespaces.
    then_other (where_given texts_field (codes "verbs") d) _ _ (λ verbs.
    then_other (where_given (items_field resource_at) (codes "resources") d) _ _ (λ resources.
    then_other (where_given texts_field (codes "names") d) _ _ (λ names.
    then_some (where_given texts_field (codes "urls") d) _)))))
    ∙ or_is (items_given_is principal_at is_bad_principal bad_principal_is (codes "principals") d)
    (or_is (texts_given (codes "namespaces") d)
    (or_is (texts_given (codes "verbs") d)
    (or_is (items_given_is resource_at is_bad_resource bad_resource_is (codes "resources") d)
    (or_is (texts_given (codes "names") d) (texts_given (codes "urls") d))))))

-- ---- M13

pub group_is : (d : Data) → is_bad_group d ≡ is_none (items_field name_in (codes "users") d)
unfolding is_bad_group
group_is d = sym (list_is name_in is_bad_name (λ name. no_name_in (as_str name)) (list_field (codes "users") d))
