-- What a line tells doesn't depend on the members that aren't read.
use Rattle.std.proofs.Common.{◌≡◌, true, false, List, [], ◌∷◌, map, Option, Some, None, Ok, Err, option_map, option_and_then, codes, refl, sym, ap, ap₂, ◌∙◌}
use Rattle.std.specs.Str.{bytes_eq}
use Rattle.std.specs.List.{list_all}
use Rattle.serde_json.specs.Data.{Data, null, boolean, number, string, array, object, Items, no_items, item}
use Rattle.serde_json.specs.Find.{get, as_number, as_str, as_u64}
use Rattle.json_list.specs.Lean.{lean, lean_items}
use Rattle.json_list.proofs.Lean.{member_kept}
use Rattle.json_fields.specs.Fields.{all_texts, as_list, elements, field, is_object, is_text, list_field, list_or_empty, non_empty, present, text_at, text_in, text_or_empty, texts_field}
use Rattle.rbac_terms.specs.Text.{Text}
use Rattle.rbac_log.specs.Asked.{asked_at, asked_for, reference_at, reference_from, resource_asked}
use Rattle.rbac_log.specs.Event.{code_at, counts_at, decision_at, decision_in, requests_of, told, told_if_counted}
use Rattle.rbac_log.specs.Line.{is_item, is_kind, told_by_item, told_by_items, told_by_json, told_by_list, told_by_value}
use Rattle.rbac_log.specs.Outcome.{Outcome, and_then, or_fault}
use Rattle.rbac_log.specs.Part.{is_of_event, is_of_field, read_of, read_under}
use Rattle.rbac_log.specs.User.{full_text, impersonated_at, user_from, user_or_nobody, user_told}
use Rattle.rbac_log.specs.declared.fault.LineFault.TheVariants.{BadImpersonatedUser, BadObjectRef, BadUser, BadVerb}
use Rattle.rbac_log.specs.declared.part.Part.{Part}
use Rattle.rbac_log.specs.declared.part.Part.TheVariants.{Event, Field}

-- ---- a part of a value

abbrev part_of : Part → Data → Data
part_of part d = lean read_under part d

abbrev part_if : Part → Option Data → Option Data
part_if part o = option_map (λ e. part_of part e) o

same_text : (part : Part) (d : Data) → as_str (part_of part d) ≡ as_str d
same_text part null = refl
same_text part (boolean b) = refl
same_text part (number n) = refl
same_text part (string s) = refl
same_text part (array ds) = refl
same_text part (object ms) = refl

same_number : (part : Part) (d : Data) → as_number (part_of part d) ≡ as_number d
same_number part null = refl
same_number part (boolean b) = refl
same_number part (number n) = refl
same_number part (string s) = refl
same_number part (array ds) = refl
same_number part (object ms) = refl

same_is_object : (part : Part) (d : Data) → is_object (part_of part d) ≡ is_object d
same_is_object part null = refl
same_is_object part (boolean b) = refl
same_is_object part (number n) = refl
same_is_object part (string s) = refl
same_is_object part (array ds) = refl
same_is_object part (object ms) = refl

same_present : (part : Part) (d : Data) → present (part_of part d) ≡ part_if part (present d)
same_present part null = refl
same_present part (boolean b) = refl
same_present part (number n) = refl
same_present part (string s) = refl
same_present part (array ds) = refl
same_present part (object ms) = refl

module _ (part : Part) where
  list_part : (ds : Items) → elements (lean_items read_under part ds) ≡ map (λ d. part_of part d) (elements ds)
  list_part no_items = refl
  list_part (item d ds) = ap (λ rest. part_of part d ∷ rest) (list_part ds)

  same_list : (d : Data) → as_list (part_of part d) ≡ option_map (λ ds. map (λ d. part_of part d) ds) (as_list d)
  unfolding as_list
  same_list null = refl
  same_list (boolean b) = refl
  same_list (number n) = refl
  same_list (string s) = refl
  same_list (array ds) = ap (λ es. Some es) (list_part ds)
  same_list (object ms) = refl

  all_alike : (ds : List Data) → list_all is_text (map (λ d. part_of part d) ds) ≡ list_all is_text ds
  all_alike [] = refl
  all_alike (d ∷ ds) = rw (same_text part d, all_alike ds) refl

  each_alike : (ds : List Data) → map text_in (map (λ d. part_of part d) ds) ≡ map text_in ds
  each_alike [] = refl
  each_alike (d ∷ ds) = rw (same_text part d, each_alike ds) refl

  same_texts : (ds : List Data) → all_texts (map (λ d. part_of part d) ds) ≡ all_texts ds
  unfolding all_texts
  same_texts ds = rw (all_alike ds, each_alike ds) refl

  text_if : (o : Option Data) → text_or_empty (part_if part o) ≡ text_or_empty o
  text_if None = refl
  text_if (Some d) = same_text part d

  list_if : (o : Option Data) → list_or_empty (part_if part o) ≡ option_map (λ ds. map (λ d. part_of part d) ds) (list_or_empty o)
  list_if None = refl
  list_if (Some d) = same_list d

  texts_if : (o : Option (List Data)) → option_and_then all_texts (option_map (λ ds. map (λ d. part_of part d) ds) o) ≡ option_and_then all_texts o
  texts_if None = refl
  texts_if (Some ds) = same_texts ds

  number_if : (o : Option Data) → option_and_then as_number (part_if part o) ≡ option_and_then as_number o
  number_if None = refl
  number_if (Some d) = same_number part d

  present_if : (o : Option Data) → option_and_then present (part_if part o) ≡ part_if part (option_and_then present o)
  present_if None = refl
  present_if (Some d) = same_present part d

-- ---- a member that is read

module _ (part inner : Part) (name : Text) (some : read_under part name ≡ Some inner) where
  kept_member : (d : Data) → get name (part_of part d) ≡ part_if inner (get name d)
  kept_member null = refl
  kept_member (boolean b) = refl
  kept_member (number n) = refl
  kept_member (string s) = refl
  kept_member (array ds) = refl
  kept_member (object ms) = member_kept read_under part inner name some ms

  module _ (d : Data) where
    field_is : field name (part_of part d) ≡ part_if inner (field name d)
    unfolding field
    field_is = ap (option_and_then present) (kept_member d) ∙ present_if inner (get name d)

    text_is : text_at name (part_of part d) ≡ text_at name d
    unfolding text_at
    text_is = ap text_or_empty field_is ∙ text_if inner (field name d)

    full_is : full_text name (part_of part d) ≡ full_text name d
    unfolding full_text
    full_is = ap (option_and_then non_empty) text_is

    list_is : list_field name (part_of part d) ≡ option_map (λ ds. map (λ d. part_of inner d) ds) (list_field name d)
    unfolding list_field
    list_is = ap list_or_empty field_is ∙ list_if inner (field name d)

    texts_is : texts_field name (part_of part d) ≡ texts_field name d
    unfolding texts_field
    texts_is = ap (option_and_then all_texts) list_is ∙ texts_if inner (list_field name d)

of_event : (name : Text) → bytes_eq name (codes "items") ≡ false → is_of_event name ≡ true → read_under Event name ≡ Some Field
unfolding read_under
of_event name other is = rw (other, is) refl

of_field : (name : Text) → is_of_field name ≡ true → read_under Field name ≡ Some Field
unfolding read_under
of_field name is = rw (is) refl

of_items : read_under Event (codes "items") ≡ Some Event
unfolding read_under
of_items = refl

-- ---- the fields of an event

module _ (d : Data) where
  same_user : user_from (part_of Field d) ≡ user_from d
  unfolding user_from
  same_user = rw (full_is Field Field (codes "username") (of_field _ refl) d, texts_is Field Field (codes "groups") (of_field _ refl) d) refl

  same_reference : reference_at (part_of Field d) ≡ reference_at d
  unfolding reference_at reference_from
  same_reference = rw (
    same_is_object Field d,
    text_is Field Field (codes "apiGroup") (of_field _ refl) d,
    text_is Field Field (codes "resource") (of_field _ refl) d,
    text_is Field Field (codes "subresource") (of_field _ refl) d,
    text_is Field Field (codes "namespace") (of_field _ refl) d,
    text_is Field Field (codes "name") (of_field _ refl) d,
  ) refl

user_if : (o : Option Data) → option_and_then user_from (part_if Field o) ≡ option_and_then user_from o
user_if None = refl
user_if (Some d) = same_user d

impersonated_if : (o : Option Data) → user_or_nobody (part_if Field o) ≡ user_or_nobody o
impersonated_if None = refl
impersonated_if (Some d) = ap (option_map (λ who. Some who)) (same_user d)

decision_if : (o : Option Data) → decision_in (part_if Field o) ≡ decision_in o
decision_if None = refl
decision_if (Some d) = rw (same_is_object Field d, text_is Field Field (codes "authorization.k8s.io/decision") (of_field _ refl) d) refl

code_if : (o : Option Data) → option_and_then as_number (option_and_then (get (codes "code")) (part_if Field o)) ≡ option_and_then as_number (option_and_then (get (codes "code")) o)
code_if None = refl
code_if (Some d) = ap (option_and_then as_number) (kept_member Field Field (codes "code") (of_field _ refl) d) ∙ number_if Field (get (codes "code") d)

asked_if : (verb : Text) (o : Option Data) (uri : Option Text) → asked_for verb (part_if Field o) uri ≡ asked_for verb o uri
asked_if verb None uri = refl
asked_if verb (Some d) uri = ap (λ r. or_fault BadObjectRef (option_map (resource_asked verb) r)) (same_reference d)

-- ---- an event

same_then : {A B : Type 0} (o : Outcome A) (f g : A → Outcome B) → ((x : A) → f x ≡ g x) → and_then o f ≡ and_then o g
same_then (Err e) f g alike = refl
same_then (Ok x) f g alike = alike x

module _ (d : Data) where
  same_decision : decision_at (read_of d) ≡ decision_at d
  unfolding decision_at
  same_decision = ap decision_in (field_is Event Field (codes "annotations") (of_event _ refl refl) d) ∙ decision_if (field (codes "annotations") d)

  same_code : code_at (read_of d) ≡ code_at d
  unfolding code_at
  same_code = ap (λ o. option_and_then as_u64 (option_and_then as_number (option_and_then (get (codes "code")) o))) (field_is Event Field (codes "responseStatus") (of_event _ refl refl) d)
      ∙ ap (option_and_then as_u64) (code_if (field (codes "responseStatus") d))

  same_counts : counts_at (read_of d) ≡ counts_at d
  unfolding counts_at
  same_counts = rw (full_is Event Field (codes "stage") (of_event _ refl refl) d, same_decision, same_code) refl

  same_user_told : user_told (read_of d) ≡ user_told d
  unfolding user_told
  same_user_told = ap (option_and_then user_from) (field_is Event Field (codes "user") (of_event _ refl refl) d) ∙ user_if (field (codes "user") d)

  same_impersonated : impersonated_at (read_of d) ≡ impersonated_at d
  unfolding impersonated_at
  same_impersonated = ap user_or_nobody (field_is Event Field (codes "impersonatedUser") (of_event _ refl refl) d) ∙ impersonated_if (field (codes "impersonatedUser") d)

  same_asked : (verb : Text) → asked_at verb (read_of d) ≡ asked_at verb d
  unfolding asked_at
  same_asked verb = ap₂ (asked_for verb) (field_is Event Field (codes "objectRef") (of_event _ refl refl) d) (text_is Event Field (codes "requestURI") (of_event _ refl refl) d)
      ∙ asked_if verb (field (codes "objectRef") d) (text_at (codes "requestURI") d)

  same_if_counted : told_if_counted (read_of d) ≡ told_if_counted d
  unfolding told_if_counted
  same_if_counted = rw (full_is Event Field (codes "verb") (of_event _ refl refl) d, same_user_told, same_impersonated)
      (same_then (or_fault BadVerb (full_text (codes "verb") d)) _ _ (λ verb.
      same_then (or_fault BadUser (user_told d)) _ _ (λ user.
      same_then (or_fault BadImpersonatedUser (impersonated_at d)) _ _ (λ impersonated.
      ap (λ o. and_then o (λ asked. Ok (requests_of verb user impersonated asked))) (same_asked verb)))))

  same_event : told (read_of d) ≡ told d
  unfolding told
  same_event = rw (same_counts, same_if_counted) refl

  -- ---- a line

  same_kind : (kind : Text) → is_kind kind (read_of d) ≡ is_kind kind d
  unfolding is_kind
  same_kind kind = rw (text_is Event Field (codes "kind") (of_event _ refl refl) d, text_is Event Field (codes "apiVersion") (of_event _ refl refl) d) refl

  same_is_item : is_item (read_of d) ≡ is_item d
  unfolding is_item
  same_is_item = rw (same_is_object Event d, text_is Event Field (codes "kind") (of_event _ refl refl) d, text_is Event Field (codes "apiVersion") (of_event _ refl refl) d) refl

  same_item : told_by_item (read_of d) ≡ told_by_item d
  unfolding told_by_item
  same_item = rw (same_is_item, same_event) refl

same_items : (ds : List Data) → told_by_items (map (λ d. read_of d) ds) ≡ told_by_items ds
same_items [] = refl
same_items (d ∷ ds) = rw (same_item d, same_items ds) refl

items_if : (o : Option (List Data)) → told_by_list (option_map (λ ds. map (λ d. read_of d) ds) o) ≡ told_by_list o
items_if None = refl
items_if (Some ds) = same_items ds

same_value : (d : Data) → told_by_value (read_of d) ≡ told_by_value d
unfolding told_by_value
same_value d = rw (
  same_kind d (codes "Event"),
  same_kind d (codes "EventList"),
  same_event d,
  ap told_by_list (list_is Event Event (codes "items") of_items d) ∙ items_if (list_field (codes "items") d),
) refl

-- what is read of a line's value tells what the line tells
pub told_by_read : (o : Option Data) (read : Data) → option_map (λ d. read_of d) o ≡ Some read → told_by_json o ≡ told_by_value read
told_by_read None read e = absurd (cc)
told_by_read (Some d) read e = let same : read_of d ≡ read = cc in sym (same_value d) ∙ ap told_by_value same
