-- A document less the members that aren't read says the same.
use Rattle.std.proofs.Common.{◌≡◌, ℕ, true, false, List, [], ◌∷◌, Bool, Option, Some, None, option_map, option_and_then, codes, refl, ap, ap₂, ◌∙◌}
use Rattle.serde_json.specs.Data.{Data, null, boolean, number, string, array, object}
use Rattle.serde_json.specs.Find.{get}
use Rattle.json_list.specs.Lean.{lean}
use Rattle.json_list.proofs.Lean.{member_kept, whole}
use Rattle.json_fields.specs.Fields.{field, present, is_object, list_field, list_or_empty, all_texts, texts_field, text_at, text_or_empty, name_at, non_empty, missing_or}
use Rattle.rbac_manifest.specs.Kinds.{kind_at, version_at, kind_of}
use Rattle.rbac_manifest.specs.Part.{read_under, read_of}
use Rattle.rbac_manifest.specs.Metadata.{is_bad_metadata, metadata_from, metadata_at}
use Rattle.rbac_manifest.specs.Role.{rules_in}
use Rattle.rbac_manifest.specs.Label.{labels_at, labels_or_empty, aggregation_of, aggregation_at}
use Rattle.rbac_manifest.specs.Binding.{role_ref_at, subjects_in}
use Rattle.rbac_manifest.specs.ApiList.{is_bad_api_list, entries_at}
use Rattle.rbac_manifest.specs.UniverseDocument.{is_bad_universe, given_lists_at}
use Rattle.rbac_manifest.specs.Group.{is_bad_group, membership_at}
use Rattle.rbac_manifest.specs.Document.{fault, stands, first_of, when, not_an_object, bad_version, bad_metadata, bad_rules, bad_role_ref, bad_subjects, bad_selector, bad_catalogue, bad_universe, bad_group, bad_header, refusals, bad_body, role_in, cluster_role_in, binding_in, content_in}
use Rattle.rbac_manifest.specs.declared.part.Part.{Part}
use Rattle.rbac_manifest.specs.declared.part.Part.TheVariants.{Document, Metadata, Whole}
use Rattle.rbac_manifest.specs.declared.kind.Kind.{Kind}
use Rattle.rbac_manifest.specs.declared.kind.Kind.TheVariants as kinds
use Rattle.rbac_manifest.specs.declared.kind.Implied.{Implied}
use Rattle.rbac_manifest.specs.declared.fault.Cause.TheVariants.{BadMetadata}

-- ---- fields of a part

all_under : (name : List ℕ) → read_under Whole name ≡ Some Whole
unfolding read_under
all_under name = refl

all_kept : (o : Option Data) → option_map (λ e. lean read_under Whole e) o ≡ o
all_kept None = refl
all_kept (Some d) = ap (λ e. Some e) (whole read_under Whole all_under d)

kept_member : (part inner : Part) (name : List ℕ) (d : Data) → read_under part name ≡ Some inner → get name (lean read_under part d) ≡ option_map (λ e. lean read_under inner e) (get name d)
kept_member part inner name null some = refl
kept_member part inner name (boolean b) some = refl
kept_member part inner name (number n) some = refl
kept_member part inner name (string s) some = refl
kept_member part inner name (array ds) some = refl
kept_member part inner name (object ms) some = member_kept read_under part inner name some ms

-- a part of what is there is there
present_part : (part : Part) (o : Option Data) → option_and_then present (option_map (λ e. lean read_under part e) o) ≡ option_map (λ e. lean read_under part e) (option_and_then present o)
present_part part None = refl
present_part part (Some null) = refl
present_part part (Some (boolean b)) = refl
present_part part (Some (number n)) = refl
present_part part (Some (string s)) = refl
present_part part (Some (array ds)) = refl
present_part part (Some (object ms)) = refl

same_is_object : (part : Part) (d : Data) → is_object (lean read_under part d) ≡ is_object d
same_is_object part null = refl
same_is_object part (boolean b) = refl
same_is_object part (number n) = refl
same_is_object part (string s) = refl
same_is_object part (array ds) = refl
same_is_object part (object ms) = refl

module _ (part : Part) (name : List ℕ) (d : Data) (some : read_under part name ≡ Some Whole) where
  whole_field : field name (lean read_under part d) ≡ field name d
  unfolding field
  whole_field = ap (option_and_then present) (kept_member part Whole name d some ∙ all_kept (get name d))

  whole_list : list_field name (lean read_under part d) ≡ list_field name d
  unfolding list_field
  whole_list = ap list_or_empty whole_field

  whole_text : text_at name (lean read_under part d) ≡ text_at name d
  unfolding text_at
  whole_text = ap text_or_empty whole_field

  whole_texts : texts_field name (lean read_under part d) ≡ texts_field name d
  unfolding texts_field
  whole_texts = ap (option_and_then all_texts) whole_list

  whole_labels : labels_at name (lean read_under part d) ≡ labels_at name d
  unfolding labels_at
  whole_labels = ap labels_or_empty whole_field

-- ---- metadata

in_metadata_name : read_under Metadata (codes "name") ≡ Some Whole
unfolding read_under
in_metadata_name = refl

in_metadata_namespace : read_under Metadata (codes "namespace") ≡ Some Whole
unfolding read_under
in_metadata_namespace = refl

in_metadata_labels : read_under Metadata (codes "labels") ≡ Some Whole
unfolding read_under
in_metadata_labels = refl

of_metadata : read_under Document (codes "metadata") ≡ Some Metadata
unfolding read_under
of_metadata = refl

module _ (m : Data) where
  same_name : name_at (lean read_under Metadata m) ≡ name_at m
  unfolding name_at
  same_name = ap (option_and_then non_empty) (whole_text Metadata (codes "name") m in_metadata_name)

  same_is_bad_metadata : is_bad_metadata (lean read_under Metadata m) ≡ is_bad_metadata m
  same_is_bad_metadata = rw (same_is_object Metadata m, whole_labels Metadata (codes "labels") m in_metadata_labels, same_name, whole_text Metadata (codes "namespace") m in_metadata_namespace) refl

  same_metadata_from : metadata_from (lean read_under Metadata m) ≡ metadata_from m
  unfolding metadata_from
  same_metadata_from = rw (same_is_object Metadata m, whole_labels Metadata (codes "labels") m in_metadata_labels, same_name, whole_text Metadata (codes "namespace") m in_metadata_namespace) refl

metadata_part : (d : Data) → field (codes "metadata") (read_of d) ≡ option_map (λ e. lean read_under Metadata e) (field (codes "metadata") d)
unfolding field
metadata_part d = ap (option_and_then present) (kept_member Document Metadata (codes "metadata") d of_metadata) ∙ present_part Metadata (get (codes "metadata") d)

missing_or_bad : (o : Option Data) → missing_or is_bad_metadata (option_map (λ e. lean read_under Metadata e) o) ≡ missing_or is_bad_metadata o
missing_or_bad None = refl
missing_or_bad (Some m) = same_is_bad_metadata m

metadata_given : (o : Option Data) → option_and_then metadata_from (option_map (λ e. lean read_under Metadata e) o) ≡ option_and_then metadata_from o
metadata_given None = refl
metadata_given (Some m) = same_metadata_from m

-- ---- kind and version

module _ (d : Data) where
  abbrev IsRead : List ℕ → Type 0
  IsRead name = read_under Document name ≡ Some Whole

  kind_is : IsRead (codes "kind")
  unfolding read_under
  kind_is = refl

  version_is : IsRead (codes "apiVersion")
  unfolding read_under
  version_is = refl

  rules_are : IsRead (codes "rules")
  unfolding read_under
  rules_are = refl

  role_ref_is : IsRead (codes "roleRef")
  unfolding read_under
  role_ref_is = refl

  subjects_are : IsRead (codes "subjects")
  unfolding read_under
  subjects_are = refl

  aggregation_is : IsRead (codes "aggregationRule")
  unfolding read_under
  aggregation_is = refl

  group_version_is : IsRead (codes "groupVersion")
  unfolding read_under
  group_version_is = refl

  resources_are : IsRead (codes "resources")
  unfolding read_under
  resources_are = refl

  principals_are : IsRead (codes "principals")
  unfolding read_under
  principals_are = refl

  namespaces_are : IsRead (codes "namespaces")
  unfolding read_under
  namespaces_are = refl

  verbs_are : IsRead (codes "verbs")
  unfolding read_under
  verbs_are = refl

  names_are : IsRead (codes "names")
  unfolding read_under
  names_are = refl

  urls_are : IsRead (codes "urls")
  unfolding read_under
  urls_are = refl

  users_are : IsRead (codes "users")
  unfolding read_under
  users_are = refl

  same_kind_text : (implied : Implied) → kind_at implied (read_of d) ≡ kind_at implied d
  unfolding kind_at
  same_kind_text implied = rw (whole_field Document (codes "kind") d kind_is) refl

  same_version : (implied : Implied) (kind : List ℕ) → version_at implied kind (read_of d) ≡ version_at implied kind d
  unfolding version_at
  same_version implied kind = rw (whole_field Document (codes "apiVersion") d version_is) refl

  same_kind : (implied : Implied) → kind_of implied (read_of d) ≡ kind_of implied d
  unfolding kind_of
  same_kind implied = rw (same_kind_text implied, same_version implied _) refl

  same_header : (implied : Implied) → bad_header implied (read_of d) ≡ bad_header implied d
  unfolding bad_header not_an_object bad_version
  same_header implied = rw (same_is_object Document d, same_kind_text implied, same_version implied _) refl

  -- ---- the parts of a document

  same_bad_metadata : bad_metadata (read_of d) ≡ bad_metadata d
  same_bad_metadata = ap (λ b. when b BadMetadata) (ap (missing_or is_bad_metadata) (metadata_part d) ∙ missing_or_bad (field (codes "metadata") d))

  same_metadata : metadata_at (read_of d) ≡ metadata_at d
  unfolding metadata_at
  same_metadata = ap (option_and_then metadata_from) (metadata_part d) ∙ metadata_given (field (codes "metadata") d)

  same_bad_rules : (in_role : Bool) → bad_rules in_role (read_of d) ≡ bad_rules in_role d
  unfolding bad_rules
  same_bad_rules in_role = rw (whole_list Document (codes "rules") d rules_are) refl

  same_rules : (in_role : Bool) → rules_in in_role (read_of d) ≡ rules_in in_role d
  unfolding rules_in
  same_rules in_role = rw (whole_list Document (codes "rules") d rules_are) refl

  same_bad_role_ref : (in_namespace : Bool) → bad_role_ref in_namespace (read_of d) ≡ bad_role_ref in_namespace d
  same_bad_role_ref in_namespace = rw (whole_field Document (codes "roleRef") d role_ref_is) refl

  same_role_ref : (in_namespace : Bool) → role_ref_at in_namespace (read_of d) ≡ role_ref_at in_namespace d
  unfolding role_ref_at
  same_role_ref in_namespace = rw (whole_field Document (codes "roleRef") d role_ref_is) refl

  same_bad_subjects : bad_subjects (read_of d) ≡ bad_subjects d
  unfolding bad_subjects
  same_bad_subjects = rw (whole_list Document (codes "subjects") d subjects_are) refl

  same_subjects : subjects_in (read_of d) ≡ subjects_in d
  unfolding subjects_in
  same_subjects = rw (whole_list Document (codes "subjects") d subjects_are) refl

  same_bad_selector : bad_selector (read_of d) ≡ bad_selector d
  same_bad_selector = rw (whole_field Document (codes "aggregationRule") d aggregation_is) refl

  same_aggregation : aggregation_at (read_of d) ≡ aggregation_at d
  unfolding aggregation_at
  same_aggregation = ap aggregation_of (whole_field Document (codes "aggregationRule") d aggregation_is)

  same_bad_catalogue : bad_catalogue (read_of d) ≡ bad_catalogue d
  unfolding is_bad_api_list
  same_bad_catalogue = rw (whole_text Document (codes "groupVersion") d group_version_is, whole_list Document (codes "resources") d resources_are) refl

  same_entries : entries_at (read_of d) ≡ entries_at d
  unfolding entries_at
  same_entries = rw (whole_text Document (codes "groupVersion") d group_version_is, whole_list Document (codes "resources") d resources_are) refl

  same_bad_universe : bad_universe (read_of d) ≡ bad_universe d
  unfolding is_bad_universe
  same_bad_universe = rw (
    whole_list Document (codes "principals") d principals_are,
    whole_texts Document (codes "namespaces") d namespaces_are,
    whole_texts Document (codes "verbs") d verbs_are,
    whole_list Document (codes "resources") d resources_are,
    whole_texts Document (codes "names") d names_are,
    whole_texts Document (codes "urls") d urls_are,
  ) refl

  same_given_lists : given_lists_at (read_of d) ≡ given_lists_at d
  unfolding given_lists_at
  same_given_lists = rw (
    whole_field Document (codes "principals") d principals_are,
    whole_list Document (codes "principals") d principals_are,
    whole_field Document (codes "namespaces") d namespaces_are,
    whole_texts Document (codes "namespaces") d namespaces_are,
    whole_field Document (codes "verbs") d verbs_are,
    whole_texts Document (codes "verbs") d verbs_are,
    whole_field Document (codes "resources") d resources_are,
    whole_list Document (codes "resources") d resources_are,
    whole_field Document (codes "names") d names_are,
    whole_texts Document (codes "names") d names_are,
    whole_field Document (codes "urls") d urls_are,
    whole_texts Document (codes "urls") d urls_are,
  ) refl

  same_bad_group : bad_group (read_of d) ≡ bad_group d
  unfolding is_bad_group
  same_bad_group = rw (whole_list Document (codes "users") d users_are) refl

  same_membership : membership_at (read_of d) ≡ membership_at d
  unfolding membership_at
  same_membership = rw (same_metadata, whole_list Document (codes "users") d users_are) refl

  -- ---- the whole document

  same_refusals : (k : Kind) → refusals k (read_of d) ≡ refusals k d
  same_refusals kinds.Role = rw (same_bad_metadata, same_bad_rules true) refl
  same_refusals kinds.ClusterRole = rw (same_bad_metadata, same_bad_rules false, same_bad_selector) refl
  same_refusals kinds.RoleBinding = rw (same_bad_metadata, same_bad_role_ref true, same_bad_subjects) refl
  same_refusals kinds.ClusterRoleBinding = rw (same_bad_metadata, same_bad_role_ref false, same_bad_subjects) refl
  same_refusals kinds.Namespace = rw (same_bad_metadata) refl
  same_refusals kinds.ServiceAccount = rw (same_bad_metadata) refl
  same_refusals kinds.ApiList = rw (same_bad_catalogue) refl
  same_refusals kinds.Universe = rw (same_bad_universe) refl
  same_refusals kinds.Group = rw (same_bad_metadata, same_bad_group) refl
  same_refusals (kinds.List implied) = refl
  same_refusals kinds.Other = refl

  same_content : (k : Kind) → content_in k (read_of d) ≡ content_in k d
  unfolding role_in cluster_role_in binding_in
  same_content kinds.Role = rw (same_metadata, same_rules true) refl
  same_content kinds.ClusterRole = rw (same_metadata, same_rules false, same_aggregation) refl
  same_content kinds.RoleBinding = rw (same_metadata, same_role_ref true, same_subjects) refl
  same_content kinds.ClusterRoleBinding = rw (same_metadata, same_role_ref false, same_subjects) refl
  same_content kinds.Namespace = rw (same_metadata) refl
  same_content kinds.ServiceAccount = rw (same_metadata) refl
  same_content kinds.ApiList = rw (same_entries) refl
  same_content kinds.Universe = rw (same_given_lists) refl
  same_content kinds.Group = rw (same_membership) refl
  same_content (kinds.List implied) = refl
  same_content kinds.Other = refl

pub same_fault : (implied : Implied) (d : Data) → fault implied (read_of d) ≡ fault implied d
unfolding fault
same_fault implied d =
    ap₂ (λ h b. first_of (h ∷ b ∷ [])) (same_header d implied)
    (ap (λ k. bad_body k (read_of d)) (same_kind d implied) ∙ ap first_of (same_refusals d (kind_of implied d)))

pub same_stands : (implied : Implied) (d : Data) → stands implied (read_of d) ≡ stands implied d
unfolding stands
same_stands implied d = ap (λ k. content_in k (read_of d)) (same_kind d implied) ∙ same_content d (kind_of implied d)
