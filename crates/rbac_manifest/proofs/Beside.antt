-- The members beside a list under `items` say all of a document but its items.
use Rattle.std.proofs.Common.{◌≡◌, true≢false, ℕ, List, [], ◌∷◌, Bool, true, false, Some, option_and_then, codes, refl, sym, ap, ap₂, ◌∙◌}
use Rattle.std.specs.Str.{bytes_eq}
use Rattle.serde_json.specs.Data.{array, object, Items, Members}
use Rattle.serde_json.proofs.Views.{get_member-put, get_member-put_other}
use Rattle.json_list.specs.List.{items_name, with_items}
use Rattle.json_fields.specs.Fields.{elements, field, present, as_list, list_field, list_or_empty, all_texts, texts_field, text_at, text_or_empty}
use Rattle.rbac_manifest.specs.Kinds.{kind_at, version_at, kind_of}
use Rattle.rbac_manifest.specs.Metadata.{metadata_from, metadata_at}
use Rattle.rbac_manifest.specs.Role.{rules_in}
use Rattle.rbac_manifest.specs.Label.{aggregation_of, aggregation_at}
use Rattle.rbac_manifest.specs.Binding.{role_ref_at, subjects_in}
use Rattle.rbac_manifest.specs.ApiList.{is_bad_api_list, entries_at}
use Rattle.rbac_manifest.specs.UniverseDocument.{is_bad_universe, given_lists_at}
use Rattle.rbac_manifest.specs.Group.{is_bad_group, membership_at}
use Rattle.rbac_manifest.specs.Document.{fault, first_of, not_an_object, bad_version, bad_metadata, bad_rules, bad_role_ref, bad_subjects, bad_selector, bad_catalogue, bad_universe, bad_group, bad_header, refusals, bad_body, role_in, cluster_role_in, binding_in, content_in}
use Rattle.rbac_manifest.specs.declared.kind.Kind.{Kind}
use Rattle.rbac_manifest.specs.declared.kind.Kind.TheVariants as kinds
use Rattle.rbac_manifest.specs.declared.kind.Implied.TheVariants as lists

-- ---- fields of other names

is_other : (name : List ℕ) → bytes_eq name items_name ≡ false → name ≡ items_name → ⊥
is_other name other e = absurd (true≢false (sym (ap (λ n. bytes_eq n items_name) e) ∙ other))

other_field : (name : List ℕ) (ms : Members) (ds : Items) → bytes_eq name items_name ≡ false → field name (with_items ms ds) ≡ field name (object ms)
unfolding field
other_field name ms ds other = ap (option_and_then present) (get_member-put_other name items_name (array ds) ms (is_other name other))

other_list : (name : List ℕ) (ms : Members) (ds : Items) → bytes_eq name items_name ≡ false → list_field name (with_items ms ds) ≡ list_field name (object ms)
unfolding list_field
other_list name ms ds other = ap list_or_empty (other_field name ms ds other)

other_text : (name : List ℕ) (ms : Members) (ds : Items) → bytes_eq name items_name ≡ false → text_at name (with_items ms ds) ≡ text_at name (object ms)
unfolding text_at
other_text name ms ds other = ap text_or_empty (other_field name ms ds other)

other_texts : (name : List ℕ) (ms : Members) (ds : Items) → bytes_eq name items_name ≡ false → texts_field name (with_items ms ds) ≡ texts_field name (object ms)
unfolding texts_field
other_texts name ms ds other = ap (option_and_then all_texts) (other_list name ms ds other)

-- ---- the items

pub the_items : (ms : Members) (ds : Items) → list_field (codes "items") (with_items ms ds) ≡ Some (elements ds)
unfolding list_field field as_list
the_items ms ds = ap (λ o. list_or_empty (option_and_then present o)) (get_member-put items_name (array ds) ms)

-- ---- kind and version

same_kind_text : (ms : Members) (ds : Items) → kind_at lists.Nothing (with_items ms ds) ≡ kind_at lists.Nothing (object ms)
unfolding kind_at
same_kind_text ms ds = rw (other_field (codes "kind") ms ds refl) refl

same_version : (kind : List ℕ) (ms : Members) (ds : Items) → version_at lists.Nothing kind (with_items ms ds) ≡ version_at lists.Nothing kind (object ms)
unfolding version_at
same_version kind ms ds = rw (other_field (codes "apiVersion") ms ds refl) refl

pub same_kind : (ms : Members) (ds : Items) → kind_of lists.Nothing (with_items ms ds) ≡ kind_of lists.Nothing (object ms)
unfolding kind_of
same_kind ms ds = rw (same_kind_text ms ds, same_version _ ms ds) refl

pub same_header : (ms : Members) (ds : Items) → bad_header lists.Nothing (with_items ms ds) ≡ bad_header lists.Nothing (object ms)
unfolding bad_header not_an_object bad_version
same_header ms ds = rw (same_kind_text ms ds, same_version _ ms ds) refl

-- ---- the parts of a document

module _ (ms : Members) (ds : Items) where
  same_bad_metadata : bad_metadata (with_items ms ds) ≡ bad_metadata (object ms)
  same_bad_metadata = rw (other_field (codes "metadata") ms ds refl) refl

  same_metadata : metadata_at (with_items ms ds) ≡ metadata_at (object ms)
  unfolding metadata_at
  same_metadata = ap (option_and_then metadata_from) (other_field (codes "metadata") ms ds refl)

  same_bad_rules : (in_role : Bool) → bad_rules in_role (with_items ms ds) ≡ bad_rules in_role (object ms)
  unfolding bad_rules
  same_bad_rules in_role = rw (other_list (codes "rules") ms ds refl) refl

  same_rules : (in_role : Bool) → rules_in in_role (with_items ms ds) ≡ rules_in in_role (object ms)
  unfolding rules_in
  same_rules in_role = rw (other_list (codes "rules") ms ds refl) refl

  same_bad_role_ref : (in_namespace : Bool) → bad_role_ref in_namespace (with_items ms ds) ≡ bad_role_ref in_namespace (object ms)
  same_bad_role_ref in_namespace = rw (other_field (codes "roleRef") ms ds refl) refl

  same_role_ref : (in_namespace : Bool) → role_ref_at in_namespace (with_items ms ds) ≡ role_ref_at in_namespace (object ms)
  unfolding role_ref_at
  same_role_ref in_namespace = rw (other_field (codes "roleRef") ms ds refl) refl

  same_bad_subjects : bad_subjects (with_items ms ds) ≡ bad_subjects (object ms)
  unfolding bad_subjects
  same_bad_subjects = rw (other_list (codes "subjects") ms ds refl) refl

  same_subjects : subjects_in (with_items ms ds) ≡ subjects_in (object ms)
  unfolding subjects_in
  same_subjects = rw (other_list (codes "subjects") ms ds refl) refl

  same_bad_selector : bad_selector (with_items ms ds) ≡ bad_selector (object ms)
  same_bad_selector = rw (other_field (codes "aggregationRule") ms ds refl) refl

  same_aggregation : aggregation_at (with_items ms ds) ≡ aggregation_at (object ms)
  unfolding aggregation_at
  same_aggregation = ap aggregation_of (other_field (codes "aggregationRule") ms ds refl)

  same_bad_catalogue : bad_catalogue (with_items ms ds) ≡ bad_catalogue (object ms)
  unfolding is_bad_api_list
  same_bad_catalogue = rw (other_text (codes "groupVersion") ms ds refl, other_list (codes "resources") ms ds refl) refl

  same_entries : entries_at (with_items ms ds) ≡ entries_at (object ms)
  unfolding entries_at
  same_entries = rw (other_text (codes "groupVersion") ms ds refl, other_list (codes "resources") ms ds refl) refl

  same_bad_universe : bad_universe (with_items ms ds) ≡ bad_universe (object ms)
  unfolding is_bad_universe
  same_bad_universe = rw (
    other_list (codes "principals") ms ds refl,
    other_texts (codes "namespaces") ms ds refl,
    other_texts (codes "verbs") ms ds refl,
    other_list (codes "resources") ms ds refl,
    other_texts (codes "names") ms ds refl,
    other_texts (codes "urls") ms ds refl,
  ) refl

  same_given_lists : given_lists_at (with_items ms ds) ≡ given_lists_at (object ms)
  unfolding given_lists_at
  same_given_lists = rw (
    other_field (codes "principals") ms ds refl,
    other_list (codes "principals") ms ds refl,
    other_field (codes "namespaces") ms ds refl,
    other_texts (codes "namespaces") ms ds refl,
    other_field (codes "verbs") ms ds refl,
    other_texts (codes "verbs") ms ds refl,
    other_field (codes "resources") ms ds refl,
    other_list (codes "resources") ms ds refl,
    other_field (codes "names") ms ds refl,
    other_texts (codes "names") ms ds refl,
    other_field (codes "urls") ms ds refl,
    other_texts (codes "urls") ms ds refl,
  ) refl

  same_bad_group : bad_group (with_items ms ds) ≡ bad_group (object ms)
  unfolding is_bad_group
  same_bad_group = rw (other_list (codes "users") ms ds refl) refl

  same_membership : membership_at (with_items ms ds) ≡ membership_at (object ms)
  unfolding membership_at
  same_membership = rw (same_metadata, other_list (codes "users") ms ds refl) refl

  -- ---- the whole document

  same_refusals : (k : Kind) → refusals k (with_items ms ds) ≡ refusals k (object ms)
  same_refusals kinds.Role = rw (same_bad_metadata, same_bad_rules true) refl
  same_refusals kinds.ClusterRole = rw (same_bad_metadata, same_bad_rules false, same_bad_selector) refl
  same_refusals kinds.RoleBinding = rw (same_bad_metadata, same_bad_role_ref true, same_bad_subjects) refl
  same_refusals kinds.ClusterRoleBinding = rw (same_bad_metadata, same_bad_role_ref false, same_bad_subjects) refl
  same_refusals kinds.Namespace = rw (same_bad_metadata) refl
  same_refusals kinds.ServiceAccount = rw (same_bad_metadata) refl
  same_refusals kinds.ApiList = rw (same_bad_catalogue) refl
  same_refusals kinds.Universe = rw (same_bad_universe) refl
  same_refusals kinds.Group = rw (same_bad_metadata, same_bad_group) refl
  same_refusals (kinds.List implied) = refl
  same_refusals kinds.Other = refl

  pub same_fault : fault lists.Nothing (with_items ms ds) ≡ fault lists.Nothing (object ms)
  unfolding fault
  same_fault =
      ap₂ (λ h b. first_of (h ∷ b ∷ [])) (same_header ms ds)
      (ap (λ k. bad_body k (with_items ms ds)) (same_kind ms ds) ∙ ap first_of (same_refusals (kind_of lists.Nothing (object ms))))

  pub same_content : (k : Kind) → content_in k (with_items ms ds) ≡ content_in k (object ms)
  unfolding role_in cluster_role_in binding_in
  same_content kinds.Role = rw (same_metadata, same_rules true) refl
  same_content kinds.ClusterRole = rw (same_metadata, same_rules false, same_aggregation) refl
  same_content kinds.RoleBinding = rw (same_metadata, same_role_ref true, same_subjects) refl
  same_content kinds.ClusterRoleBinding = rw (same_metadata, same_role_ref false, same_subjects) refl
  same_content kinds.Namespace = rw (same_metadata) refl
  same_content kinds.ServiceAccount = rw (same_metadata) refl
  same_content kinds.ApiList = rw (same_entries) refl
  same_content kinds.Universe = rw (same_given_lists) refl
  same_content kinds.Group = rw (same_membership) refl
  same_content (kinds.List implied) = refl
  same_content kinds.Other = refl
