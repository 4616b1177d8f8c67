-- a document after other inputs replaces the lists, and nothing else
use Rattle.std.proofs.Common.{◌≡◌, ℕ, ◌+◌, Bool, true, false, List, [], ◌∷◌, ◌++◌, ◌||◌, All, Option, Some, None, unwrap_or, is_none, refl, sym, ap, ◌∙◌, append-nil}
use Rattle.std.specs.List.{flat_map, filter_map, list_any, last_or}
use Rattle.std.proofs.lemmas.Grind.{flat_map-append}
use Rattle.std.proofs.lemmas.List.Elements.{filter_map-append}
use Rattle.std.proofs.lemmas.List.Folds.{list_any-append}
use Rattle.rbac_terms.specs.Text.{Text}
use Rattle.rbac_universe.specs.declared.lists.UniverseLists.{UniverseLists}
use Rattle.rbac_lists.specs.declared.given_lists.GivenLists.{GivenLists}
use Rattle.rbac_lists.specs.declared.given_lists.Account.{Account}
use Rattle.rbac_lists.specs.Derived.{principals_of, namespaces_of, verbs_of, resources_of, names_of, urls_of}
use Rattle.rbac_lists.specs.Meant.{given_or, lists_meant}
use Rattle.rbac_model.specs.Policies.{Held}
use Rattle.json_fields.specs.Fields.{field}
use Rattle.rbac_manifest.specs.Kinds.{kind_at, version_read, needs_version, version_at, kind_named, kind_of}
use Rattle.rbac_manifest.specs.Document.{not_an_object, bad_version, bad_header, fault}
use Rattle.rbac_manifest.specs.UniverseDocument.{is_bad_universe}
use Rattle.rbac_manifest.specs.Contents.{as_object, as_namespace, as_account, as_lists, as_membership, is_api_list, api_entries, objects_in, namespaces_in, accounts_in, documents_in, memberships_in}
use Rattle.rbac_manifest.specs.Load.{refusal_in, contents_of_input, json_in, file_refusal, contents_of_file, fault_from, file_or, all_contents, LoadedView, IsLoaded}
use Rattle.rbac_manifest.specs.declared.fault.LoadFault.{LoadFault}
use Rattle.rbac_manifest.proofs.Conditions.{universe_is}
use Rattle.rbac_manifest.proofs.Json.{json_in_text}
use Rattle.rbac_document.specs.Document.{AreReadable, document_text}
use Rattle.rbac_document.proofs.SpelledDocument.{document_read}
use Rattle.rbac_document.proofs.Utf8.{utf8_document}
use Rattle.rbac_document.proofs.Values.{IsNamed, document_data, document_value, given, document_given}

-- ---- the document alone

module _ (lists : UniverseLists) (can : AreReadable lists) where
  named : All IsNamed lists.principals
  named k d l = (can.principals k d l).named

  json_is : json_in (document_text lists) ≡ Some (document_data lists)
  json_is = json_in_text (document_text lists) (utf8_document lists can) ∙ document_read lists ∙ document_value lists

  good : is_bad_universe (document_data lists) ≡ false
  good = universe_is (document_data lists) ∙ ap is_none (document_given lists named)

  not_refused : file_refusal (document_text lists) ≡ None
  unfolding file_refusal refusal_in fault bad_header not_an_object bad_version kind_of kind_at version_at version_read needs_version kind_named field
  not_refused = rw (json_is, good) refl

  gives_no_objects : objects_in (contents_of_file (document_text lists)) ≡ []
  unfolding contents_of_file contents_of_input kind_of kind_at version_at version_read needs_version kind_named field
  gives_no_objects = rw (json_is, document_given lists named) refl

  gives_no_namespaces : namespaces_in (contents_of_file (document_text lists)) ≡ []
  unfolding contents_of_file contents_of_input kind_of kind_at version_at version_read needs_version kind_named field
  gives_no_namespaces = rw (json_is, document_given lists named) refl

  gives_no_accounts : accounts_in (contents_of_file (document_text lists)) ≡ []
  unfolding contents_of_file contents_of_input kind_of kind_at version_at version_read needs_version kind_named field
  gives_no_accounts = rw (json_is, document_given lists named) refl

  gives_no_api_list : list_any is_api_list (contents_of_file (document_text lists)) ≡ false
  unfolding contents_of_file contents_of_input kind_of kind_at version_at version_read needs_version kind_named field
  gives_no_api_list = rw (json_is, document_given lists named) refl

  gives_no_entries : flat_map api_entries (contents_of_file (document_text lists)) ≡ []
  unfolding contents_of_file contents_of_input kind_of kind_at version_at version_read needs_version kind_named field
  gives_no_entries = rw (json_is, document_given lists named) refl

  gives_no_memberships : memberships_in (contents_of_file (document_text lists)) ≡ []
  unfolding contents_of_file contents_of_input kind_of kind_at version_at version_read needs_version kind_named field
  gives_no_memberships = rw (json_is, document_given lists named) refl

  gives_lists : documents_in (contents_of_file (document_text lists)) ≡ given lists ∷ []
  unfolding contents_of_file contents_of_input kind_of kind_at version_at version_read needs_version kind_named field
  gives_lists = rw (json_is, document_given lists named) refl

-- ---- after other inputs

no_refusal : (file : ℕ) (r : _) (later : Option LoadFault) → file_or file r later ≡ None → (r ≡ None) × (later ≡ None)
no_refusal file None later e = (refl, e)
no_refusal file (Some r) later e = cc

fault_push : (inputs : List (List ℕ)) (text : List ℕ) (file : ℕ) → fault_from file inputs ≡ None → file_refusal text ≡ None → fault_from file (inputs ++ text ∷ []) ≡ None
fault_push [] text file e none = rw none refl
fault_push (bytes ∷ rest) text file e none =
    let parts = no_refusal file (file_refusal bytes) (fault_from (file + 1) rest) e in
    rw (parts.0) (fault_push rest text (file + 1) parts.1 none)

last_contents : (inputs : List (List ℕ)) (text : List ℕ) → all_contents (inputs ++ text ∷ []) ≡ all_contents inputs ++ contents_of_file text
last_contents inputs text = flat_map-append contents_of_file inputs (text ∷ []) ∙ ap (λ l. all_contents inputs ++ l) (append-nil (contents_of_file text))

-- what the last input gives none of is what the others give
none_more : {C X : Type 0} (pick : C → Option X) (gs hs : List C) → filter_map pick hs ≡ [] → filter_map pick (gs ++ hs) ≡ filter_map pick gs
none_more pick gs hs e = filter_map-append pick gs hs ∙ ap (λ l. filter_map pick gs ++ l) e ∙ append-nil (filter_map pick gs)

or_false : (b : Bool) → (b || false) ≡ b
or_false true = refl
or_false false = refl

last_push : {X : Type 0} (o : Option X) (xs : List X) (x : X) → last_or o (xs ++ x ∷ []) ≡ Some x
last_push o [] x = refl
last_push o (y ∷ ys) x = last_push (Some y) ys x

-- what the last document gives counts
last_counts : {X : Type 0} (derived x : X) (pick : GivenLists → Option X) (documents : List GivenLists) (last : GivenLists) → pick last ≡ Some x → given_or derived pick (documents ++ last ∷ []) ≡ x
last_counts derived x pick documents last e =
    let picked : filter_map pick (documents ++ last ∷ []) ≡ filter_map pick documents ++ x ∷ [] = filter_map-append pick documents (last ∷ []) ∙ rw e refl in
    ap (λ o. unwrap_or o derived) (ap (last_or None) picked ∙ last_push None (filter_map pick documents) x)

all_given : (h : Held) (c : _) (namespaces : List Text) (accounts : List Account) (documents : List GivenLists) (lists : UniverseLists)
    → lists_meant h c namespaces accounts (documents ++ given lists ∷ []) ≡ lists
all_given h c namespaces accounts documents lists = λ i. record {
  principals = last_counts (principals_of h accounts) lists.principals (λ d. d.principals) documents (given lists) refl i;
  namespaces = last_counts (namespaces_of h namespaces accounts) lists.namespaces (λ d. d.namespaces) documents (given lists) refl i;
  verbs = last_counts (verbs_of h c) lists.verbs (λ d. d.verbs) documents (given lists) refl i;
  resources = last_counts (resources_of h c) lists.resources (λ d. d.resources) documents (given lists) refl i;
  names = last_counts (names_of h) lists.names (λ d. d.names) documents (given lists) refl i;
  urls = last_counts (urls_of h) lists.urls (λ d. d.urls) documents (given lists) refl i;
}

pub taken_back : (inputs : List (List ℕ)) (l : LoadedView) (lists : UniverseLists) → IsLoaded inputs l → AreReadable lists
    → IsLoaded (inputs ++ document_text lists ∷ []) (record l { lists = lists })
taken_back inputs l lists is can =
    let text = document_text lists in
    let gs = all_contents inputs in
    let hs = contents_of_file text in
    let more = last_contents inputs text in
    let objects : objects_in (all_contents (inputs ++ text ∷ [])) ≡ objects_in gs = ap objects_in more ∙ none_more as_object gs hs (gives_no_objects lists can) in
    let namespaces : namespaces_in (all_contents (inputs ++ text ∷ [])) ≡ namespaces_in gs = ap namespaces_in more ∙ none_more as_namespace gs hs (gives_no_namespaces lists can) in
    let accounts : accounts_in (all_contents (inputs ++ text ∷ [])) ≡ accounts_in gs = ap accounts_in more ∙ none_more as_account gs hs (gives_no_accounts lists can) in
    let is_given : list_any is_api_list (all_contents (inputs ++ text ∷ [])) ≡ list_any is_api_list gs = ap (list_any is_api_list) more ∙ list_any-append is_api_list gs hs ∙ ap (λ b. list_any is_api_list gs || b) (gives_no_api_list lists can) ∙ or_false (list_any is_api_list gs) in
    let entries : flat_map api_entries (all_contents (inputs ++ text ∷ [])) ≡ flat_map api_entries gs = ap (flat_map api_entries) more ∙ flat_map-append api_entries gs hs ∙ ap (λ l. flat_map api_entries gs ++ l) (gives_no_entries lists can) ∙ append-nil (flat_map api_entries gs) in
    let documents : documents_in (all_contents (inputs ++ text ∷ [])) ≡ documents_in gs ++ given lists ∷ [] = ap documents_in more ∙ filter_map-append as_lists gs hs ∙ ap (λ l. documents_in gs ++ l) (gives_lists lists can) in
    let memberships : memberships_in (all_contents (inputs ++ text ∷ [])) ≡ memberships_in gs = ap memberships_in more ∙ none_more as_membership gs hs (gives_no_memberships lists can) in
    record {
      accepted = fault_push inputs text 0 is.accepted (not_refused lists can);
      kept = rw objects is.kept;
      policy = is.policy;
      few = is.few;
      principals = is.principals ∙ sym (ap (principals_of l.policy.held) accounts);
      catalogue = is.catalogue ∙ sym (λ i. record { is_given = is_given i; entries = entries i });
      lists = rw documents (sym (all_given l.policy.held l.catalogue (namespaces_in (all_contents (inputs ++ text ∷ []))) (accounts_in (all_contents (inputs ++ text ∷ []))) (documents_in gs) lists));
      replaced = rw (objects, namespaces, accounts) is.replaced;
      memberships = is.memberships ∙ sym memberships;
    }
