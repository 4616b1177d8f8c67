-- What inputs give, and which document is refused first.
use Rattle.std.specs.Prelude.{◌≡◌, ◌⊎◌, ◌≤◌, ℕ, ◌+◌, List, [], ◌∷◌, length, codes, Option, Some}
use Rattle.std.specs.Prelude.{None, if◌then◌else◌}
use Rattle.std.specs.Option.{option_to_list}
use Rattle.std.specs.List.{flat_map}
use Rattle.std.specs.Str.{is_utf8}
use Rattle.json_list.specs.declared.fault.ReadFault.{ReadFault}
use Rattle.json_list.specs.declared.fault.ReadFault.TheVariants as unread
use Rattle.serde_json.specs.Data.{Data}
use Rattle.serde_json.specs.Read.{read}
use Rattle.json_fields.specs.Fields.{list_field}
use Rattle.rbac_manifest.specs.Kinds.{kind_of}
use Rattle.rbac_manifest.specs.Document.{fault, stands, content_in}
use Rattle.rbac_manifest.specs.Contents.{objects_in, namespaces_in, accounts_in, catalogue_in}
use Rattle.rbac_manifest.specs.Contents.{documents_in, memberships_in}
use Rattle.rbac_catalogue.specs.Catalogue.{CatalogueView}
use Rattle.rbac_groups.specs.declared.membership.Membership.{Membership}
use Rattle.rbac_universe.specs.declared.lists.UniverseLists.{UniverseLists}
use Rattle.rbac_lists.specs.Derived.{principals_of}
use Rattle.rbac_lists.specs.Meant.{lists_meant}
use Rattle.rbac_terms.specs.Principals.{Who}
use Rattle.rbac_model.specs.declared.objects.Object.{Object}
use Rattle.rbac_model.specs.Kept.{AreKept}
use Rattle.rbac_model.specs.Policies.{Held, PolicyView, IsPolicy, HasTooMany, most_grants}
use Rattle.rbac_manifest.specs.Names.{names_given}
use Rattle.rbac_manifest.specs.Replaced.{AreReplaced}
use Rattle.rbac_manifest.specs.declared.replacement.Replaced.{Replaced}
use Rattle.rbac_manifest.specs.declared.content.Content.{Content}
use Rattle.rbac_manifest.specs.declared.kind.Kind.{Kind}
use Rattle.rbac_manifest.specs.declared.kind.Kind.TheVariants as kinds
use Rattle.rbac_manifest.specs.declared.kind.Implied.{Implied}
use Rattle.rbac_manifest.specs.declared.kind.Implied.TheVariants as lists
use Rattle.rbac_manifest.specs.declared.fault.Cause.{Cause}
use Rattle.rbac_manifest.specs.declared.fault.Cause.TheVariants.{NotAnObject, NotJson, TooMany}
use Rattle.rbac_manifest.specs.declared.fault.Cause.TheVariants.{NoMemory}
use Rattle.rbac_manifest.specs.declared.fault.Refusal.{Refusal}
use Rattle.rbac_manifest.specs.declared.fault.LoadFault.{LoadFault}

-- ---- one input

-- a refusal of the item at a place, counted from 0
abbrev pub in_item : ℕ → Cause → Refusal
in_item place cause = record { item = Some place; cause = cause }

-- a refusal of the whole input
abbrev pub as_whole : Cause → Refusal
as_whole cause = record { item = None; cause = cause }

-- the refusal for this item's fault, or that of the later items if it has none
abbrev pub item_or : ℕ → Option Cause → Option Refusal → Option Refusal
item_or place None later = later
item_or place (Some cause) later = Some (in_item place cause)

-- the refusal of the first item with a fault, with items counted from a place
abbrev pub first_refusal : Implied → ℕ → List Data → Option Refusal
first_refusal implied place [] = None
first_refusal implied place (d ∷ ds) =
    item_or place (fault implied d) (first_refusal implied (place + 1) ds)

-- what the items give
abbrev pub contents_of_items : Implied → List Data → List Content
contents_of_items implied ds = flat_map (λ d. option_to_list (stands implied d)) ds

-- why a list is refused: its items aren't a list (M2), or an item has a fault
abbrev pub list_refusal : Implied → Option (List Data) → Option Refusal
list_refusal implied None = Some (as_whole NotAnObject)
list_refusal implied (Some ds) = first_refusal implied 0 ds

-- what a list gives
abbrev pub contents_of_list : Implied → Option (List Data) → List Content
contents_of_list implied None = []
contents_of_list implied (Some ds) = contents_of_items implied ds

-- why an input is refused for its items, if it is a list
abbrev pub items_refusal : Kind → Data → Option Refusal
items_refusal (kinds.List implied) d = list_refusal implied (list_field (codes "items") d)
items_refusal kind d = None

-- what an input of this kind gives
abbrev pub contents_of_body : Kind → Data → List Content
contents_of_body (kinds.List implied) d = contents_of_list implied (list_field (codes "items") d)
contents_of_body kind d = option_to_list (content_in kind d)

-- the refusal for a fault of the whole input, or that of its items if it has none
abbrev pub whole_or : Option Cause → Option Refusal → Option Refusal
whole_or None items = items
whole_or (Some cause) items = Some (as_whole cause)

-- why an input is refused, if it is: for a fault of its own, otherwise for that of the first item
-- that has one
unfoldable pub refusal_in : Data → Option Refusal
refusal_in d = whole_or (fault lists.Nothing d) (items_refusal (kind_of lists.Nothing d) d)

-- what an input gives
unfoldable pub contents_of_input : Data → List Content
contents_of_input d = contents_of_body (kind_of lists.Nothing d) d

-- ---- all inputs

-- the JSON value that bytes spell, as `serde_json` reads it
unfoldable pub json_in : List ℕ → Option Data
json_in bytes = if is_utf8 bytes then read bytes else None

-- a refusal in the file at a place, counted from 0
abbrev pub in_file : ℕ → Refusal → LoadFault
in_file file r = record { at = Some (record { file = file; item = r.item }); cause = r.cause }

-- why a text that wasn't read is refused
abbrev pub unread_cause : ReadFault → Cause
unread_cause unread.Refused = NotJson
unread_cause unread.NoMemory = NoMemory

-- why the value of a file is refused; bytes that spell no value are M1
abbrev pub refusal_of : Option Data → Option Refusal
refusal_of None = Some (as_whole NotJson)
refusal_of (Some d) = refusal_in d

-- what the value of a file gives
abbrev pub contents_of_value : Option Data → List Content
contents_of_value None = []
contents_of_value (Some d) = contents_of_input d

-- why a file is refused, if it is
unfoldable pub file_refusal : List ℕ → Option Refusal
file_refusal bytes = refusal_of (json_in bytes)

-- what a file gives, in order
unfoldable pub contents_of_file : List ℕ → List Content
contents_of_file bytes = contents_of_value (json_in bytes)

-- the fault of this file, or that of the later files if it has none
abbrev pub file_or : ℕ → Option Refusal → Option LoadFault → Option LoadFault
file_or file None later = later
file_or file (Some r) later = Some (in_file file r)

-- the first fault, with files counted from a place
abbrev pub fault_from : ℕ → List (List ℕ) → Option LoadFault
fault_from file [] = None
fault_from file (bytes ∷ rest) = file_or file (file_refusal bytes) (fault_from (file + 1) rest)

-- the fault of the first document that has one
abbrev pub document_fault : List (List ℕ) → Option LoadFault
document_fault inputs = fault_from 0 inputs

-- what all documents give, in order
abbrev pub all_contents : List (List ℕ) → List Content
all_contents inputs = flat_map contents_of_file inputs

-- ---- what is loaded

-- what contracts see of what was loaded: the policy, the catalogue, the principals that are named,
-- the lists of a universe, the objects that were replaced, and the members of groups
pub record LoadedView : Type 0 where
  pub policy : PolicyView
  pub catalogue : CatalogueView
  pub principals : List Who
  pub lists : UniverseLists
  pub replaced : List Replaced
  pub memberships : List Membership

-- every document is accepted; of each kind, namespace and name the last object is kept (own); the
-- grants follow from the kept objects, and are at most `most_grants`; the catalogue is that of all
-- API resource lists; the principals are those that bindings and ServiceAccount objects name; the
-- lists follow from all of this; the objects listed as replaced are those that several documents
-- give; and the members of groups are those that Group documents list
pub record IsLoaded (inputs : List (List ℕ)) (l : LoadedView) : Type 0 where
  pub accepted : document_fault inputs ≡ None
  pub kept : AreKept (objects_in (all_contents inputs)) l.policy.held
  pub policy : IsPolicy l.policy
  pub few : length l.policy.grants ≤ most_grants
  pub catalogue : l.catalogue ≡ catalogue_in (all_contents inputs)
  pub principals : l.principals ≡ principals_of l.policy.held (accounts_in (all_contents inputs))
  pub lists : l.lists
      ≡ lists_meant l.policy.held l.catalogue (namespaces_in (all_contents inputs))
      (accounts_in (all_contents inputs)) (documents_in (all_contents inputs))
  pub replaced : AreReplaced
      (names_given (objects_in (all_contents inputs)) (namespaces_in (all_contents inputs))
      (accounts_in (all_contents inputs))) l.replaced
  pub memberships : l.memberships ≡ memberships_in (all_contents inputs)

-- M11: all inputs together give more than `most_grants`; this fault has no place
abbrev pub too_many : LoadFault
too_many = record { at = None; cause = TooMany }

-- the fault is that what is kept of these objects gives too many grants
abbrev pub HasTooManyGrants : List Object → LoadFault → Type 0
HasTooManyGrants objects f = (f ≡ too_many)
    × ((held : Held) × AreKept objects held × HasTooMany held)

-- the fault is that of the first document that has one, or, if none has one, that the kept objects
-- give too many grants
abbrev pub HasFault : List (List ℕ) → LoadFault → Type 0
HasFault inputs f =
    (document_fault inputs ≡ Some f)
    ⊎ ((document_fault inputs ≡ None) × HasTooManyGrants (objects_in (all_contents inputs)) f)
