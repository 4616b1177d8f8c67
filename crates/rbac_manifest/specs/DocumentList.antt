-- Lists of documents.
use Rattle.std.specs.Prelude.{◌≡◌, ℕ, List, Some, None, Result, Vec}
use Rattle.std.specs.declared.alloc.Global.{Global}
use Rattle.serde_json.specs.Data.{Data, Items, Members}
use Rattle.serde_json.specs.Read.{read}
use Rattle.json_list.specs.List.{with_items}
use Rattle.json_fields.specs.Fields.{elements}
use Rattle.rbac_manifest.specs.Kinds.{kind_of}
use Rattle.rbac_manifest.specs.Document.{bad_header}
use Rattle.rbac_manifest.specs.Load.{first_refusal, contents_of_items}
use Rattle.rbac_manifest.specs.Reads.{Yields}
use Rattle.rbac_manifest.specs.declared.content.Content.{Content}
use Rattle.rbac_manifest.specs.declared.kind.Kind.TheVariants as kinds
use Rattle.rbac_manifest.specs.declared.kind.Implied.{Implied}
use Rattle.rbac_manifest.specs.declared.kind.Implied.TheVariants as lists
use Rattle.rbac_manifest.specs.declared.fault.Refusal.{Refusal}

-- a document is a list with a valid kind and version, and implies this about its items
abbrev pub IsListOf : Implied → Data → Type 0
IsListOf implied d = (bad_header lists.Nothing d ≡ None)
    × (kind_of lists.Nothing d ≡ kinds.List implied)

-- a text is an object with items and these other members, and `given` is what the items give if the
-- list implies this about them
abbrev pub IsReadAs : List ℕ → Implied → Result (Vec Content Global) Refusal → Members → Type 0
IsReadAs text implied given others =
    (ds : Items) × (read text ≡ Some (with_items others ds))
    × Yields given (first_refusal implied 0 (elements ds)) (contents_of_items implied (elements ds))
