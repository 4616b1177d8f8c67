-- Which resource a type word means.
use Rattle.std.specs.Prelude.{◌≡◌, ◌≢◌, ◌⊎◌, ℕ, List, [], Option, Some, None, Any, Contains}
use Rattle.std.specs.Prelude.{unwrap_or}
use Rattle.std.specs.Ordering.{ordering_then}
use Rattle.std.specs.declared.cmp.Ordering.{Ordering}
use Rattle.std.specs.declared.cmp.Ordering.TheVariants.{Less}
use Rattle.rbac_terms.specs.Text.{Text, slash, text_cmp, IsCutAtFirst}
use Rattle.rbac_catalogue.specs.declared.entry.Entry.{Entry}
use Rattle.rbac_catalogue.specs.declared.lookup.Found.{Found}

-- the byte `.`
abbrev pub dot : ℕ
dot = 46

-- what an entry is called: its name, its singular name and its short names (Kubernetes API,
-- APIResource)
abbrev pub IsCalled : Text → Entry → Type 0
IsCalled word e = (word ≡ e.name) ⊎ (word ≡ e.singular) ⊎ Contains e.short_names word

-- an entry that words can name: it has a name, and isn't a subresource (own)
abbrev pub HasWords : Entry → Type 0
HasWords e = (e.name ≢ []) × (¬ Contains e.name slash)

-- a word names an entry: words can name the entry, and the word is one of its names; the empty word
-- names nothing (own)
abbrev pub IsNamed : Text → Entry → Type 0
IsNamed word e = (word ≢ []) × HasWords e × IsCalled word e

-- a word names the entry in that group, or in any if none is given
abbrev pub IsNamedInGroup : Option Text → Text → Entry → Type 0
IsNamedInGroup None word e = IsNamed word e
IsNamedInGroup (Some group) word e = (e.group ≡ group) × IsNamed word e

-- the resource that an entry is about; entries of several versions may be about the same one
abbrev pub resource_of : Entry → Found
resource_of e = record { group = e.group; resource = e.name }

-- the order of resources: by group, and within it by name, each byte by byte
abbrev pub resource_cmp : Found → Found → Ordering
resource_cmp a b = ordering_then (text_cmp a.group b.group) (text_cmp a.resource b.resource)

-- the least resource that an entry with the property is about
pub record IsLeastOf (P : Entry → Type 0) (entries : List Entry) (found : Found) : Type 0 where
  pub listed : Any (λ e. P e × (resource_of e ≡ found)) entries
  pub none_before : ¬ Any (λ e. P e × (resource_cmp (resource_of e) found ≡ Less)) entries

-- what a word means in that group, or in any: the least resource that it names there; a word that
-- names none is taken as written, in that group or in the core group, the empty one (own)
abbrev pub IsMeantIn : List Entry → Option Text → Text → Found → Type 0
IsMeantIn entries group word found =
    IsLeastOf (IsNamedInGroup group word) entries found
    ⊎ ((¬ Any (IsNamedInGroup group word) entries)
    × (found ≡ record { group = unwrap_or group []; resource = word }))

-- a type word is a word alone, without a dot, or a word before its first dot and a group after it
-- (own, after kubectl's RESOURCE and RESOURCE.GROUP)
abbrev pub IsWordAndGroup : Text → Text → Option Text → Type 0
IsWordAndGroup typed word None = (typed ≡ word) × (¬ Contains typed dot)
IsWordAndGroup typed word (Some group) = IsCutAtFirst typed dot word group

-- what a type word means according to these entries
unfoldable pub IsFound : List Entry → Text → Found → Type 0
IsFound entries typed found =
    (word : Text) × (group : Option Text) × IsWordAndGroup typed word group
    × IsMeantIn entries group word found

-- a word means this and nothing else
abbrev pub IsOnlyFound : List Entry → Text → Found → Type 0
IsOnlyFound entries typed found = (other : Found) → IsFound entries typed other → other ≡ found
