-- What lint finds, as lines in order.
use Rattle.std.specs.Prelude.{◌≡◌, ℕ, ◌+◌, ◌<◌, ◌⊎◌, ◌↔◌, List, [], ◌∷◌, ◌++◌, Option, Some, None}
use Rattle.std.specs.Prelude.{Contains, AllPairs, codes, map, slice_get, unwrap_or}
use Rattle.std.specs.declared.cmp.Ordering.TheVariants.{Less}
use Rattle.rbac_terms.specs.Text.{Text, text_cmp}
use Rattle.rbac_model.specs.Lists.{by_name}
use Rattle.rbac_lint.specs.declared.finding.Finding.{Finding}

-- an object by its kind, its namespace (none for a cluster-scoped object) and its name
pub record ObjectName : Type 0 where
  pub kind : Text
  pub namespace : Option Text
  pub name : Text

-- a namespace and a slash; nothing for a cluster-scoped object
abbrev pub scope_text : Option Text → Text
scope_text None = []
scope_text (Some namespace) = namespace ++ codes "/"

-- the text of an object: `KIND/NAME`, or `KIND/NAMESPACE/NAME` (own)
abbrev pub object_text : ObjectName → Text
object_text o = o.kind ++ codes "/" ++ scope_text o.namespace ++ o.name

-- one line: its code, its object, a place in the object counted from 0, and more about it
pub record Line : Type 0 where
  pub code : ℕ
  pub object : ObjectName
  pub place : Option ℕ
  pub other : Text

-- a line as the program holds it
abbrev pub shown : Line → Finding
shown x = record { code = x.code; object = object_text x.object; place = x.place; other = x.other }

-- the texts by which objects are ordered: kind, namespace and name
abbrev pub object_texts : ObjectName → List Text
object_texts o = o.kind ∷ unwrap_or o.namespace [] ∷ o.name ∷ []

-- a missing place comes before every place
abbrev pub place_key : Option ℕ → ℕ
place_key None = 0
place_key (Some i) = i + 1

-- the order of lines: by code, then by object, then by place, then by the last field (own)
abbrev pub IsLineBefore : Line → Line → Type 0
IsLineBefore a b = (a.code < b.code)
    ⊎ ((a.code ≡ b.code)
    × ((by_name object_texts a.object b.object ≡ Less)
    ⊎ ((object_texts a.object ≡ object_texts b.object) × ((place_key a.place < place_key b.place)
    ⊎ ((a.place ≡ b.place) × (text_cmp a.other b.other ≡ Less))))))

-- exactly the lines that have the property, in order
pub record AreExactly (P : Line → Type 0) (xs : List Line) : Type 0 where
  pub ordered : AllPairs IsLineBefore xs
  pub exact : (x : Line) → Contains xs x ↔ P x

-- the findings are exactly those lines, in order
unfoldable pub AreShown : (Line → Type 0) → List Finding → Type 0
AreShown P found = (xs : List Line) × AreExactly P xs × (found ≡ map shown xs)

-- new is old followed by exactly those lines, in order
unfoldable pub AddsLines : (Line → Type 0) → List Finding → List Finding → Type 0
AddsLines P old new = (xs : List Line) × AreExactly P xs × (new ≡ old ++ map shown xs)

-- a line of one of the first n elements
abbrev pub OfFirst : {X : Type 0} → (ℕ → X → Line → Type 0) → List X → ℕ → Line → Type 0
OfFirst {X} P xs n x = (k : ℕ) × (y : X) × (k < n) × (slice_get xs k ≡ Some y) × P k y x

-- a line of any element
abbrev pub OfEach : {X : Type 0} → (ℕ → X → Line → Type 0) → List X → Line → Type 0
OfEach {X} P xs x = (k : ℕ) × (y : X) × (slice_get xs k ≡ Some y) × P k y x
