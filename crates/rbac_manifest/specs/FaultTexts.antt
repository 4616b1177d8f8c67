-- The texts of faults, as they are printed (own). Places are counted from 1.
use Rattle.std.specs.Prelude.{ℕ, ◌+◌, List, [], ◌++◌, codes, Option, Some, None}
use Rattle.std.specs.Fmt.{decimal}
use Rattle.rbac_manifest.specs.declared.fault.Cause.{Cause}
use Rattle.rbac_manifest.specs.declared.fault.Cause.TheVariants.{NotJson, NotAnObject, BadVersion}
use Rattle.rbac_manifest.specs.declared.fault.Cause.TheVariants.{BadMetadata, BadRule, BadRoleRef}
use Rattle.rbac_manifest.specs.declared.fault.Cause.TheVariants.{BadSubject, BadSelector}
use Rattle.rbac_manifest.specs.declared.fault.Cause.TheVariants.{BadCatalogue, BadUniverse, TooMany}
use Rattle.rbac_manifest.specs.declared.fault.Cause.TheVariants.{NoMemory, BadGroup}
use Rattle.rbac_manifest.specs.declared.fault.At.{At}
use Rattle.rbac_manifest.specs.declared.fault.LoadFault.{LoadFault}

-- the number and name of a cause, and for a rule or a subject its place; out of memory has no
-- number
abbrev pub cause_text : Cause → List ℕ
cause_text NotJson = codes "M1 not JSON"
cause_text NotAnObject = codes "M2 not an object"
cause_text BadVersion = codes "M3 bad version"
cause_text BadMetadata = codes "M4 bad metadata"
cause_text (BadRule place) = codes "M5 bad rule " ++ decimal (place + 1)
cause_text BadRoleRef = codes "M6 bad roleRef"
cause_text (BadSubject place) = codes "M7 bad subject " ++ decimal (place + 1)
cause_text BadSelector = codes "M8 bad selector"
cause_text BadCatalogue = codes "M9 bad API resource list"
cause_text BadUniverse = codes "M10 bad universe"
cause_text TooMany = codes "M11 too many grants"
cause_text NoMemory = codes "out of memory"
cause_text BadGroup = codes "M13 bad group"

-- the item, if there is one
abbrev pub item_text : Option ℕ → List ℕ
item_text None = []
item_text (Some item) = codes " item " ++ decimal (item + 1)

-- the file, and the item
abbrev pub at_text : At → List ℕ
at_text at = codes "file " ++ decimal (at.file + 1) ++ item_text at.item

-- what comes before the cause
abbrev pub place_text : Option At → List ℕ
place_text None = []
place_text (Some at) = at_text at ++ codes ": "

-- the place, and the cause
abbrev pub fault_text : LoadFault → List ℕ
fault_text f = place_text f.at ++ cause_text f.cause
