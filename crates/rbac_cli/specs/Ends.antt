-- How a run ends. `took bytes` means that the writer took exactly these bytes in the run.
use Rattle.std.specs.Prelude.{◌≡◌, ◌≢◌, ℕ, ◌⊎◌, Bool, true, false, List, [], length, Result, Ok}
use Rattle.std.specs.Prelude.{◌↔◌, Contains, Err, MatchResult}
use Rattle.rbac_streams.specs.Taken.{counted}
use Rattle.rbac_terms.specs.Text.{BeginsWith}
use Rattle.rbac_diff.specs.Requests.{RequestView}
use Rattle.rbac_document.specs.Names.{resource_name}
use Rattle.rbac_lists.specs.Wide.{AreTooMany}
use Rattle.rbac_universe.specs.Sets.{HasUniverseFault}
use Rattle.rbac_universe.specs.declared.fault.UniverseFault.{UniverseFault}
use Rattle.rbac_universe.specs.declared.fault.UniverseFault.TheVariants as universe
use Rattle.rbac_manifest.specs.declared.fault.LoadFault.{LoadFault}
use Rattle.rbac_question.specs.declared.command.Action.{Action}
use Rattle.rbac_question.specs.declared.command.Action.TheVariants.{Matrix}
use Rattle.rbac_question.specs.declared.command.Action.TheVariants as action
use Rattle.rbac_question.specs.declared.command.Command.{Command}
use Rattle.rbac_cli.specs.Exports.{AreLoaded, AreInputsRefused}
use Rattle.rbac_cli.specs.Out.{Answers}
use Rattle.rbac_cli.specs.declared.exports.Exports.{Exports}
use Rattle.rbac_cli.specs.declared.exports.Exports.TheVariants.{Single}
use Rattle.rbac_cli.specs.declared.outcome.Status.{Status}
use Rattle.rbac_cli.specs.declared.outcome.RunFault.{RunFault}
use Rattle.rbac_cli.specs.declared.outcome.RunFault.TheVariants.{Load, Universe, Memory, Write}

-- the writer took a text that the action means over what was loaded
abbrev pub Writes : (List ℕ → Type 0) → Exports → Action → Status → Type 0
Writes took e action status = (text : List ℕ) × Answers e action text status × took text

-- the writer took a prefix of a text that the action means, and n is the number of its bytes
abbrev pub WritesPrefix : (List ℕ → Type 0) → Exports → Action → ℕ → Type 0
WritesPrefix took e action n = (text : List ℕ) × (status : Status) × Answers e action text status
    × ((prefix : List ℕ) × BeginsWith text prefix × took prefix × (n ≡ counted 0 (length prefix)))

-- the writer took nothing, and n is 0
abbrev pub WritesNothing : (List ℕ → Type 0) → ℕ → Type 0
WritesNothing took n = took [] × (n ≡ 0)

-- the action is `matrix`, and the lists make no universe because of this fault; or it is
-- `universe`, and the lists have more resources than a universe may have targets (own); out of
-- memory is a fault of its own
abbrev pub LacksUniverse : Exports → Action → UniverseFault → Type 0
LacksUniverse (Single l) (Matrix options after limit) fault = HasUniverseFault l.lists fault
    × (fault ≢ universe.NoMemory)
LacksUniverse (Single l) action.Universe fault = (fault ≡ universe.TooLarge)
    × AreTooMany resource_name l.lists.resources
LacksUniverse e action fault = ⊥

-- the inputs are loaded, and what the command means over them is written
abbrev pub Succeeds : (List ℕ → Type 0) → Command → List (List ℕ) → List RequestView → Status
    → Type 0
Succeeds took command inputs log status = (e : Exports) × AreLoaded command.action inputs log e
    × Writes took e command.action status

-- the inputs are loaded, and writing stopped within what the command means
abbrev pub StopsShort : (List ℕ → Type 0) → Command → List (List ℕ) → List RequestView → ℕ
    → Type 0
StopsShort took command inputs log n = (e : Exports) × AreLoaded command.action inputs log e
    × WritesPrefix took e command.action n

-- inputs are refused for a fault, or the run is out of memory before anything is written
abbrev pub FailsToLoad : (LoadFault → Type 0) → RunFault → Type 0
FailsToLoad refused (Load fault) = refused fault
FailsToLoad refused (Universe fault) = ⊥
FailsToLoad refused (Memory n) = n ≡ 0
FailsToLoad refused (Write n) = ⊥

-- the inputs are refused for the fault that they have, or they are loaded but lack a universe, and
-- in both cases nothing is written; or the run is out of memory; or a write failed
abbrev pub Faults : (List ℕ → Type 0) → Command → List (List ℕ) → List RequestView → RunFault
    → Type 0
Faults took command inputs log (Load fault) =
    AreInputsRefused command.action inputs fault × took []
Faults took command inputs log (Universe fault) = ((e : Exports)
    × AreLoaded command.action inputs log e × LacksUniverse e command.action fault) × took []
Faults took command inputs log (Memory n) =
    WritesNothing took n ⊎ StopsShort took command inputs log n
Faults took command inputs log (Write n) = StopsShort took command inputs log n

-- how a run of the command over these inputs ends
abbrev pub Ends : (List ℕ → Type 0) → Command → List (List ℕ) → List RequestView
    → Result Status RunFault → Type 0
Ends took command inputs log ended =
    MatchResult ended (Succeeds took command inputs log) (Faults took command inputs log)

-- a write failed
abbrev pub is_write_fault : Result Status RunFault → Bool
is_write_fault (Ok status) = false
is_write_fault (Err (Load fault)) = false
is_write_fault (Err (Universe fault)) = false
is_write_fault (Err (Memory n)) = false
is_write_fault (Err (Write n)) = true

-- two logs have the same requests, in whatever order and however often
abbrev pub HaveSameRequests : List RequestView → List RequestView → Type 0
HaveSameRequests log other = (r : RequestView) → Contains log r ↔ Contains other r

-- the run neither ran out of memory nor failed to write
abbrev pub IsUnstopped : Result Status RunFault → Type 0
IsUnstopped (Ok status) = Unit {0}
IsUnstopped (Err (Load fault)) = Unit {0}
IsUnstopped (Err (Universe fault)) = Unit {0}
IsUnstopped (Err (Memory n)) = ⊥
IsUnstopped (Err (Write n)) = ⊥
