-- What a line tells, or its fault; and what a function that reads it returns.
use Rattle.std.specs.Prelude.{◌≡◌, ◌≢◌, List, ◌++◌, Option, Some, None, Result, Ok, Err, Vec}
use Rattle.std.specs.declared.alloc.Global.{Global}
use Rattle.std.specs.Result.{result_map_both}
use Rattle.json_fields.specs.declared.trouble.Trouble.{Trouble}
use Rattle.json_fields.specs.declared.trouble.Trouble.TheVariants.{Shape, Memory}
use Rattle.rbac_log.specs.declared.fault.LineFault.{LineFault}
use Rattle.rbac_log.specs.declared.fault.LineFault.TheVariants.{NoMemory}
use Rattle.rbac_log.specs.declared.logged.LoggedRequest.{LoggedRequest}

-- what is read, or the first fault
abbrev pub Outcome : Type 0 → Type 0
Outcome X = Result X LineFault

-- what `f` makes of what is read, unless there is a fault
abbrev pub and_then : {A B : Type 0} → Outcome A → (A → Outcome B) → Outcome B
and_then (Err e) f = Err e
and_then (Ok x) f = f x

-- what is there, or this fault if nothing is
abbrev pub or_fault : {X : Type 0} → LineFault → Option X → Outcome X
or_fault fault None = Err fault
or_fault fault (Some x) = Ok x

-- this fault if the shape is wrong, otherwise out of memory
abbrev pub fault_for : Trouble → LineFault → LineFault
fault_for Shape refused = refused
fault_for Memory refused = NoMemory

-- What a function returns is what is said, be it read or a fault. If memory ran out, nothing is
-- stated.
abbrev pub Tells : {X : Type 0} → Outcome X → Outcome X → Type 0
Tells (Ok x) said = said ≡ Ok x
Tells (Err e) said = e ≢ NoMemory → said ≡ Err e

-- the same of a list of requests
abbrev pub TellsAll : Outcome (Vec LoggedRequest Global) → Outcome (List LoggedRequest) → Type 0
TellsAll (Ok requests) said = said ≡ Ok requests.items
TellsAll (Err e) said = e ≢ NoMemory → said ≡ Err e

-- requests, after these
abbrev pub after : List LoggedRequest → Outcome (List LoggedRequest) → Outcome (List LoggedRequest)
after rs said = result_map_both (λ more. rs ++ more) (λ e. e) said

-- A function has added the requests that are said, or returns the fault that is said. If memory ran
-- out, nothing is stated.
abbrev pub Appends : {X : Type 0} → Outcome X → Outcome (List LoggedRequest) → List LoggedRequest
    → List LoggedRequest → Type 0
Appends (Ok x) said old new = after old said ≡ Ok new
Appends (Err e) said old new = e ≢ NoMemory → said ≡ Err e
