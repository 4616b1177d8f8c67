-- The requests that a log tells of, line by line.
use Rattle.std.specs.Prelude.{◌≡◌, ◌↔◌, ◌⊎◌, ◌==◌, ◌-◌, ◌^◌, ◌≤◌, ℕ, Bool, true, false, nat_lt, suc}
use Rattle.std.specs.Prelude.{List, [], ◌∷◌, ◌++◌, Contains, Option, Result, Ok, Err, length, map}
use Rattle.std.specs.Prelude.{if◌then◌else◌}
use Rattle.std.specs.List.{slice_split}
use Rattle.std.specs.Result.{result_map_both}
use Rattle.std.specs.Str.{is_utf8}
use Rattle.std.specs.Io.KnownBytes.{IsAtEnd}
use Rattle.rbac_diff.specs.Requests.{RequestView}
use Rattle.rbac_log.specs.Line.{requests_in}
use Rattle.rbac_log.specs.Outcome.{Outcome}
use Rattle.rbac_log.specs.declared.fault.LineFault.TheVariants as line
use Rattle.rbac_log.specs.declared.log_fault.LogFault.{LogFault}
use Rattle.rbac_log.specs.declared.log_fault.LogFault.TheVariants.{ReadFault, LongLine, LongLog}
use Rattle.rbac_log.specs.declared.log_fault.LogFault.TheVariants.{NoMemory, Line}
use Rattle.rbac_log.specs.declared.logged.LoggedRequest.{LoggedRequest}

-- the requests of some lines, or the fault of the first line that has one
abbrev pub Told : Type 0
Told = Result (List LoggedRequest) LogFault

-- the most bytes that a line may have: 64 MiB (own)
abbrev pub most_bytes : ℕ
most_bytes = 67108864

-- a newline, which ends a line
abbrev pub is_newline : ℕ → Bool
is_newline b = b == 10

-- the lines of a log: what is before, between and after its newlines
abbrev pub lines_of : List ℕ → List (List ℕ)
lines_of bytes = slice_split is_newline bytes

-- the requests of a line; what isn't UTF-8 isn't JSON (RFC 8259)
abbrev pub line_requests : List ℕ → Outcome (List LoggedRequest)
line_requests bytes = if is_utf8 bytes then requests_in bytes else Err line.NotJson

-- the requests of the line with this number, or its fault: I2 if it is too long (own)
unfoldable pub told_at : ℕ → List ℕ → Told
told_at n bytes = if nat_lt most_bytes (length bytes)
    then Err (LongLine n)
    else result_map_both (λ rs. rs) (Line n) (line_requests bytes)

-- these requests, and then those that are told
abbrev pub following : List LoggedRequest → Told → Told
following rs told = result_map_both (λ more. rs ++ more) (λ e. e) told

-- what is told first, and then the rest, unless the first has a fault
abbrev pub joined : Told → Told → Told
joined (Err e) rest = Err e
joined (Ok rs) rest = following rs rest

-- what lines tell that are numbered from n on
abbrev pub told_by_lines : ℕ → List (List ℕ) → Told
told_by_lines n [] = Ok []
told_by_lines n (bytes ∷ lines) = joined (told_at n bytes) (told_by_lines (suc n) lines)

-- what the bytes tell from line n on
abbrev pub told_from : ℕ → List ℕ → Told
told_from n bytes = told_by_lines n (lines_of bytes)

-- the requests of all lines of a log, in order, or the fault of the first line that has one; lines
-- are counted from 1
abbrev pub log_requests : List ℕ → Told
log_requests bytes = told_from 1 bytes

-- what contracts see of a request that is added to a log
abbrev pub request_view : LoggedRequest → RequestView
request_view r = record { who = r.who; namespace = r.namespace; verb = r.verb; target = r.target }

-- exactly these requests were added
abbrev pub HasAdded : List RequestView → List LoggedRequest → List RequestView → Type 0
HasAdded old rs new =
    (r : RequestView) → Contains new r ↔ (Contains old r ⊎ Contains (map request_view rs) r)

-- the log that was read tells these requests, which were added
abbrev pub IsAddedFrom : List ℕ → List RequestView → List RequestView → Type 0
IsAddedFrom bytes old new =
    (rs : List LoggedRequest) × (log_requests bytes ≡ Ok rs) × HasAdded old rs new

-- the bytes have this fault whatever follows them, or nothing is left to follow them
abbrev pub HasFaultSoFar : Option (List ℕ) → List ℕ → LogFault → Type 0
HasFaultSoFar left bytes fault = (IsAtEnd left × (log_requests bytes ≡ Err fault))
    ⊎ ((more : List ℕ) → log_requests (bytes ++ more) ≡ Err fault)

-- why reading stopped after these bytes: a line has a fault, or they are too many; for a read that
-- failed and for memory nothing is stated
abbrev pub StopsAfter : Option (List ℕ) → List ℕ → LogFault → Type 0
StopsAfter left bytes (LongLine n) = HasFaultSoFar left bytes (LongLine n)
StopsAfter left bytes (Line n fault) = HasFaultSoFar left bytes (Line n fault)
StopsAfter left bytes LongLog = 2 ^ 64 - 1 ≤ length bytes
StopsAfter left bytes ReadFault = Unit {0}
StopsAfter left bytes NoMemory = Unit {0}

-- the log has this fault
abbrev pub IsFaultOf : List ℕ → LogFault → Type 0
IsFaultOf bytes (LongLine n) = log_requests bytes ≡ Err (LongLine n)
IsFaultOf bytes (Line n fault) = log_requests bytes ≡ Err (Line n fault)
IsFaultOf bytes LongLog = 2 ^ 64 - 1 ≤ length bytes
IsFaultOf bytes ReadFault = Unit {0}
IsFaultOf bytes NoMemory = Unit {0}

-- a read failed
abbrev pub is_read_fault : {T : Type 0} → Result T LogFault → Bool
is_read_fault (Ok x) = false
is_read_fault (Err ReadFault) = true
is_read_fault (Err (LongLine n)) = false
is_read_fault (Err LongLog) = false
is_read_fault (Err NoMemory) = false
is_read_fault (Err (Line n fault)) = false
