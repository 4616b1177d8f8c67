-- How far a log was read.
use Rattle.std.specs.Prelude.{◌≡◌, ◌⊎◌, ◌++◌, ℕ, suc, List, Contains, Err}
use Rattle.rbac_diff.specs.Requests.{RequestView}
use Rattle.rbac_log.specs.Logs.{HasAdded, following, log_requests, told_from}
use Rattle.rbac_log.specs.declared.log_fault.LogFault.{LogFault}
use Rattle.rbac_log.specs.declared.log_fault.LogFault.TheVariants.{ReadFault, LongLine, LongLog}
use Rattle.rbac_log.specs.declared.log_fault.LogFault.TheVariants.{NoMemory, Line}
use Rattle.rbac_log.specs.declared.logged.LoggedRequest.{LoggedRequest}
use Rattle.rbac_log.specs.declared.reading.Tail.{Tail}

-- of these bytes, the requests of all lines that have ended were added, and the tail is what follows
-- them
pub record IsReadTo (bytes : List ℕ) (start : List RequestView) (tail : Tail)
    (now : List RequestView) : Type 0 where
  pub requests : List LoggedRequest
  pub added : HasAdded start requests now
  pub leads : (more : List ℕ) → log_requests (bytes ++ more)
      ≡ following requests (told_from (suc tail.ended) (tail.bytes.items ++ more))
  pub open_line : ¬ Contains tail.bytes.items 10

-- a fault of a line
abbrev pub IsOfLine : LogFault → Type 0
IsOfLine ReadFault = ⊥
IsOfLine (LongLine n) = Unit {0}
IsOfLine LongLog = ⊥
IsOfLine NoMemory = ⊥
IsOfLine (Line n fault) = Unit {0}

-- the bytes that were read have this fault whatever follows them, unless memory ran out
abbrev pub FailsAfter : List ℕ → LogFault → Type 0
FailsAfter bytes fault = (fault ≡ NoMemory) ⊎ (IsOfLine fault
    × ((more : List ℕ) → log_requests (bytes ++ more) ≡ Err fault))
