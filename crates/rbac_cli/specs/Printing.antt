-- How printing an answer ends, on the way to writing it.
use Rattle.std.specs.Prelude.{◌≡◌, ◌<◌, ℕ, ◌⊎◌, Bool, true, false, List, [], ◌++◌, Option, Result}
use Rattle.std.specs.Prelude.{Ok, Err, MatchResult}
use Rattle.rbac_terms.specs.Text.{Text}
use Rattle.rbac_streams.specs.Streams.{PageView}
use Rattle.rbac_streams.specs.Taken.{Prints, StopsIn}
use Rattle.rbac_streams.specs.declared.page.PrintFault.{PrintFault}
use Rattle.rbac_streams.specs.declared.page.PrintFault.TheVariants as print
use Rattle.rbac_universe.specs.declared.fault.UniverseFault.{UniverseFault}
use Rattle.rbac_universe.specs.declared.fault.UniverseFault.TheVariants as universe
use Rattle.rbac_question.specs.declared.command.Action.{Action}
use Rattle.rbac_cli.specs.Out.{Answers}
use Rattle.rbac_cli.specs.Ends.{WritesPrefix, WritesNothing, LacksUniverse}
use Rattle.rbac_cli.specs.declared.exports.Exports.{Exports}
use Rattle.rbac_cli.specs.declared.outcome.Status.{Status}
use Rattle.rbac_cli.specs.declared.outcome.RunFault.{RunFault}
use Rattle.rbac_cli.specs.declared.outcome.RunFault.TheVariants.{Load, Universe, Memory, Write}
use Rattle.rbac_cli.specs.declared.output.Output.{Output}
use Rattle.rbac_cli.specs.declared.stop.Stop.{Stop}
use Rattle.rbac_cli.specs.declared.stop.Stop.TheVariants.{NoUniverse, NoMemory, SinkFailed}

-- a line was put, the first of those that were left, and the others are left; or none was left
abbrev pub GivesLine : {L : Type 0} → (L → Text → Type 0) → (L → Type 0) → (L → ℕ) → L → Text → L
    → Bool → Type 0
GivesLine are_left is_open most_left old line new true =
    is_open new × (most_left new < most_left old)
    × ((text : Text) → are_left old text
    → (rest : Text) × (text ≡ line ++ rest) × are_left new rest)
GivesLine are_left is_open most_left old line new false =
    (text : Text) → are_left old text → text ≡ []

-- the output borrows the same sink and the same page as before
abbrev pub BorrowsTheSame : {W : Type 0} → Output W → Output W → Type 0
BorrowsTheSame old new = (new.sink.ghost_name ≡ old.sink.ghost_name)
    × (new.page.ghost_name ≡ old.page.ghost_name)

-- more text was printed
abbrev pub PrintsText : {W : Type 0} → (W → Option (List ℕ)) → Output W → Output W → Text → Type 0
PrintsText contents old new text =
    Prints contents old.sink.now old.page.now new.sink.now new.page.now text

-- printing more text stopped
abbrev pub StopsInText : {W : Type 0} → (W → Option (List ℕ)) → Output W → Output W → Text → Type 0
StopsInText contents old new text =
    StopsIn contents old.sink.now old.page.now new.sink.now new.page.now text

-- a text was printed that the action means over what was loaded
abbrev pub PrintsAnswer : {W : Type 0} → (W → Option (List ℕ)) → Output W → Output W → Exports
    → Action → Status → Type 0
PrintsAnswer contents old new e action status =
    (text : Text) × Answers e action text status × PrintsText contents old new text

-- printing stopped within a text that the action means
abbrev pub StopsInAnswer : {W : Type 0} → (W → Option (List ℕ)) → Output W → Output W → Exports
    → Action → Type 0
StopsInAnswer contents old new e action =
    (text : Text) × (status : Status) × Answers e action text status
    × StopsInText contents old new text

-- nothing was printed
abbrev pub IsUntouched : {W : Type 0} → Output W → Output W → Type 0
IsUntouched old new = (new.sink.now ≡ old.sink.now) × (new.page.now ≡ old.page.now)

-- how printing an answer stops: before any of it, with no universe or out of memory; or within it
abbrev pub StopsPrinting : {W : Type 0} → (W → Option (List ℕ)) → Output W → Output W → Exports
    → Action → Stop → Type 0
StopsPrinting contents old new e action (NoUniverse fault) =
    LacksUniverse e action fault × IsUntouched old new
StopsPrinting contents old new e action NoMemory =
    IsUntouched old new ⊎ StopsInAnswer contents old new e action
StopsPrinting contents old new e action SinkFailed = StopsInAnswer contents old new e action

-- the sink failed
abbrev pub is_sink_fault : {T : Type 0} → Result T PrintFault → Bool
is_sink_fault (Ok x) = false
is_sink_fault (Err print.SinkFailed) = true
is_sink_fault (Err print.NoMemory) = false

-- the sink stopped the answer
abbrev pub is_sink_stop : {T : Type 0} → Result T Stop → Bool
is_sink_stop (Ok x) = false
is_sink_stop (Err (NoUniverse fault)) = false
is_sink_stop (Err NoMemory) = false
is_sink_stop (Err SinkFailed) = true

-- how printing an answer ends; the sink failed exactly if the sink stopped the answer
pub record EndsPrinting {W : Type 0} (contents : W → Option (List ℕ)) (old new : Output W)
    (e : Exports) (action : Action) (ended : Result Status Stop) : Type 0 where
  pub ends : MatchResult ended (PrintsAnswer contents old new e action)
      (StopsPrinting contents old new e action)
  pub failed : new.sink.now.has_failed ≡ is_sink_stop ended
  pub same : BorrowsTheSame old new

-- the fault of a run that was stopped, with what the page has written
abbrev pub fault_at : PageView → Stop → RunFault
fault_at page (NoUniverse fault) = Universe fault
fault_at page NoMemory = Memory page.written
fault_at page SinkFailed = Write page.written

-- what stops an answer that a page couldn't print
abbrev pub print_stop : PrintFault → Stop
print_stop print.SinkFailed = SinkFailed
print_stop print.NoMemory = NoMemory

-- what stops an answer whose lists make no universe; out of memory is the same wherever it comes
-- from
abbrev pub universe_stop : UniverseFault → Stop
universe_stop universe.BadTarget = NoUniverse universe.BadTarget
universe_stop universe.TooLarge = NoUniverse universe.TooLarge
universe_stop universe.NoMemory = NoMemory

-- how writing the answer stops, over what was loaded
abbrev pub StopsWith : (List ℕ → Type 0) → Exports → Action → RunFault → Type 0
StopsWith took e action (Load fault) = ⊥
StopsWith took e action (Universe fault) = LacksUniverse e action fault × took []
StopsWith took e action (Memory n) = WritesNothing took n ⊎ WritesPrefix took e action n
StopsWith took e action (Write n) = WritesPrefix took e action n
