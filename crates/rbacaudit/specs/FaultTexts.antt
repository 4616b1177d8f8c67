-- The texts of faults, as they are printed (own). Files are counted from 1.
use Rattle.std.specs.Prelude.{ℕ, ◌+◌, List, ◌++◌, codes, Option, Some, None}
use Rattle.std.specs.Fmt.{decimal}
use Rattle.rbac_command.specs.Faults.{usage_text}
use Rattle.rbac_log.specs.FaultTexts.{log_fault_text as told}
use Rattle.rbac_log.specs.declared.log_fault.LogFault.{LogFault}
use Rattle.rbac_log.specs.declared.log_fault.LogFault.TheVariants as log
use Rattle.rbac_streams.specs.Faults.{fault_text as input_text}
use Rattle.rbac_streams.specs.declared.source.InputFault.{InputFault}
use Rattle.rbac_streams.specs.declared.source.InputFault.TheVariants.{ReadFault, TooLong, NoMemory}
use Rattle.rbac_cli.specs.RunTexts.{run_fault_text}
use Rattle.rbacaudit.specs.declared.Fault.{Fault}
use Rattle.rbacaudit.specs.declared.Fault.TheVariants.{Words, NotUtf8, Usage, Input, Log}
use Rattle.rbacaudit.specs.declared.Fault.TheVariants.{Run}

-- the place of a file, and why it couldn't be read; out of memory has no place
abbrev pub file_text : ℕ → InputFault → List ℕ
file_text place ReadFault =
    codes "file " ++ decimal (place + 1) ++ codes ": " ++ input_text ReadFault
file_text place TooLong = codes "file " ++ decimal (place + 1) ++ codes ": " ++ input_text TooLong
file_text place NoMemory = input_text NoMemory

-- the place of a log, and why it is refused; out of memory has no place
abbrev pub log_text : ℕ → LogFault → List ℕ
log_text place log.NoMemory = told log.NoMemory
log_text place fault = codes "log " ++ decimal (place + 1) ++ codes ": " ++ told fault

-- the text of a fault; refusals of the system and of clap have texts of their own
abbrev pub fault_text : Fault → Option (List ℕ)
fault_text (Words error) = None
fault_text (NotUtf8 place) = Some (codes "argument " ++ decimal place ++ codes ": not UTF-8")
fault_text (Usage fault) = usage_text fault
fault_text (Input place fault) = Some (file_text place fault)
fault_text (Log place fault) = Some (log_text place fault)
fault_text (Run fault) = Some (run_fault_text fault)
