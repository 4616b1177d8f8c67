-- The texts of faults, as they are printed (own).
use Rattle.std.specs.Prelude.{◌++◌, codes}
use Rattle.std.specs.Fmt.{decimal}
use Rattle.rbac_terms.specs.Text.{Text}
use Rattle.rbac_log.specs.declared.fault.LineFault.{LineFault}
use Rattle.rbac_log.specs.declared.fault.LineFault.TheVariants.{NotJson, NotAnEvent, BadStage}
use Rattle.rbac_log.specs.declared.fault.LineFault.TheVariants.{BadAnnotations, BadVerb, BadUser}
use Rattle.rbac_log.specs.declared.fault.LineFault.TheVariants.{BadImpersonatedUser, BadObjectRef}
use Rattle.rbac_log.specs.declared.fault.LineFault.TheVariants.{BadUri, NoMemory}
use Rattle.rbac_log.specs.declared.log_fault.LogFault.{LogFault}
use Rattle.rbac_log.specs.declared.log_fault.LogFault.TheVariants.{ReadFault, LongLine, LongLog}
use Rattle.rbac_log.specs.declared.log_fault.LogFault.TheVariants.{Line}
use Rattle.rbac_log.specs.declared.log_fault.LogFault.TheVariants as log

-- the number and name of a fault; out of memory has no number
abbrev pub fault_text : LineFault → Text
fault_text NotJson = codes "G1 not JSON"
fault_text NotAnEvent = codes "G2 not an audit event"
fault_text BadStage = codes "G3 bad stage"
fault_text BadAnnotations = codes "G4 bad annotations"
fault_text BadVerb = codes "G5 bad verb"
fault_text BadUser = codes "G6 bad user"
fault_text BadImpersonatedUser = codes "G7 bad impersonatedUser"
fault_text BadObjectRef = codes "G8 bad objectRef"
fault_text BadUri = codes "G9 bad requestURI"
fault_text NoMemory = codes "out of memory"

-- the text of a log's fault
abbrev pub log_fault_text : LogFault → Text
log_fault_text ReadFault = codes "I1 read fault"
log_fault_text (LongLine number) = codes "line " ++ decimal number ++ codes ": I2 too long"
log_fault_text LongLog = codes "I2 too long"
log_fault_text log.NoMemory = codes "out of memory"
log_fault_text (Line number fault) =
    codes "line " ++ decimal number ++ codes ": " ++ fault_text fault
