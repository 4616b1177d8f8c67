-- How reading an input fails.
use Rattle.std.specs.Prelude.{ℕ, List, codes, Bool, true, false, Result, Ok, Err}
use Rattle.rbac_streams.specs.declared.source.InputFault.{InputFault}
use Rattle.rbac_streams.specs.declared.source.InputFault.TheVariants.{ReadFault, TooLong, NoMemory}

-- whether the result is a failed read
abbrev pub is_read_fault : {T : Type 0} → Result T InputFault → Bool
is_read_fault (Ok input) = false
is_read_fault (Err ReadFault) = true
is_read_fault (Err TooLong) = false
is_read_fault (Err NoMemory) = false

-- how a fault is printed: the number and name of the refusal; out of memory without a number (own)
abbrev pub fault_text : InputFault → List ℕ
fault_text ReadFault = codes "I1 read fault"
fault_text TooLong = codes "I2 too long"
fault_text NoMemory = codes "out of memory"
