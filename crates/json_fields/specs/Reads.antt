-- What a function that reads something returns.
use Rattle.std.specs.Prelude.{◌≡◌, Option, Some, None, Result, Ok, Err}
use Rattle.json_fields.specs.declared.trouble.Trouble.{Trouble}
use Rattle.json_fields.specs.declared.trouble.Trouble.TheVariants.{Shape, Memory}

-- why nothing was read: the value gives nothing, or memory ran out
abbrev pub Fails : {X : Type 0} → Trouble → Option X → Type 0
Fails Shape there = there ≡ None
Fails Memory there = Unit {0}

-- What was read is what the value gives; if its shape was refused, the value gives nothing. If
-- memory ran out, nothing is stated.
abbrev pub Reads : {X : Type 0} → Result X Trouble → Option X → Type 0
Reads (Ok x) there = there ≡ Some x
Reads (Err e) there = Fails e there
