-- what a chain of readings gives if one of them fails
use Rattle.std.proofs.Common.{Option, refl}
use Rattle.json_fields.specs.Fields.{◌>>=◌}
use Rattle.json_fields.specs.Reads.{Fails}
use Rattle.json_fields.specs.declared.trouble.Trouble.{Trouble}
use Rattle.json_fields.specs.declared.trouble.Trouble.TheVariants.{Shape, Memory}

pub fails_then : {A B : Type 0} (e : Trouble) (o : Option A) (f : A → Option B) → Fails e o → Fails e (o >>= f)
fails_then Shape o f none = rw none refl
fails_then Memory o f none = tt
