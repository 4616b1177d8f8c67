-- The values of an id in `clap`'s matches.
use Rattle.std.specs.Prelude.{Bool, List, [], codes, unwrap_or}
use Rattle.std.specs.Str.{bytes_eq}
use Rattle.clap.specs.Words.{Row, Text, all_of, first_of}

-- the first value of an id, or the empty text
abbrev pub value_at : Text → List Row → Text
value_at id rows = unwrap_or (first_of id rows) []

-- whether the flag is given
abbrev pub has_flag : Text → List Row → Bool
has_flag id rows = bytes_eq (value_at id rows) (codes "true")

-- all values of an id, in order
abbrev pub texts_at : Text → List Row → List Text
texts_at id rows = unwrap_or (all_of id rows) []
