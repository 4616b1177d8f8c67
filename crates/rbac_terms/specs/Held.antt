-- where the bytes of a text are
use Rattle.std.specs.Prelude.{List, ℕ}
use Rattle.rbac_terms.specs.declared.text.Held.{Held}
use Rattle.rbac_terms.specs.declared.text.Held.TheVariants.{Own, Shared}

-- the bytes of a text, its own or shared
abbrev pub bytes_of : Held → List ℕ
bytes_of (Own bytes) = bytes.items
bytes_of (Shared bytes alloc) = bytes
