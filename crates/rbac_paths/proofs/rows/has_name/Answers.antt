use Rattle.std.proofs.Common.{inl, inr}
use Rattle.std.proofs.lemmas.Bool.{false≢true}
use Rattle.rbac_paths.proofs.rows.has_name.Goals as goal

pub returns-else-is_empty : goal.returns-else-is_empty
returns-else-is_empty c = (
  λ t. inr (c.contains_bytes.ensures.0 t),
  λ m. elim m [
    | inl none ↦ absurd (false≢true (c.if-is_empty.ensures.1 none))
    | inr among ↦ c.contains_bytes.ensures.1 among
  ],
)
