-- What a matrix borrows, and where its rows begin.
use Rattle.std.specs.Prelude.{◌≡◌, Option, length}
use Rattle.rbac_terms.specs.Keys.{KeyTexts}
use Rattle.rbac_matrix.specs.Metering.{AreSought}
use Rattle.rbac_reaches.specs.Reaches.{AreReaches}
use Rattle.rbac_matrix.specs.Starting.{BeginsOnLine, IsStart}
use Rattle.rbac_matrix.specs.declared.matrix.Matrix.{Matrix}
use Rattle.rbac_matrix.specs.declared.enumeration.Rows.{Rows}

-- there are as many reaches and as many seats as grants, and each reach is that of its grant's rule
pub record AreLent (m : Matrix) : Type 0 where
  pub reaches : AreReaches m.index.now m.universe.now m.reaches.now
  pub seats : length m.seats.now ≡ length m.index.now.grants

-- the rows begin on the first line, which is the key's own if the universe has it, at the target
-- where the requests after the key begin; the first entry was searched for no more cursors than the
-- line has, and for none if the rows begin with the line's first target
pub record Starts (s : Rows) (k : Option KeyTexts) : Type 0 where
  pub start : IsStart s.universe.now k s.start s.from
  pub here : s.at ≡ s.start
  pub line : BeginsOnLine s.universe.now k s.start s.from
  pub whole : s.from ≡ 0 → s.sought ≡ 0
  pub sought : AreSought s.index.now s.universe.now s.start s.sought
