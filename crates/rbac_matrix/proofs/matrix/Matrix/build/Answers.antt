use Rattle.std.proofs.Common.{refl}
use Rattle.rbac_matrix.proofs.matrix.Matrix.build.Goals as goal

pub returns : goal.returns
returns c = record {
  lent = record { reaches = c.requires.reaches; seats = c.requires.seats };
  index = refl;
  universe = refl;
}
