-- Exports that have the same matrix.
use Rattle.std.specs.Prelude.{◌↔◌, ℕ, List, Option}
use Rattle.rbac_universe.specs.declared.fault.UniverseFault.{UniverseFault}
use Rattle.rbac_manifest.specs.Load.{LoadedView}
use Rattle.rbac_token.specs.declared.mark.Mark.{Mark}
use Rattle.rbac_question.specs.declared.command.Action.TheVariants.{Matrix}
use Rattle.rbac_question.specs.declared.command.MatrixOptions.{MatrixOptions}
use Rattle.rbac_cli.specs.Ends.{LacksUniverse}
use Rattle.rbac_cli.specs.Out.{Answers}
use Rattle.rbac_cli.specs.declared.exports.Exports.TheVariants.{Single}
use Rattle.rbac_cli.specs.declared.outcome.Status.{Status}

-- a matrix of either export lists the same, whatever its options are, or lacks its universe for the
-- same fault
pub record HaveOneMatrix (l m : LoadedView) : Type 0 where
  pub answers : (options : MatrixOptions) (after : Option Mark) (limit : Option ℕ)
      (text : List ℕ) (status : Status)
      → Answers (Single l) (Matrix options after limit) text status
      ↔ Answers (Single m) (Matrix options after limit) text status
  pub lacks : (options : MatrixOptions) (after : Option Mark) (limit : Option ℕ)
      (fault : UniverseFault) → LacksUniverse (Single l) (Matrix options after limit) fault
      ↔ LacksUniverse (Single m) (Matrix options after limit) fault
