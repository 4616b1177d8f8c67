use Rattle.std.proofs.Common.{◌≡◌, ◌<◌, ◌≤◌, ℕ}
use Rattle.std.specs.Prelude.{Some, slice_get}
use Rattle.rbac_terms.specs.Text.{Text}
use Rattle.rbac_matrix.specs.Shown.{line_of}
use Rattle.rbac_matrix.specs.Lines.{line}
use Rattle.rbac_matrix.specs.Cursors.{IsCursorAt, IsWithin, KeepGrantVerbs, steps_left}
use Rattle.rbac_matrix.specs.VerbPlaces.{LacksPlace}
use Rattle.rbac_matrix.proofs.bound_runs.Runs.fill_verbs.Given as goal

abbrev pub invariant-loop-no : goal.invariant-loop-no
invariant-loop-no l = record {
  told : KeepGrantVerbs l.index l.universe l.self;
  within : IsWithin l.index (line_of l.line) l.self l.walk;
  verbs : (place : ℕ) (verb : Text) → slice_get l.universe.verbs place ≡ Some verb → LacksPlace l.self.verbs.words.items place → (k : ℕ) → IsCursorAt l.index (line (line_of l.line).who (line_of l.line).namespace verb) k → l.walk.next ≤ k;
  within_all : l.had ≤ l.all;
  had : (place : ℕ) → place < l.had → LacksPlace l.self.verbs.words.items place → ⊥;
  same : l.self ≡ record l.fn.self { grants = l.self.grants; verbs = l.self.verbs };
}

abbrev pub decreases-loop-no : goal.decreases-loop-no
decreases-loop-no l = steps_left l.index l.walk
