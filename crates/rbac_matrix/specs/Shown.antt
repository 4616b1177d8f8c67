-- The lines that references into a universe refer to.
use Rattle.std.specs.Prelude.{◌≡◌, Some, slice_get}
use Rattle.rbac_model.specs.Universes.{UniverseView}
use Rattle.rbac_matrix.specs.declared.line.Line.{Line}
use Rattle.rbac_matrix.specs.Lines.{LineView, line}

-- the line that these references refer to
abbrev pub line_of : Line → LineView
line_of l = line l.principal.now l.namespace.now l.verb.now

-- the line's verb is at its place among the universe's verbs
abbrev pub HasItsVerb : UniverseView → Line → Type 0
HasItsVerb u l = slice_get u.verbs l.verb_place ≡ Some l.verb.now
