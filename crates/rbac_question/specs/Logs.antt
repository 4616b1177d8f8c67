-- The logs of a line, and how often it reads standard input.
use Rattle.std.specs.Prelude.{◌==◌, ◌++◌, ◌∷◌, ◌<◌, ℕ, Bool, List, [], filter, length, codes}
use Rattle.std.specs.Prelude.{if◌then◌else◌}
use Rattle.std.specs.Str.{bytes_eq}
use Rattle.rbac_terms.specs.Text.{Text}

-- the name of standard input
abbrev pub is_stdin : Text → Bool
is_stdin name = bytes_eq name (codes "-")

-- what a line with these logs and so many files reads besides its files: its logs, and standard
-- input if it has no files
abbrev pub names_read : List Text → ℕ → List Text
names_read logs files = logs ++ (if files == 0 then codes "-" ∷ [] else [])

-- U11: standard input is read more than once (own)
abbrev pub HasBadLogs : List Text → ℕ → Type 0
HasBadLogs logs files = 1 < length (filter is_stdin (names_read logs files))
