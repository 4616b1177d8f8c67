-- What each subcommand does.
use Rattle.std.proofs.Common.{◌≡◌, ◌∙◌, refl, sym, subst, inl, inr, Bool, true, false, List, codes, Result, Ok, Err, MatchResult}
use Rattle.std.specs.Prelude.{◌||◌}
use Rattle.std.specs.Str.{bytes_eq}
use Rattle.std.proofs.lemmas.Slice.Eq.{bytes_eq-Decides}
use Rattle.clap.specs.Words.{Row, Text, first_of}
use Rattle.rbac_question.specs.Lines.{CanIParts, RulesParts, MatrixParts, LintParts, MeansCanI, MeansRules, MeansMatrix, MeansLint, MeansDiff, AcceptsCanI, RefusesCanI, RefusesRules, RefusesMatrix, RefusesLint, RefusesDiff, HasBadToken, IsMarkGiven}
use Rattle.rbac_question.specs.LeastLines.{LeastParts, AcceptsLeast, MeansLeast, RefusesLeast}
use Rattle.rbac_question.specs.PathsLines.{PathsParts, AcceptsPaths, MeansPaths, RefusesPaths}
use Rattle.rbac_question.specs.UnusedLines.{UnusedParts, MeansUnused, RefusesUnused}
use Rattle.rbac_question.specs.WhoCanLines.{WhoCanParts, MeansWhoCan, AcceptsWhoCan, RefusesWhoCan}
use Rattle.rbac_question.specs.declared.command.Action.{Action}
use Rattle.rbac_question.specs.declared.command.Action.TheVariants.{CanI, WhoCan, WaysTo, Rules, Matrix, Universe, Lint, Unused, Least, Powers, Paths, Diff}
use Rattle.rbac_question.specs.declared.fault.QuestionFault.{QuestionFault}
use Rattle.rbac_question.specs.declared.fault.QuestionFault.TheVariants.{EmptyWord, UrlSubresource, BadToken, BadPrincipal, BadCode, BadChange, BadStep, BadIndirect, BadEnd, BadLogs, BadRoleName, NoMemory}
use Rattle.rbac_question.specs.declared.line.DiffLine.{DiffLine}
use Rattle.rbac_command.specs.MatrixOptions.{matrix_options_in}
use Rattle.rbac_command.specs.Meaning.{parts_in, who_can_in, rules_line_in, paths_line_in, lint_in, diff_in, unused_in, least_in, is_known, DoesAction, IsNumberAt, RefusesAction}

first_of_eleven : (a b c d e f g h i j k : Bool) → a || (b || (c || (d || (e || (f || (g || (h || (i || (j || k))))))))) ≡ true
    → b ≡ false → c ≡ false → d ≡ false → e ≡ false → f ≡ false → g ≡ false → h ≡ false → i ≡ false → j ≡ false → k ≡ false → a ≡ true
first_of_eleven true b c d e f g h i j k known l m n o p q r s t u = refl
first_of_eleven false true c d e f g h i j k known l m n o p q r s t u = cc
first_of_eleven false false true d e f g h i j k known l m n o p q r s t u = cc
first_of_eleven false false false true e f g h i j k known l m n o p q r s t u = cc
first_of_eleven false false false false true f g h i j k known l m n o p q r s t u = cc
first_of_eleven false false false false false true g h i j k known l m n o p q r s t u = cc
first_of_eleven false false false false false false true h i j k known l m n o p q r s t u = cc
first_of_eleven false false false false false false false true i j k known l m n o p q r s t u = cc
first_of_eleven false false false false false false false false true j k known l m n o p q r s t u = cc
first_of_eleven false false false false false false false false false true k known l m n o p q r s t u = cc
first_of_eleven false false false false false false false false false false true known l m n o p q r s t u = cc
first_of_eleven false false false false false false false false false false false known l m n o p q r s t u = cc

-- a known name that is none of the others is `can-i`
pub the_other : (name : Text) (is_matrix is_who_can is_rules is_universe is_lint is_powers is_paths is_diff is_unused is_least : Bool) → is_known name ≡ true
    → is_matrix ≡ bytes_eq name (codes "matrix") → is_matrix ≡ false
    → is_who_can ≡ bytes_eq name (codes "who-can") → is_who_can ≡ false
    → is_rules ≡ bytes_eq name (codes "rules") → is_rules ≡ false
    → is_universe ≡ bytes_eq name (codes "universe") → is_universe ≡ false
    → is_lint ≡ bytes_eq name (codes "lint") → is_lint ≡ false
    → is_powers ≡ bytes_eq name (codes "powers") → is_powers ≡ false
    → is_paths ≡ bytes_eq name (codes "paths") → is_paths ≡ false
    → is_diff ≡ bytes_eq name (codes "diff") → is_diff ≡ false
    → is_unused ≡ bytes_eq name (codes "unused") → is_unused ≡ false
    → is_least ≡ bytes_eq name (codes "least") → is_least ≡ false
    → name ≡ codes "can-i"
the_other name is_matrix is_who_can is_rules is_universe is_lint is_powers is_paths is_diff is_unused is_least known m no_matrix w no_who_can r no_rules u no_universe l no_lint p no_powers a no_paths d no_diff n no_unused t no_least =
    (bytes_eq-Decides name (codes "can-i")).0
    (first_of_eleven (bytes_eq name (codes "can-i")) (bytes_eq name (codes "who-can")) (bytes_eq name (codes "rules")) (bytes_eq name (codes "matrix"))
    (bytes_eq name (codes "universe")) (bytes_eq name (codes "lint")) (bytes_eq name (codes "powers")) (bytes_eq name (codes "paths"))
    (bytes_eq name (codes "diff")) (bytes_eq name (codes "unused")) (bytes_eq name (codes "least")) known (sym w ∙ no_who_can) (sym r ∙ no_rules)
    (sym m ∙ no_matrix) (sym u ∙ no_universe) (sym l ∙ no_lint) (sym p ∙ no_powers) (sym a ∙ no_paths) (sym d ∙ no_diff) (sym n ∙ no_unused) (sym t ∙ no_least))

as_can_i : (name : Text) (rows : List Row) (r : Result Action QuestionFault) → name ≡ codes "can-i"
    → MatchResult r (λ a. AcceptsCanI (parts_in rows) × MeansCanI (parts_in rows) a) (RefusesCanI (parts_in rows))
    → MatchResult r (DoesAction name rows) (RefusesAction name rows)
as_can_i name rows (Ok (CanI principal options question)) e h = (e, h.0, h.1)
as_can_i name rows (Ok (WhoCan options question)) e h = absurd h.1
as_can_i name rows (Ok (WaysTo chosen question)) e h = absurd h.1
as_can_i name rows (Ok (Rules principal scope)) e h = absurd h.1
as_can_i name rows (Ok (Matrix options after limit)) e h = absurd h.1
as_can_i name rows (Ok (Lint only skip_system)) e h = absurd h.1
as_can_i name rows (Ok (Unused skip_system)) e h = absurd h.1
as_can_i name rows (Ok (Least user names called)) e h = absurd h.1
as_can_i name rows (Ok Universe) e h = absurd h.1
as_can_i name rows (Ok Powers) e h = absurd h.1
as_can_i name rows (Ok (Paths principal chosen to)) e h = absurd h.1
as_can_i name rows (Ok (Diff before change)) e h = absurd h.1
as_can_i name rows (Err EmptyWord) e h = inl (e, h)
as_can_i name rows (Err UrlSubresource) e h = inl (e, h)
as_can_i name rows (Err BadToken) e h = absurd h
as_can_i name rows (Err BadPrincipal) e h = absurd h
as_can_i name rows (Err BadCode) e h = absurd h
as_can_i name rows (Err BadChange) e h = absurd h
as_can_i name rows (Err BadStep) e h = absurd h
as_can_i name rows (Err BadIndirect) e h = absurd h
as_can_i name rows (Err BadEnd) e h = absurd h
as_can_i name rows (Err BadLogs) e h = absurd h
as_can_i name rows (Err BadRoleName) e h = absurd h
as_can_i name rows (Err NoMemory) e h = tt

pub can_i_line : (name : Text) (rows : List Row) (l : CanIParts) (r : Result Action QuestionFault) → name ≡ codes "can-i" → l ≡ parts_in rows
    → MatchResult r (λ a. AcceptsCanI l × MeansCanI l a) (RefusesCanI l)
    → MatchResult r (DoesAction name rows) (RefusesAction name rows)
can_i_line name rows l r e same h =
    as_can_i name rows r e (subst (λ (parts : CanIParts). MatchResult r (λ a. AcceptsCanI parts × MeansCanI parts a) (RefusesCanI parts)) same h)

as_who_can : (name : Text) (rows : List Row) (r : Result Action QuestionFault) → name ≡ codes "who-can"
    → MatchResult r (λ a. AcceptsWhoCan (who_can_in rows) × MeansWhoCan (who_can_in rows) a) (RefusesWhoCan (who_can_in rows))
    → MatchResult r (DoesAction name rows) (RefusesAction name rows)
as_who_can name rows (Ok (CanI principal options question)) e h = absurd h.1
as_who_can name rows (Ok (WhoCan options question)) e h = (e, h.0, h.1)
as_who_can name rows (Ok (WaysTo chosen question)) e h = (e, h.0, h.1)
as_who_can name rows (Ok (Rules principal scope)) e h = absurd h.1
as_who_can name rows (Ok (Matrix options after limit)) e h = absurd h.1
as_who_can name rows (Ok (Lint only skip_system)) e h = absurd h.1
as_who_can name rows (Ok (Unused skip_system)) e h = absurd h.1
as_who_can name rows (Ok (Least user names called)) e h = absurd h.1
as_who_can name rows (Ok Universe) e h = absurd h.1
as_who_can name rows (Ok Powers) e h = absurd h.1
as_who_can name rows (Ok (Paths principal chosen to)) e h = absurd h.1
as_who_can name rows (Ok (Diff before change)) e h = absurd h.1
as_who_can name rows (Err EmptyWord) e h = inr (e, h)
as_who_can name rows (Err UrlSubresource) e h = inr (e, h)
as_who_can name rows (Err BadToken) e h = absurd h
as_who_can name rows (Err BadPrincipal) e h = absurd h
as_who_can name rows (Err BadCode) e h = absurd h
as_who_can name rows (Err BadChange) e h = absurd h
as_who_can name rows (Err BadStep) e h = inr (e, h)
as_who_can name rows (Err BadIndirect) e h = (e, h)
as_who_can name rows (Err BadEnd) e h = absurd h
as_who_can name rows (Err BadLogs) e h = absurd h
as_who_can name rows (Err BadRoleName) e h = absurd h
as_who_can name rows (Err NoMemory) e h = tt

pub who_can_line : (name : Text) (rows : List Row) (l : WhoCanParts) (r : Result Action QuestionFault) → name ≡ codes "who-can" → l ≡ who_can_in rows
    → MatchResult r (λ a. AcceptsWhoCan l × MeansWhoCan l a) (RefusesWhoCan l)
    → MatchResult r (DoesAction name rows) (RefusesAction name rows)
who_can_line name rows l r e same h =
    as_who_can name rows r e (subst (λ (parts : WhoCanParts). MatchResult r (λ a. AcceptsWhoCan parts × MeansWhoCan parts a) (RefusesWhoCan parts)) same h)

as_rules : (name : Text) (rows : List Row) (r : Result Action QuestionFault) → name ≡ codes "rules"
    → MatchResult r (MeansRules (rules_line_in rows)) (RefusesRules (rules_line_in rows))
    → MatchResult r (DoesAction name rows) (RefusesAction name rows)
as_rules name rows (Ok (CanI principal options question)) e h = absurd h
as_rules name rows (Ok (WhoCan options question)) e h = absurd h
as_rules name rows (Ok (WaysTo chosen question)) e h = absurd h
as_rules name rows (Ok (Rules principal scope)) e h = (e, h)
as_rules name rows (Ok (Matrix options after limit)) e h = absurd h
as_rules name rows (Ok (Lint only skip_system)) e h = absurd h
as_rules name rows (Ok (Unused skip_system)) e h = absurd h
as_rules name rows (Ok (Least user names called)) e h = absurd h
as_rules name rows (Ok Universe) e h = absurd h
as_rules name rows (Ok Powers) e h = absurd h
as_rules name rows (Ok (Paths principal chosen to)) e h = absurd h
as_rules name rows (Ok (Diff before change)) e h = absurd h
as_rules name rows (Err EmptyWord) e h = absurd h
as_rules name rows (Err UrlSubresource) e h = absurd h
as_rules name rows (Err BadToken) e h = absurd h
as_rules name rows (Err BadPrincipal) e h = inl (inl e, h)
as_rules name rows (Err BadCode) e h = absurd h
as_rules name rows (Err BadChange) e h = absurd h
as_rules name rows (Err BadStep) e h = absurd h
as_rules name rows (Err BadIndirect) e h = absurd h
as_rules name rows (Err BadEnd) e h = absurd h
as_rules name rows (Err BadLogs) e h = absurd h
as_rules name rows (Err BadRoleName) e h = absurd h
as_rules name rows (Err NoMemory) e h = tt

pub rules_line : (name : Text) (rows : List Row) (l : RulesParts) (r : Result Action QuestionFault) → name ≡ codes "rules" → l ≡ rules_line_in rows
    → MatchResult r (MeansRules l) (RefusesRules l)
    → MatchResult r (DoesAction name rows) (RefusesAction name rows)
rules_line name rows l r e same h =
    as_rules name rows r e (subst (λ (parts : RulesParts). MatchResult r (MeansRules parts) (RefusesRules parts)) same h)

as_paths : (name : Text) (rows : List Row) (r : Result Action QuestionFault) → name ≡ codes "paths"
    → MatchResult r (λ a. AcceptsPaths (paths_line_in rows) × MeansPaths (paths_line_in rows) a) (RefusesPaths (paths_line_in rows))
    → MatchResult r (DoesAction name rows) (RefusesAction name rows)
as_paths name rows (Ok (CanI principal options question)) e h = absurd h.1
as_paths name rows (Ok (WhoCan options question)) e h = absurd h.1
as_paths name rows (Ok (WaysTo chosen question)) e h = absurd h.1
as_paths name rows (Ok (Rules principal scope)) e h = absurd h.1
as_paths name rows (Ok (Matrix options after limit)) e h = absurd h.1
as_paths name rows (Ok (Lint only skip_system)) e h = absurd h.1
as_paths name rows (Ok (Unused skip_system)) e h = absurd h.1
as_paths name rows (Ok (Least user names called)) e h = absurd h.1
as_paths name rows (Ok Universe) e h = absurd h.1
as_paths name rows (Ok Powers) e h = absurd h.1
as_paths name rows (Ok (Paths principal chosen to)) e h = (e, h.0, h.1)
as_paths name rows (Ok (Diff before change)) e h = absurd h.1
as_paths name rows (Err EmptyWord) e h = absurd h
as_paths name rows (Err UrlSubresource) e h = absurd h
as_paths name rows (Err BadToken) e h = absurd h
as_paths name rows (Err BadPrincipal) e h = inl (inr e, h)
as_paths name rows (Err BadCode) e h = absurd h
as_paths name rows (Err BadChange) e h = absurd h
as_paths name rows (Err BadStep) e h = inl (e, h)
as_paths name rows (Err BadIndirect) e h = absurd h
as_paths name rows (Err BadEnd) e h = (e, h)
as_paths name rows (Err BadLogs) e h = absurd h
as_paths name rows (Err BadRoleName) e h = absurd h
as_paths name rows (Err NoMemory) e h = tt

pub paths_line : (name : Text) (rows : List Row) (l : PathsParts) (r : Result Action QuestionFault) → name ≡ codes "paths" → l ≡ paths_line_in rows
    → MatchResult r (λ a. AcceptsPaths l × MeansPaths l a) (RefusesPaths l)
    → MatchResult r (DoesAction name rows) (RefusesAction name rows)
paths_line name rows l r e same h =
    as_paths name rows r e (subst (λ (parts : PathsParts). MatchResult r (λ a. AcceptsPaths parts × MeansPaths parts a) (RefusesPaths parts)) same h)

as_lint : (name : Text) (rows : List Row) (r : Result Action QuestionFault) → name ≡ codes "lint"
    → MatchResult r (MeansLint (lint_in rows)) (RefusesLint (lint_in rows))
    → MatchResult r (DoesAction name rows) (RefusesAction name rows)
as_lint name rows (Ok (CanI principal options question)) e h = absurd h
as_lint name rows (Ok (WhoCan options question)) e h = absurd h
as_lint name rows (Ok (WaysTo chosen question)) e h = absurd h
as_lint name rows (Ok (Rules principal scope)) e h = absurd h
as_lint name rows (Ok (Matrix options after limit)) e h = absurd h
as_lint name rows (Ok (Lint only skip_system)) e h = (e, h)
as_lint name rows (Ok (Unused skip_system)) e h = absurd h
as_lint name rows (Ok (Least user names called)) e h = absurd h
as_lint name rows (Ok Universe) e h = absurd h
as_lint name rows (Ok Powers) e h = absurd h
as_lint name rows (Ok (Paths principal chosen to)) e h = absurd h
as_lint name rows (Ok (Diff before change)) e h = absurd h
as_lint name rows (Err EmptyWord) e h = absurd h
as_lint name rows (Err UrlSubresource) e h = absurd h
as_lint name rows (Err BadToken) e h = absurd h
as_lint name rows (Err BadPrincipal) e h = absurd h
as_lint name rows (Err BadCode) e h = (e, h)
as_lint name rows (Err BadChange) e h = absurd h
as_lint name rows (Err BadStep) e h = absurd h
as_lint name rows (Err BadIndirect) e h = absurd h
as_lint name rows (Err BadEnd) e h = absurd h
as_lint name rows (Err BadLogs) e h = absurd h
as_lint name rows (Err BadRoleName) e h = absurd h
as_lint name rows (Err NoMemory) e h = tt

pub lint_line : (name : Text) (rows : List Row) (l : LintParts) (r : Result Action QuestionFault) → name ≡ codes "lint" → l ≡ lint_in rows
    → MatchResult r (MeansLint l) (RefusesLint l)
    → MatchResult r (DoesAction name rows) (RefusesAction name rows)
lint_line name rows l r e same h =
    as_lint name rows r e (subst (λ (parts : LintParts). MatchResult r (MeansLint parts) (RefusesLint parts)) same h)

-- a `matrix` line does what its flags, its token and its number say
pub matrix_line : (name : Text) (rows : List Row) (l : MatrixParts) (r : Result Action QuestionFault) → name ≡ codes "matrix"
    → l.options ≡ matrix_options_in rows → l.after ≡ first_of (codes "after") rows → IsNumberAt (codes "limit") rows l.limit → MatchResult r (MeansMatrix l) (RefusesMatrix l)
    → MatchResult r (DoesAction name rows) (RefusesAction name rows)
matrix_line name rows l (Ok (CanI principal options question)) e v f n h = absurd h
matrix_line name rows l (Ok (WhoCan options question)) e v f n h = absurd h
matrix_line name rows l (Ok (WaysTo chosen question)) e v f n h = absurd h
matrix_line name rows l (Ok (Rules principal scope)) e v f n h = absurd h
matrix_line name rows l (Ok (Matrix options after limit)) e v f n h =
    (e, h.0 ∙ v, subst (λ (t : _). IsMarkGiven t after) f h.1, subst (λ (m : _). IsNumberAt (codes "limit") rows m) (sym h.2) n)
matrix_line name rows l (Ok (Lint only skip_system)) e v f n h = absurd h
matrix_line name rows l (Ok (Unused skip_system)) e v f n h = absurd h
matrix_line name rows l (Ok (Least user names called)) e v f n h = absurd h
matrix_line name rows l (Ok Universe) e v f n h = absurd h
matrix_line name rows l (Ok Powers) e v f n h = absurd h
matrix_line name rows l (Ok (Paths principal chosen to)) e v f n h = absurd h
matrix_line name rows l (Ok (Diff before change)) e v f n h = absurd h
matrix_line name rows l (Err EmptyWord) e v f n h = absurd h
matrix_line name rows l (Err UrlSubresource) e v f n h = absurd h
matrix_line name rows l (Err BadToken) e v f n h = (e, subst HasBadToken f h)
matrix_line name rows l (Err BadPrincipal) e v f n h = absurd h
matrix_line name rows l (Err BadCode) e v f n h = absurd h
matrix_line name rows l (Err BadChange) e v f n h = absurd h
matrix_line name rows l (Err BadStep) e v f n h = absurd h
matrix_line name rows l (Err BadIndirect) e v f n h = absurd h
matrix_line name rows l (Err BadEnd) e v f n h = absurd h
matrix_line name rows l (Err BadLogs) e v f n h = absurd h
matrix_line name rows l (Err BadRoleName) e v f n h = absurd h
matrix_line name rows l (Err NoMemory) e v f n h = tt

as_diff : (name : Text) (rows : List Row) (r : Result Action QuestionFault) → name ≡ codes "diff"
    → MatchResult r (MeansDiff (diff_in rows)) (RefusesDiff (diff_in rows))
    → MatchResult r (DoesAction name rows) (RefusesAction name rows)
as_diff name rows (Ok (CanI principal options question)) e h = absurd h
as_diff name rows (Ok (WhoCan options question)) e h = absurd h
as_diff name rows (Ok (WaysTo chosen question)) e h = absurd h
as_diff name rows (Ok (Rules principal scope)) e h = absurd h
as_diff name rows (Ok (Matrix options after limit)) e h = absurd h
as_diff name rows (Ok Universe) e h = absurd h
as_diff name rows (Ok Powers) e h = absurd h
as_diff name rows (Ok (Paths principal chosen to)) e h = absurd h
as_diff name rows (Ok (Lint only skip_system)) e h = absurd h
as_diff name rows (Ok (Unused skip_system)) e h = absurd h
as_diff name rows (Ok (Least user names called)) e h = absurd h
as_diff name rows (Ok (Diff before change)) e h = (e, h)
as_diff name rows (Err EmptyWord) e h = absurd h
as_diff name rows (Err UrlSubresource) e h = absurd h
as_diff name rows (Err BadToken) e h = absurd h
as_diff name rows (Err BadPrincipal) e h = absurd h
as_diff name rows (Err BadCode) e h = absurd h
as_diff name rows (Err BadChange) e h = (e, h)
as_diff name rows (Err BadStep) e h = absurd h
as_diff name rows (Err BadIndirect) e h = absurd h
as_diff name rows (Err BadEnd) e h = absurd h
as_diff name rows (Err BadLogs) e h = absurd h
as_diff name rows (Err BadRoleName) e h = absurd h
as_diff name rows (Err NoMemory) e h = tt

pub diff_line : (name : Text) (rows : List Row) (l : DiffLine) (r : Result Action QuestionFault) → name ≡ codes "diff" → l ≡ diff_in rows
    → MatchResult r (MeansDiff l) (RefusesDiff l)
    → MatchResult r (DoesAction name rows) (RefusesAction name rows)
diff_line name rows l r e same h =
    as_diff name rows r e (subst (λ (parts : DiffLine). MatchResult r (MeansDiff parts) (RefusesDiff parts)) same h)

as_unused : (name : Text) (rows : List Row) (r : Result Action QuestionFault) → name ≡ codes "unused"
    → MatchResult r (MeansUnused (unused_in rows)) (RefusesUnused (unused_in rows))
    → MatchResult r (DoesAction name rows) (RefusesAction name rows)
as_unused name rows (Ok (CanI principal options question)) e h = absurd h
as_unused name rows (Ok (WhoCan options question)) e h = absurd h
as_unused name rows (Ok (WaysTo chosen question)) e h = absurd h
as_unused name rows (Ok (Rules principal scope)) e h = absurd h
as_unused name rows (Ok (Matrix options after limit)) e h = absurd h
as_unused name rows (Ok Universe) e h = absurd h
as_unused name rows (Ok Powers) e h = absurd h
as_unused name rows (Ok (Paths principal chosen to)) e h = absurd h
as_unused name rows (Ok (Lint only skip_system)) e h = absurd h
as_unused name rows (Ok (Unused skip_system)) e h = (e, h)
as_unused name rows (Ok (Least user names called)) e h = absurd h
as_unused name rows (Ok (Diff before change)) e h = absurd h
as_unused name rows (Err EmptyWord) e h = absurd h
as_unused name rows (Err UrlSubresource) e h = absurd h
as_unused name rows (Err BadToken) e h = absurd h
as_unused name rows (Err BadPrincipal) e h = absurd h
as_unused name rows (Err BadCode) e h = absurd h
as_unused name rows (Err BadChange) e h = absurd h
as_unused name rows (Err BadStep) e h = absurd h
as_unused name rows (Err BadIndirect) e h = absurd h
as_unused name rows (Err BadEnd) e h = absurd h
as_unused name rows (Err BadLogs) e h = inl (e, h)
as_unused name rows (Err BadRoleName) e h = absurd h
as_unused name rows (Err NoMemory) e h = tt

pub unused_line : (name : Text) (rows : List Row) (l : UnusedParts) (r : Result Action QuestionFault) → name ≡ codes "unused" → l ≡ unused_in rows
    → MatchResult r (MeansUnused l) (RefusesUnused l)
    → MatchResult r (DoesAction name rows) (RefusesAction name rows)
unused_line name rows l r e same h =
    as_unused name rows r e (subst (λ (parts : UnusedParts). MatchResult r (MeansUnused parts) (RefusesUnused parts)) same h)

as_least : (name : Text) (rows : List Row) (r : Result Action QuestionFault) → name ≡ codes "least"
    → MatchResult r (λ a. AcceptsLeast (least_in rows) × MeansLeast (least_in rows) a) (RefusesLeast (least_in rows))
    → MatchResult r (DoesAction name rows) (RefusesAction name rows)
as_least name rows (Ok (CanI principal options question)) e h = absurd h.1
as_least name rows (Ok (WhoCan options question)) e h = absurd h.1
as_least name rows (Ok (WaysTo chosen question)) e h = absurd h.1
as_least name rows (Ok (Rules principal scope)) e h = absurd h.1
as_least name rows (Ok (Matrix options after limit)) e h = absurd h.1
as_least name rows (Ok (Lint only skip_system)) e h = absurd h.1
as_least name rows (Ok (Unused skip_system)) e h = absurd h.1
as_least name rows (Ok (Least user names called)) e h = (e, h.0, h.1)
as_least name rows (Ok Universe) e h = absurd h.1
as_least name rows (Ok Powers) e h = absurd h.1
as_least name rows (Ok (Paths principal chosen to)) e h = absurd h.1
as_least name rows (Ok (Diff before change)) e h = absurd h.1
as_least name rows (Err EmptyWord) e h = absurd h
as_least name rows (Err UrlSubresource) e h = absurd h
as_least name rows (Err BadToken) e h = absurd h
as_least name rows (Err BadPrincipal) e h = inr (e, h)
as_least name rows (Err BadCode) e h = absurd h
as_least name rows (Err BadChange) e h = absurd h
as_least name rows (Err BadStep) e h = absurd h
as_least name rows (Err BadIndirect) e h = absurd h
as_least name rows (Err BadEnd) e h = absurd h
as_least name rows (Err BadLogs) e h = inr (e, h)
as_least name rows (Err BadRoleName) e h = (e, h)
as_least name rows (Err NoMemory) e h = tt

pub least_line : (name : Text) (rows : List Row) (l : LeastParts) (r : Result Action QuestionFault) → name ≡ codes "least" → l ≡ least_in rows
    → MatchResult r (λ a. AcceptsLeast l × MeansLeast l a) (RefusesLeast l)
    → MatchResult r (DoesAction name rows) (RefusesAction name rows)
least_line name rows l r e same h =
    as_least name rows r e (subst (λ (parts : LeastParts). MatchResult r (λ a. AcceptsLeast parts × MeansLeast parts a) (RefusesLeast parts)) same h)
