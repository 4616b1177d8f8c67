-- What the parts of a `least` line mean.
use Rattle.std.specs.Prelude.{◌≡◌, ◌⊎◌, ◌++◌, ℕ, Bool, List, [], Contains, Option, codes, unwrap_or}
use Rattle.rbac_terms.specs.Text.{Text, slash}
use Rattle.rbac_question.specs.Logs.{HasBadLogs}
use Rattle.rbac_question.specs.PathEnds.{HasNameAfter}
use Rattle.rbac_question.specs.declared.command.Action.{Action}
use Rattle.rbac_question.specs.declared.command.Action.TheVariants.{Least}
use Rattle.rbac_question.specs.declared.fault.QuestionFault.{QuestionFault}
use Rattle.rbac_question.specs.declared.fault.QuestionFault.TheVariants.{EmptyWord, UrlSubresource}
use Rattle.rbac_question.specs.declared.fault.QuestionFault.TheVariants.{BadToken, BadPrincipal}
use Rattle.rbac_question.specs.declared.fault.QuestionFault.TheVariants.{BadCode, BadChange}
use Rattle.rbac_question.specs.declared.fault.QuestionFault.TheVariants.{BadStep, BadIndirect}
use Rattle.rbac_question.specs.declared.fault.QuestionFault.TheVariants.{BadEnd, BadLogs}
use Rattle.rbac_question.specs.declared.fault.QuestionFault.TheVariants.{BadRoleName, NoMemory}

-- the parts of a `least` line: WHO as it stands, `--names`, the text after `--name`, a name for each `--log`, in
-- order, and how many files it has
pub record LeastParts : Type 0 where
  pub key : Text
  pub names : Bool
  pub name : Option Text
  pub logs : List Text
  pub files : ℕ

-- WHO names a user: it is `u:` and a name, which isn't empty (own)
abbrev pub NamesUser : Text → Type 0
NamesUser key = HasNameAfter (codes "u:") key

-- the byte `%`
abbrev pub percent : ℕ
percent = 37

-- the texts that no name may be (Kubernetes, NameMayNotBe, and the empty text)
abbrev pub MayNotBe : Text → Type 0
MayNotBe name = (name ≡ []) ⊎ ((name ≡ codes ".") ⊎ (name ≡ codes ".."))

-- the text has what no name may contain (Kubernetes, NameMayNotContain)
abbrev pub MayNotContain : Text → Type 0
MayNotContain name = Contains name slash ⊎ Contains name percent

-- the text can be the name of a role or a binding (Kubernetes, IsValidPathSegmentName)
abbrev pub IsRoleName : Text → Type 0
IsRoleName name = (¬ MayNotBe name) × (¬ MayNotContain name)

-- the name of the roles and bindings: the one after `--name`, or `least` without it (own)
abbrev pub name_meant : Option Text → Text
name_meant given = unwrap_or given (codes "least")

-- U12: what follows `--name` can't be the name of a role or a binding
abbrev pub HasBadRoleName : Option Text → Type 0
HasBadRoleName given = ¬ IsRoleName (name_meant given)

-- what a `least` line means: it prints roles and bindings of this name, which let the user do what
-- it did by the logs; with `--names`, to the objects of the same names only
abbrev pub MeansLeast : LeastParts → Action → Type 0
MeansLeast l (Least user names name) = (l.key ≡ codes "u:" ++ user) × (names ≡ l.names)
    × (name ≡ name_meant l.name)
MeansLeast l action = ⊥

-- a `least` line without U5, U11 and U12
abbrev pub AcceptsLeast : LeastParts → Type 0
AcceptsLeast l = NamesUser l.key × (¬ HasBadLogs l.logs l.files) × IsRoleName (name_meant l.name)

-- the refusal of a `least` line: U5 if WHO names no user, otherwise U11 for its logs, otherwise U12
-- for `--name` (own); out of memory may come at any time
abbrev pub RefusesLeast : LeastParts → QuestionFault → Type 0
RefusesLeast l EmptyWord = ⊥
RefusesLeast l UrlSubresource = ⊥
RefusesLeast l BadToken = ⊥
RefusesLeast l BadPrincipal = ¬ NamesUser l.key
RefusesLeast l BadCode = ⊥
RefusesLeast l BadChange = ⊥
RefusesLeast l BadStep = ⊥
RefusesLeast l BadIndirect = ⊥
RefusesLeast l BadEnd = ⊥
RefusesLeast l BadLogs = NamesUser l.key × HasBadLogs l.logs l.files
RefusesLeast l BadRoleName =
    NamesUser l.key × (¬ HasBadLogs l.logs l.files) × HasBadRoleName l.name
RefusesLeast l NoMemory = Unit {0}
