use Rattle.std.specs.Prelude.{◌≡◌, ◌≢◌, ◌==◌, ◌++◌, ◌∷◌, ◌⊎◌, ◌+◌, ◌<◌, ℕ, Bool, true, false, not}
use Rattle.std.specs.Prelude.{List, [], Option, Some, None, All, filter, map, length, codes}
use Rattle.std.specs.Prelude.{if◌then◌else◌, option_map, vec_items}
use Rattle.std.specs.List.{slice_split}
use Rattle.rbac_terms.specs.Text.{Text}
use Rattle.rbac_terms.specs.Principals.{Who, AsUser, AsMember}
use Rattle.rbac_terms.specs.declared.scope.Scope.{Scope}
use Rattle.rbac_terms.specs.declared.scope.Scope.TheVariants.{Anywhere, Namespace, ClusterWide}
use Rattle.rbac_token.specs.Marks.{IsTokenOfMark}
use Rattle.rbac_token.specs.declared.mark.Mark.{Mark}
use Rattle.rbac_question.specs.Asked.{AsksFor, LacksType, HasUrlSubresource}
use Rattle.rbac_question.specs.declared.command.Action.{Action}
use Rattle.rbac_question.specs.declared.command.Action.TheVariants.{CanI, Matrix, Rules}
use Rattle.rbac_question.specs.declared.command.Action.TheVariants.{Lint, Diff}
use Rattle.rbac_question.specs.declared.command.Change.{Change}
use Rattle.rbac_question.specs.declared.command.Change.TheVariants.{After, Over}
use Rattle.rbac_question.specs.declared.command.MatrixOptions.{MatrixOptions}
use Rattle.rbac_question.specs.declared.command.Question.{Question}
use Rattle.rbac_question.specs.declared.command.VerdictOptions.{VerdictOptions}
use Rattle.rbac_question.specs.declared.fault.QuestionFault.{QuestionFault}
use Rattle.rbac_question.specs.declared.fault.QuestionFault.TheVariants.{EmptyWord, UrlSubresource}
use Rattle.rbac_question.specs.declared.fault.QuestionFault.TheVariants.{BadToken, BadPrincipal}
use Rattle.rbac_question.specs.declared.fault.QuestionFault.TheVariants.{BadCode, BadChange}
use Rattle.rbac_question.specs.declared.fault.QuestionFault.TheVariants.{BadStep, BadIndirect}
use Rattle.rbac_question.specs.declared.fault.QuestionFault.TheVariants.{BadEnd, BadLogs}
use Rattle.rbac_question.specs.declared.fault.QuestionFault.TheVariants.{BadRoleName, NoMemory}
use Rattle.rbac_question.specs.declared.line.DiffLine.{DiffLine}

-- the parts of a line that ask a question; the text of an option that isn't given is empty
pub record QuestionParts : Type 0 where
  pub all_namespaces : Bool
  pub in_namespace : Bool
  pub namespace : Text
  pub subresource : Text
  pub verb : Text
  pub target : Text

-- the parts of a `can-i` line, with a text for each `--group`, in order
pub record CanIParts : Type 0 where
  pub user : Text
  pub groups : Text
  pub whole_groups : List Text
  pub options : VerdictOptions
  pub question : QuestionParts

-- the parts of a line that name a principal: WHO, the text after `--groups`, which is empty if it
-- isn't given, and a text for each `--group`, in order
pub record WhoParts : Type 0 where
  pub key : Text
  pub groups : Text
  pub whole_groups : List Text

-- the parts of a `rules` line; the text of an option that isn't given is empty
pub record RulesParts : Type 0 where
  pub who : WhoParts
  pub namespace : Text
  pub all_namespaces : Bool

-- the parts of a `matrix` line: its flags, the token of `--after` and the number of `--limit`
pub record MatrixParts : Type 0 where
  pub options : MatrixOptions
  pub after : Option Text
  pub limit : Option ℕ

-- the parts of a `lint` line: what follows `--only`, and `--skip-system`
pub record LintParts : Type 0 where
  pub only : Option Text
  pub skip_system : Bool

-- the byte `,`
abbrev pub comma : ℕ
comma = 44

-- the parts before, between and after the places of a byte, in order
abbrev pub parts_between : ℕ → Text → List Text
parts_between b text = slice_split (λ byte. byte == b) text

-- the text has at least one byte
abbrev pub is_not_empty : Text → Bool
is_not_empty text = not (length text == 0)

-- the parts between commas that are not empty, in order (own)
abbrev pub groups_in : Text → List Text
groups_in text = filter is_not_empty (parts_between comma text)

-- the names of an option that may be repeated; none if it isn't given
abbrev pub names_in : Option (List Text) → List Text
names_in None = []
names_in (Some names) = names

-- the groups that are given: the parts of `--groups`, and then each `--group` whole, in order,
-- without empty ones (own)
abbrev pub groups_given : Text → List Text → List Text
groups_given text whole = groups_in text ++ filter is_not_empty whole

-- `-A` means the empty namespace and overrides `-n`; an empty or missing `-n` means `default` (own)
abbrev pub namespace_meant : Bool → Text → Text
namespace_meant true given = []
namespace_meant false given = if length given == 0 then codes "default" else given

-- the question that the parts ask
pub record IsQuestion (l : QuestionParts) (q : Question) : Type 0 where
  pub namespace : q.namespace ≡ namespace_meant l.all_namespaces l.namespace
  pub in_namespace : q.in_namespace ≡ l.in_namespace
  pub verb : q.verb ≡ l.verb
  pub asked : AsksFor l.target l.subresource q.asked

-- what a `can-i` line means: the user with these groups asks the question
abbrev pub MeansCanI : CanIParts → Action → Type 0
MeansCanI l (CanI principal options question) =
    (principal ≡ AsUser l.user (groups_given l.groups l.whole_groups)) × (options ≡ l.options)
    × IsQuestion l.question question
MeansCanI l action = ⊥

-- WHO names the principal: `u:` and the name of a user, who has the groups of `--groups` and
-- `--group`; or `g:` and a group's name, if these options are missing or empty. Neither name is
-- empty (own)
abbrev pub NamesPrincipal : WhoParts → Who → Type 0
NamesPrincipal l (AsUser name given) = (l.key ≡ codes "u:" ++ name) × (name ≢ [])
    × (given ≡ groups_given l.groups l.whole_groups)
NamesPrincipal l (AsMember group) = (l.key ≡ codes "g:" ++ group) × (group ≢ [])
    × (l.groups ≡ []) × All (λ whole. whole ≡ []) l.whole_groups

-- `-A` means the whole cluster at once and overrides `-n`; an empty or missing `-n` means anywhere
-- (own)
abbrev pub scope_meant : Bool → Text → Scope
scope_meant true given = ClusterWide
scope_meant false given = if length given == 0 then Anywhere else Namespace given

-- what a `rules` line means: it asks for the rules that the principal has there
abbrev pub MeansRules : RulesParts → Action → Type 0
MeansRules l (Rules principal scope) = NamesPrincipal l.who principal
    × (scope ≡ scope_meant l.all_namespaces l.namespace)
MeansRules l action = ⊥

-- the mark of `--after`: the one whose token is given, or none without a token (own)
abbrev pub IsMarkGiven : Option Text → Option Mark → Type 0
IsMarkGiven None after = after ≡ None
IsMarkGiven (Some token) None = ⊥
IsMarkGiven (Some token) (Some m) = IsTokenOfMark token m

-- what a `matrix` line means: it lists the rows after the token's mark, at most as many as the
-- limit, with these options
abbrev pub MeansMatrix : MatrixParts → Action → Type 0
MeansMatrix l (Matrix options after limit) =
    (options ≡ l.options) × IsMarkGiven l.after after × (limit ≡ l.limit)
MeansMatrix l action = ⊥

-- the codes of findings are numbered 1 to 7 (own)
abbrev pub IsCode : ℕ → Type 0
IsCode n = (0 < n) × (n < 8)

-- the word of a code: L, and its number as a digit (own)
abbrev pub code_word : ℕ → Text
code_word n = codes "L" ++ (48 + n) ∷ []

-- the text is the word of a code: exactly one of L1, L2, .. L7
unfoldable pub IsCodeWord : Text → Type 0
IsCodeWord word = (n : ℕ) × IsCode n × (word ≡ code_word n)

-- the codes that a text lists between its commas, in order (own)
abbrev pub AreCodesIn : Text → List ℕ → Type 0
AreCodesIn text numbers = All IsCode numbers × (parts_between comma text ≡ map code_word numbers)

-- the codes to list are those of `--only`; without it, there is no list of codes (own)
abbrev pub IsOnly : Option Text → Option (List ℕ) → Type 0
IsOnly None only = only ≡ None
IsOnly (Some text) None = ⊥
IsOnly (Some text) (Some numbers) = AreCodesIn text numbers

-- what a `lint` line means: it lists the findings of these codes; `--skip-system` leaves out those
-- about Kubernetes' own objects
abbrev pub MeansLint : LintParts → Action → Type 0
MeansLint l (Lint only skip_system) = IsOnly l.only (option_map vec_items only)
    × (skip_system ≡ l.skip_system)
MeansLint l action = ⊥

-- the change that a `diff` line gives: `--after` alone, or one or both of `--without` and `--with`
-- (own)
abbrev pub IsChange : DiffLine → Change → Type 0
IsChange l After = (0 < l.after_files) × (l.without_files ≡ 0) × (l.with_files ≡ 0)
IsChange l (Over without) = (l.after_files ≡ 0) × (0 < l.without_files + l.with_files)
    × (without ≡ l.without_files)

-- what a `diff` line means: it compares the files of `--before` with the side after this change
abbrev pub MeansDiff : DiffLine → Action → Type 0
MeansDiff l (Diff before change) = (before ≡ l.before_files) × IsChange l change
MeansDiff l action = ⊥

-- U2 of a question: VERB or TARGET is empty, or the type word has nothing before its dot (own)
abbrev pub LacksWord : QuestionParts → Type 0
LacksWord l = (l.verb ≡ []) ⊎ LacksType l.target

-- a question without U2 and U3
abbrev pub AcceptsQuestion : QuestionParts → Type 0
AcceptsQuestion l = (¬ LacksWord l) × (¬ HasUrlSubresource l.target l.subresource)

-- the refusal of a question: U2 before U3; out of memory may come at any time
abbrev pub RefusesQuestion : QuestionParts → QuestionFault → Type 0
RefusesQuestion l EmptyWord = LacksWord l
RefusesQuestion l UrlSubresource = (¬ LacksWord l) × HasUrlSubresource l.target l.subresource
RefusesQuestion l BadToken = ⊥
RefusesQuestion l BadPrincipal = ⊥
RefusesQuestion l BadCode = ⊥
RefusesQuestion l BadChange = ⊥
RefusesQuestion l BadStep = ⊥
RefusesQuestion l BadIndirect = ⊥
RefusesQuestion l BadEnd = ⊥
RefusesQuestion l BadLogs = ⊥
RefusesQuestion l BadRoleName = ⊥
RefusesQuestion l NoMemory = Unit {0}

-- a `can-i` line without U2 and U3; here an empty USER is U2 too (own)
abbrev pub AcceptsCanI : CanIParts → Type 0
AcceptsCanI l = (l.user ≢ []) × AcceptsQuestion l.question

-- the refusal of a `can-i` line: U2 before U3; out of memory may come at any time
abbrev pub RefusesCanI : CanIParts → QuestionFault → Type 0
RefusesCanI l EmptyWord = (l.user ≡ []) ⊎ LacksWord l.question
RefusesCanI l UrlSubresource = (l.user ≢ []) × RefusesQuestion l.question UrlSubresource
RefusesCanI l BadToken = ⊥
RefusesCanI l BadPrincipal = ⊥
RefusesCanI l BadCode = ⊥
RefusesCanI l BadChange = ⊥
RefusesCanI l BadStep = ⊥
RefusesCanI l BadIndirect = ⊥
RefusesCanI l BadEnd = ⊥
RefusesCanI l BadLogs = ⊥
RefusesCanI l BadRoleName = ⊥
RefusesCanI l NoMemory = Unit {0}

-- U4: the text after `--after` isn't the token of any mark, with or without `--every` (own)
abbrev pub HasBadToken : Option Text → Type 0
HasBadToken None = ⊥
HasBadToken (Some token) = (m : Mark) → ¬ IsTokenOfMark token m

-- the refusal of a `matrix` line; out of memory may come at any time
abbrev pub RefusesMatrix : MatrixParts → QuestionFault → Type 0
RefusesMatrix l EmptyWord = ⊥
RefusesMatrix l UrlSubresource = ⊥
RefusesMatrix l BadToken = HasBadToken l.after
RefusesMatrix l BadPrincipal = ⊥
RefusesMatrix l BadCode = ⊥
RefusesMatrix l BadChange = ⊥
RefusesMatrix l BadStep = ⊥
RefusesMatrix l BadIndirect = ⊥
RefusesMatrix l BadEnd = ⊥
RefusesMatrix l BadLogs = ⊥
RefusesMatrix l BadRoleName = ⊥
RefusesMatrix l NoMemory = Unit {0}

-- U5: WHO, `--groups` and `--group` name no principal (own)
abbrev pub HasBadPrincipal : WhoParts → Type 0
HasBadPrincipal l = (p : Who) → ¬ NamesPrincipal l p

-- the refusal of the parts that name a principal; out of memory may come at any time
abbrev pub RefusesWho : WhoParts → QuestionFault → Type 0
RefusesWho l EmptyWord = ⊥
RefusesWho l UrlSubresource = ⊥
RefusesWho l BadToken = ⊥
RefusesWho l BadPrincipal = HasBadPrincipal l
RefusesWho l BadCode = ⊥
RefusesWho l BadChange = ⊥
RefusesWho l BadStep = ⊥
RefusesWho l BadIndirect = ⊥
RefusesWho l BadEnd = ⊥
RefusesWho l BadLogs = ⊥
RefusesWho l BadRoleName = ⊥
RefusesWho l NoMemory = Unit {0}

-- the refusal of a `rules` line
abbrev pub RefusesRules : RulesParts → QuestionFault → Type 0
RefusesRules l e = RefusesWho l.who e

-- U6: a part between the commas of `--only` isn't the word of a code; an empty text has one part,
-- which is empty (own)
abbrev pub HasBadCode : Option Text → Type 0
HasBadCode None = ⊥
HasBadCode (Some text) = ¬ All IsCodeWord (parts_between comma text)

-- the refusal of a `lint` line; out of memory may come at any time
abbrev pub RefusesLint : LintParts → QuestionFault → Type 0
RefusesLint l EmptyWord = ⊥
RefusesLint l UrlSubresource = ⊥
RefusesLint l BadToken = ⊥
RefusesLint l BadPrincipal = ⊥
RefusesLint l BadCode = HasBadCode l.only
RefusesLint l BadChange = ⊥
RefusesLint l BadStep = ⊥
RefusesLint l BadIndirect = ⊥
RefusesLint l BadEnd = ⊥
RefusesLint l BadLogs = ⊥
RefusesLint l BadRoleName = ⊥
RefusesLint l NoMemory = Unit {0}

-- U7: none of `--after`, `--without` and `--with` is given, or `--after` with one of the others
-- (own)
abbrev pub HasBadChange : DiffLine → Type 0
HasBadChange l = (change : Change) → ¬ IsChange l change

-- the refusal of a `diff` line, which allocates nothing
abbrev pub RefusesDiff : DiffLine → QuestionFault → Type 0
RefusesDiff l BadChange = HasBadChange l
RefusesDiff l e = ⊥
