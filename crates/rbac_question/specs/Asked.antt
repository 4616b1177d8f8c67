use Rattle.std.specs.Prelude.{◌≡◌, ◌≢◌, [], ◌⊎◌, Contains, codes}
use Rattle.rbac_terms.specs.Text.{Text, slash, IsCutAtFirst, BeginsWith}
use Rattle.rbac_terms.specs.Targets.{IsPath}
use Rattle.rbac_question.specs.declared.asked.AskedFor.{AskedFor}
use Rattle.rbac_question.specs.declared.asked.AskedFor.TheVariants.{Url as ForUrl}
use Rattle.rbac_question.specs.declared.asked.AskedFor.TheVariants.{Resource as ForResource}
use Rattle.rbac_question.specs.declared.fault.QuestionFault.{QuestionFault}
use Rattle.rbac_question.specs.declared.fault.QuestionFault.TheVariants.{EmptyWord, UrlSubresource}
use Rattle.rbac_question.specs.declared.fault.QuestionFault.TheVariants.{BadToken, BadPrincipal}
use Rattle.rbac_question.specs.declared.fault.QuestionFault.TheVariants.{BadCode, BadChange}
use Rattle.rbac_question.specs.declared.fault.QuestionFault.TheVariants.{BadStep, BadIndirect}
use Rattle.rbac_question.specs.declared.fault.QuestionFault.TheVariants.{BadEnd, BadLogs}
use Rattle.rbac_question.specs.declared.fault.QuestionFault.TheVariants.{BadRoleName, NoMemory}

-- a type word is not empty, has something before its first dot, and has no slash
abbrev pub IsTypeWord : Text → Type 0
IsTypeWord word = (word ≢ []) × (¬ BeginsWith word (codes ".")) × (¬ Contains word slash)

-- what can be asked for: a URL by its path, or a type word
abbrev pub IsAskable : AskedFor → Type 0
IsAskable (ForUrl path) = IsPath path
IsAskable (ForResource word subresource name) = IsTypeWord word

-- TARGET is TYPE/NAME, split at its first slash, or TYPE alone, whose NAME is the empty text
abbrev pub IsTypeAndName : Text → Text → Text → Type 0
IsTypeAndName target word name = IsCutAtFirst target slash word name
    ⊎ ((¬ Contains target slash) × (word ≡ target) × (name ≡ []))

-- what TARGET and the subresource ask for: a URL if TARGET is a path, otherwise a type
abbrev pub AsksFor : Text → Text → AskedFor → Type 0
AsksFor target subresource (ForUrl path) = IsPath target × (path ≡ target) × (subresource ≡ [])
AsksFor target subresource (ForResource word sub name) = (¬ IsPath target)
    × IsTypeAndName target word name × (sub ≡ subresource)

-- U2 of a target: TARGET is empty, or its type word has nothing before its first dot
abbrev pub LacksType : Text → Type 0
LacksType target = (target ≡ []) ⊎ BeginsWith target (codes ".")

-- U3: a subresource is given for a URL, which has none
abbrev pub HasUrlSubresource : Text → Text → Type 0
HasUrlSubresource target subresource = IsPath target × (subresource ≢ [])

-- the refusal of TARGET and the subresource; out of memory may come at any time
abbrev pub RefusesTarget : Text → Text → QuestionFault → Type 0
RefusesTarget target subresource EmptyWord = LacksType target
RefusesTarget target subresource UrlSubresource = HasUrlSubresource target subresource
RefusesTarget target subresource BadToken = ⊥
RefusesTarget target subresource BadPrincipal = ⊥
RefusesTarget target subresource BadCode = ⊥
RefusesTarget target subresource BadChange = ⊥
RefusesTarget target subresource BadStep = ⊥
RefusesTarget target subresource BadIndirect = ⊥
RefusesTarget target subresource BadEnd = ⊥
RefusesTarget target subresource BadLogs = ⊥
RefusesTarget target subresource BadRoleName = ⊥
RefusesTarget target subresource NoMemory = Unit {0}
