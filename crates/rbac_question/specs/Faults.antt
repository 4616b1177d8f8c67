use Rattle.std.specs.Prelude.{◌++◌, List, ℕ, codes}
use Rattle.rbac_question.specs.declared.fault.QuestionFault.{QuestionFault}
use Rattle.rbac_question.specs.declared.fault.QuestionFault.TheVariants.{EmptyWord, UrlSubresource}
use Rattle.rbac_question.specs.declared.fault.QuestionFault.TheVariants.{BadToken, BadPrincipal}
use Rattle.rbac_question.specs.declared.fault.QuestionFault.TheVariants.{BadCode, BadChange}
use Rattle.rbac_question.specs.declared.fault.QuestionFault.TheVariants.{BadStep, BadIndirect}
use Rattle.rbac_question.specs.declared.fault.QuestionFault.TheVariants.{BadEnd, BadLogs}
use Rattle.rbac_question.specs.declared.fault.QuestionFault.TheVariants.{BadRoleName, NoMemory}
use Rattle.rbac_token.specs.declared.fault.TokenFault.{TokenFault}
use Rattle.rbac_token.specs.declared.fault.TokenFault.TheVariants as token

-- the text of a refusal (own)
abbrev pub fault_text : QuestionFault → List ℕ
fault_text EmptyWord = codes "U2 empty word"
fault_text UrlSubresource = codes "U3 subresource with a URL"
fault_text BadToken = codes "U4 bad token"
fault_text BadPrincipal = codes "U5 bad principal"
fault_text BadCode = codes "U6 bad code"
fault_text BadChange = codes "U7 give either --after, or --with or --without"
fault_text BadStep = codes "U8 steps are impersonate, token, run, exec, secrets, nodes, bind, "
    ++ codes "escalate, certificates, webhooks, apiservices, bootstrap, volumes, namespaces"
fault_text BadIndirect = codes "U9 --indirect excludes --anywhere, --any-name, --every, "
    ++ codes "--members and --why; --steps needs --indirect"
fault_text BadEnd = codes "U10 --to takes u:USER, g:GROUP, ClusterRole/NAME, Role/NS/NAME or *; "
    ++ codes "-n NS needs one of the last three"
fault_text BadLogs = codes "U11 --log - may be given once, and needs a FILE: "
    ++ codes "standard input can be read only once"
fault_text BadRoleName = codes "U12 --name is empty, . or .., or has / or %"
fault_text NoMemory = codes "out of memory"

-- the refusal of a line whose token has this fault
abbrev pub question_fault : TokenFault → QuestionFault
question_fault token.NotBase64 = BadToken
question_fault token.BadVersion = BadToken
question_fault token.NotCanonical = BadToken
question_fault token.NoMemory = NoMemory
