-- The steps of the table of powers, and their words (Role Based Access Control Good Practices).
use Rattle.std.specs.Prelude.{List, [], ◌∷◌, codes}
use Rattle.rbac_terms.specs.Text.{Text}
use Rattle.rbac_steps.specs.declared.steps.Step.{Step}
use Rattle.rbac_steps.specs.declared.steps.Step.TheVariants.{Impersonate, Token, Run, Exec}
use Rattle.rbac_steps.specs.declared.steps.Step.TheVariants.{Secrets, Nodes, Bind, Escalate}
use Rattle.rbac_steps.specs.declared.steps.Step.TheVariants.{Certificates, Webhooks, ApiServices, Bootstrap}
use Rattle.rbac_steps.specs.declared.steps.Step.TheVariants.{Volumes, Namespaces}

-- all steps, in order of the table
abbrev pub steps : List Step
steps = Impersonate ∷ Token ∷ Run ∷ Exec ∷ Secrets ∷ Nodes ∷ Bind ∷ Escalate ∷ Certificates
    ∷ Webhooks ∷ ApiServices ∷ Bootstrap ∷ Volumes ∷ Namespaces ∷ []

-- the word for a step (own)
unfoldable pub step_word : Step → Text
step_word Impersonate = codes "impersonate"
step_word Token = codes "token"
step_word Run = codes "run"
step_word Exec = codes "exec"
step_word Secrets = codes "secrets"
step_word Nodes = codes "nodes"
step_word Bind = codes "bind"
step_word Escalate = codes "escalate"
step_word Certificates = codes "certificates"
step_word Webhooks = codes "webhooks"
step_word ApiServices = codes "apiservices"
step_word Bootstrap = codes "bootstrap"
step_word Volumes = codes "volumes"
step_word Namespaces = codes "namespaces"
