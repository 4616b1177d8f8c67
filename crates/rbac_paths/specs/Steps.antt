-- The steps by which one node takes over another (Role Based Access Control Good Practices).
use Rattle.std.specs.Prelude.{◌≡◌, ◌≢◌, List, [], ◌∷◌, codes, cond, Contains, Option, Some, None}
use Rattle.std.specs.Str.{bytes_eq}
use Rattle.rbac_terms.specs.Text.{Text}
use Rattle.rbac_terms.specs.Targets.{Resource}
use Rattle.rbac_terms.specs.Matching.{RuleAllows}
use Rattle.rbac_terms.specs.declared.matching.Rule.{Rule}
use Rattle.rbac_steps.specs.declared.steps.Step.{Step}
use Rattle.rbac_steps.specs.declared.steps.Step.TheVariants.{Impersonate, Token, Run, Exec}
use Rattle.rbac_steps.specs.declared.steps.Step.TheVariants.{Secrets, Nodes, Bind, Escalate}
use Rattle.rbac_steps.specs.declared.steps.Step.TheVariants.{Certificates, Webhooks, ApiServices}
use Rattle.rbac_steps.specs.declared.steps.Step.TheVariants.{Bootstrap, Volumes, Namespaces}
use Rattle.rbac_paths.specs.declared.table.Names.{Names}
use Rattle.rbac_paths.specs.declared.table.Names.TheVariants as names
use Rattle.rbac_paths.specs.declared.table.Counts.{Counts}
use Rattle.rbac_paths.specs.declared.table.Counts.TheVariants as counted
use Rattle.rbac_paths.specs.declared.table.Over.{Over}
use Rattle.rbac_paths.specs.declared.table.Over.TheVariants as over

-- a row of the table: its requests are each of its verbs on each of its resources in its API group;
-- it also says which object names they have, whether they count only in the whole cluster or also
-- in a namespace, and what they take over
pub record StepRowView : Type 0 where
  pub step : Step
  pub names : Names
  pub counts : Counts
  pub verbs : List Text
  pub group : Text
  pub resources : List Text
  pub over : Over

-- a row of the table, from its parts
abbrev pub row : Step → Names → Counts → List Text → Text → List Text → Over → StepRowView
row step names counts verbs group resources over = record {
  step = step;
  names = names;
  counts = counts;
  verbs = verbs;
  group = group;
  resources = resources;
  over = over;
}

-- the core API group
abbrev core : Text
core = []

-- the API group of roles and bindings
abbrev pub rbac : Text
rbac = codes "rbac.authorization.k8s.io"

-- the API group of certificates
abbrev certificates : Text
certificates = codes "certificates.k8s.io"

-- the API group of admission webhooks and policies
abbrev admission : Text
admission = codes "admissionregistration.k8s.io"

-- the API group of API services
abbrev registration : Text
registration = codes "apiregistration.k8s.io"

-- the verb that makes an object; the request has no name
abbrev create : List Text
create = codes "create" ∷ []

-- the verbs that change an object; the request has the object's name
abbrev change : List Text
change = codes "update" ∷ codes "patch" ∷ []

-- the resources of the API group `apps` that make pods, or by which a StatefulSet or a DaemonSet is
-- rolled back to what its pods were
abbrev apps : List Text
apps = codes "controllerrevisions" ∷ codes "daemonsets" ∷ codes "deployments" ∷ codes "replicasets"
    ∷ codes "statefulsets" ∷ []

-- admission webhooks, and policies that change what others write
abbrev admitting : List Text
admitting = codes "mutatingadmissionpolicies" ∷ codes "mutatingadmissionpolicybindings"
    ∷ codes "mutatingwebhookconfigurations" ∷ codes "validatingwebhookconfigurations" ∷ []

-- the table of steps: the Kubernetes page names most of the steps (Role Based Access Control Good
-- Practices), and this project chooses the others, and the requests of each (own)
abbrev pub table : List StepRowView
table =
    row Impersonate names.Own counted.ClusterWide (codes "impersonate" ∷ []) core
    (codes "users" ∷ []) over.Users
    ∷ row Impersonate names.Own counted.ClusterWide (codes "impersonate" ∷ []) core
    (codes "groups" ∷ []) over.Groups
    ∷ row Impersonate names.Own counted.InNamespaces (codes "impersonate" ∷ []) core
    (codes "serviceaccounts" ∷ []) over.Accounts
    ∷ row Token names.Own counted.InNamespaces create core (codes "serviceaccounts/token" ∷ [])
    over.Accounts
    ∷ row Run names.None counted.InNamespaces create core
    (codes "pods" ∷ codes "replicationcontrollers" ∷ []) over.Accounts
    ∷ row Run names.None counted.InNamespaces create (codes "apps") apps over.Accounts
    ∷ row Run names.None counted.InNamespaces create (codes "batch")
    (codes "cronjobs" ∷ codes "jobs" ∷ []) over.Accounts
    ∷ row Run names.Any counted.InNamespaces change core (codes "replicationcontrollers" ∷ [])
    over.Accounts
    ∷ row Run names.Any counted.InNamespaces change (codes "apps") apps over.Accounts
    ∷ row Run names.Any counted.InNamespaces change (codes "batch") (codes "cronjobs" ∷ [])
    over.Accounts
    ∷ row Exec names.Any counted.InNamespaces (codes "create" ∷ codes "get" ∷ []) core
    (codes "pods/attach" ∷ codes "pods/exec" ∷ []) over.Accounts
    ∷ row Exec names.Any counted.InNamespaces change core
    (codes "pods" ∷ codes "pods/ephemeralcontainers" ∷ []) over.Accounts
    ∷ row Secrets names.Any counted.InNamespaces
    (codes "get" ∷ codes "list" ∷ codes "watch" ∷ codes "update" ∷ codes "patch" ∷ codes "delete"
    ∷ []) core (codes "secrets" ∷ []) over.Accounts
    ∷ row Secrets names.None counted.InNamespaces (codes "deletecollection" ∷ []) core
    (codes "secrets" ∷ []) over.Accounts
    ∷ row Nodes names.Any counted.ClusterWide (codes "create" ∷ codes "get" ∷ []) core
    (codes "nodes/proxy" ∷ []) over.Accounts
    ∷ row Bind names.None counted.InNamespaces (codes "bind" ∷ []) rbac (codes "clusterroles" ∷ [])
    over.Everything
    ∷ row Bind names.Own counted.InNamespaces (codes "bind" ∷ []) rbac (codes "clusterroles" ∷ [])
    over.ClusterRoles
    ∷ row Bind names.Own counted.InNamespaces (codes "bind" ∷ []) rbac (codes "roles" ∷ [])
    over.Roles
    ∷ row Escalate names.Any counted.ClusterWide (codes "escalate" ∷ []) rbac
    (codes "clusterroles" ∷ []) over.Everything
    ∷ row Escalate names.Any counted.InNamespaces (codes "escalate" ∷ []) rbac (codes "roles" ∷ [])
    over.EverythingInNamespace
    ∷ row Certificates names.Any counted.ClusterWide change certificates
    (codes "certificatesigningrequests/approval" ∷ []) over.Everything
    ∷ row Certificates names.None counted.ClusterWide create certificates
    (codes "certificatesigningrequests/nodeclient"
    ∷ codes "certificatesigningrequests/selfnodeclient" ∷ []) over.Accounts
    ∷ row Webhooks names.None counted.ClusterWide create admission admitting over.Everything
    ∷ row Webhooks names.Any counted.ClusterWide change admission admitting over.Everything
    ∷ row ApiServices names.None counted.ClusterWide create registration (codes "apiservices" ∷ [])
    over.Everything
    ∷ row ApiServices names.Any counted.ClusterWide change registration (codes "apiservices" ∷ [])
    over.Everything
    ∷ row Bootstrap names.None counted.InKubeSystem create core (codes "secrets" ∷ [])
    over.Bootstrappers
    ∷ row Bootstrap names.Any counted.InKubeSystem change core (codes "secrets" ∷ [])
    over.Bootstrappers
    ∷ row Volumes names.None counted.ClusterWide create core (codes "persistentvolumes" ∷ [])
    over.Nothing
    ∷ row Namespaces names.Any counted.InNamespaces change core (codes "namespaces" ∷ [])
    over.Nothing
    ∷ []

-- the namespace of bootstrap tokens (Authenticating with Bootstrap Tokens)
abbrev pub kube_system : Text
kube_system = codes "kube-system"

-- the namespace of a row's request: the empty one, if the row doesn't count in the namespace
abbrev pub asked_in : Counts → Text → Text
asked_in counted.ClusterWide namespace = []
asked_in counted.InNamespaces namespace = namespace
asked_in counted.InKubeSystem namespace = cond (bytes_eq namespace kube_system) namespace []

-- the object name of a row's request for a node with its own name: no name, that name, or any name
abbrev pub IsNameAsked : Names → Text → Text → Type 0
IsNameAsked names.None own name = name ≡ []
IsNameAsked names.Own own name = name ≡ own
IsNameAsked names.Any own name = Unit {0}

-- a request of the row can have that object name
abbrev pub CanBeNamed : Names → Text → Type 0
CanBeNamed names name = (own : Text) × IsNameAsked names own name

-- the rule allows a request of the row
pub record AllowsRow (r : StepRowView) (rule : Rule) : Type 0 where
  pub verb : Text
  pub text : Text
  pub name : Text
  pub of_verbs : Contains r.verbs verb
  pub of_resources : Contains r.resources text
  pub named : CanBeNamed r.names name
  pub allows : RuleAllows rule verb (Resource r.group text name)

-- the row counts in the namespace; none counts in the empty one, where no binding is live
abbrev pub CountsThere : Counts → Text → Type 0
CountsThere counted.ClusterWide namespace = ⊥
CountsThere counted.InNamespaces namespace = namespace ≢ []
CountsThere counted.InKubeSystem namespace = namespace ≡ kube_system

-- the row counts for a binding in that namespace, or for a ClusterRoleBinding if there is none, for
-- which every row counts
abbrev pub CountsIn : StepRowView → Option Text → Type 0
CountsIn r None = Unit {0}
CountsIn r (Some namespace) = CountsThere r.counts namespace

-- the rule, granted in that namespace, or in the whole cluster if there is none, allows a request
-- of the row
abbrev pub AllowsIn : Option Text → Rule → StepRowView → Type 0
AllowsIn namespace rule row = CountsIn row namespace × AllowsRow row rule
