use Rattle.std.specs.Prelude.{◌≡◌, ◌≢◌, ℕ, ◌+◌, ◌⊎◌, ◌↔◌, List, [], ◌∷◌, ◌++◌, Option, Some, None}
use Rattle.std.specs.Prelude.{Any, Contains, codes, map, ◌<◌, length}
use Rattle.std.specs.List.{flat_map, filter_map}
use Rattle.std.specs.Option.{option_map}
use Rattle.std.specs.Prelude.{option_and_then, slice_get}
use Rattle.rbac_model.specs.declared.places.GrantPlace.{GrantPlace}
use Rattle.rbac_model.specs.declared.places.RolePlace.{RolePlace}
use Rattle.rbac_model.specs.declared.places.RolePlace.TheVariants.{RoleAt, ClusterRoleAt}
use Rattle.rbac_model.specs.Lists.{IsFirstAt, IsAscendingBy, IsPut}
use Rattle.rbac_terms.specs.Text.{Text}
use Rattle.rbac_terms.specs.Targets.{What, Resource, Url}
use Rattle.rbac_terms.specs.Principals.{Who}
use Rattle.rbac_terms.specs.Selecting.{Selects}
use Rattle.rbac_terms.specs.Granting.{Names, subject_principal}
use Rattle.rbac_terms.specs.Matching.{RuleAllows}
use Rattle.rbac_terms.specs.declared.matching.Rule.{Rule}
use Rattle.rbac_model.specs.declared.objects.Object.{Object}
use Rattle.rbac_model.specs.declared.objects.Object.TheVariants.{Role as ARole}
use Rattle.rbac_model.specs.declared.objects.Object.TheVariants.{ClusterRole as AClusterRole}
use Rattle.rbac_model.specs.declared.objects.Object.TheVariants.{Binding as ABinding}
use Rattle.rbac_terms.specs.declared.granting.Role.{Role}
use Rattle.rbac_terms.specs.declared.granting.ClusterRole.{ClusterRole}
use Rattle.rbac_terms.specs.declared.granting.RoleRef.{RoleRef}
use Rattle.rbac_terms.specs.declared.granting.RoleRef.TheVariants.{Role as ToRole}
use Rattle.rbac_terms.specs.declared.granting.RoleRef.TheVariants.{ClusterRole as ToClusterRole}
use Rattle.rbac_terms.specs.declared.granting.Binding.{Binding}
use Rattle.rbac_terms.specs.declared.granting.Subject.{Subject}
use Rattle.rbac_terms.specs.declared.selecting.Selector.{Selector}

-- the objects that are held, each list in order of names
pub record Held : Type 0 where
  pub roles : List Role
  pub cluster_roles : List ClusterRole
  pub bindings : List Binding

-- the name of a role: its kind, namespace and name
abbrev pub role_name : Role → List Text
role_name r = codes "Role" ∷ r.namespace ∷ r.name ∷ []

-- the name of a cluster role: its kind, the empty namespace, and its name
abbrev pub cluster_role_name : ClusterRole → List Text
cluster_role_name r = codes "ClusterRole" ∷ [] ∷ r.name ∷ []

-- the name of a binding in that namespace, or of a ClusterRoleBinding, which has the empty
-- namespace
abbrev pub binding_name_at : Option Text → Text → List Text
binding_name_at None name = codes "ClusterRoleBinding" ∷ [] ∷ name ∷ []
binding_name_at (Some namespace) name = codes "RoleBinding" ∷ namespace ∷ name ∷ []

-- the name of a binding: its kind, namespace and name
abbrev pub binding_name : Binding → List Text
binding_name b = binding_name_at b.namespace b.name

-- one object for each name, in order (own): ClusterRoleBindings by name, then RoleBindings by
-- namespace and name
pub record IsHeld (h : Held) : Type 0 where
  pub roles : IsAscendingBy role_name h.roles
  pub cluster_roles : IsAscendingBy cluster_role_name h.cluster_roles
  pub bindings : IsAscendingBy binding_name h.bindings

-- new holds the object, and the objects of old that have another kind or name
abbrev pub Puts : Held → Held → Object → Type 0
Puts old new (ARole r) = IsPut role_name old.roles new.roles r
    × (new.cluster_roles ≡ old.cluster_roles) × (new.bindings ≡ old.bindings)
Puts old new (AClusterRole r) = IsPut cluster_role_name old.cluster_roles new.cluster_roles r
    × (new.roles ≡ old.roles) × (new.bindings ≡ old.bindings)
Puts old new (ABinding b) = IsPut binding_name old.bindings new.bindings b × (new.roles ≡ old.roles)
    × (new.cluster_roles ≡ old.cluster_roles)

-- an object of that kind and name is held
abbrev pub HasNameOf : Held → Object → Type 0
HasNameOf h (ARole r) = Any (λ y. role_name y ≡ role_name r) h.roles
HasNameOf h (AClusterRole r) = Any (λ y. cluster_role_name y ≡ cluster_role_name r) h.cluster_roles
HasNameOf h (ABinding b) = Any (λ y. binding_name y ≡ binding_name b) h.bindings

-- a cluster role without an aggregationRule is plain; with one it is aggregated
abbrev pub IsPlain : ClusterRole → Type 0
IsPlain r = r.aggregation ≡ None

-- one of the selectors of an aggregationRule selects the role's labels (Using RBAC Authorization,
-- Aggregated ClusterRoles)
abbrev pub Gathers : Option (List Selector) → ClusterRole → Type 0
Gathers None s = ⊥
Gathers (Some selectors) s = Any (λ selector. Selects selector s.labels) selectors

-- one step: r is aggregated, s is another role, and some selector of r selects the labels of s
-- (Using RBAC Authorization, Aggregated ClusterRoles)
abbrev pub Step : Held → ClusterRole → ClusterRole → Type 0
Step h r s = Contains h.cluster_roles s × (r.name ≢ s.name) × Gathers r.aggregation s

-- a path of steps from r through these roles, one after the other, to s
abbrev pub IsSelectionPath : Held → ClusterRole → List ClusterRole → ClusterRole → Type 0
IsSelectionPath h r [] s = Step h r s
IsSelectionPath h r (m ∷ ms) s = Step h r m × IsSelectionPath h m ms s

-- r reaches s by one or more steps (own: the settled state, computed from plain roles alone)
abbrev pub Reaches : Held → ClusterRole → ClusterRole → Type 0
Reaches h r s = (between : List ClusterRole) × IsSelectionPath h r between s

-- the names of all cluster roles that r reaches, ascending
pub record AreReachedNames (h : Held) (r : ClusterRole) (ws : List Text) : Type 0 where
  pub ordered : IsAscendingBy (λ w. w ∷ []) ws
  pub exact : (w : Text) → Contains ws w ↔ ((s : ClusterRole) × Reaches h r s × (s.name ≡ w))

-- a role of a namespace, or a cluster role: where a rule is written, or what a reference refers to
pub data Source : Type 0 where
  InRole : Role → Source
  InClusterRole : ClusterRole → Source

-- a rule with the role where it is written and its place there, from 0
pub record SourcedRule : Type 0 where
  pub source : Source
  pub rule : Rule
  pub place : ℕ

-- the rules that are written in a role, each with its place, counted from the place given
abbrev pub written_from : Source → ℕ → List Rule → List SourcedRule
written_from source i [] = []
written_from source i (r ∷ rs) = record { source = source; rule = r; place = i }
    ∷ written_from source (i + 1) rs

-- the roles that r gathers from: the plain ones that it reaches, in order of names
pub record AreGathered (h : Held) (r : ClusterRole) (ss : List ClusterRole) : Type 0 where
  pub ordered : IsAscendingBy cluster_role_name ss
  pub exact : (s : ClusterRole) → Contains ss s ↔ (IsPlain s × Reaches h r s)

-- a plain role has the rules written in it; an aggregated one has those of all roles that it
-- gathers from, in order (own)
abbrev pub AreRulesOf : Held → Source → List SourcedRule → Type 0
AreRulesOf h (InRole r) rules = rules ≡ written_from (InRole r) 0 r.rules
AreRulesOf h (InClusterRole r) rules =
    (IsPlain r × (rules ≡ written_from (InClusterRole r) 0 r.rules))
    ⊎ ((¬ IsPlain r)
    × ((ss : List ClusterRole) × AreGathered h r ss
    × (rules ≡ flat_map (λ s. written_from (InClusterRole s) 0 s.rules) ss)))

-- the role that a binding in that namespace, or in none, refers to (Using RBAC Authorization,
-- RoleBinding and ClusterRoleBinding); a ClusterRoleBinding never refers to a Role
abbrev pub IsRefTo : Held → Option Text → RoleRef → Source → Type 0
IsRefTo h (Some namespace) (ToRole name) (InRole r) = Contains h.roles r × (r.namespace ≡ namespace)
    × (r.name ≡ name)
IsRefTo h _ (ToClusterRole name) (InClusterRole r) = Contains h.cluster_roles r × (r.name ≡ name)
IsRefTo h _ _ _ = ⊥

-- the rules that a binding brings: those of its role (Using RBAC Authorization, RoleBinding and
-- ClusterRoleBinding), or none if its role isn't held
abbrev pub AreRulesFor : Held → Binding → List SourcedRule → Type 0
AreRulesFor h b rules =
    ((role : Source) × IsRefTo h b.namespace b.role role × AreRulesOf h role rules)
    ⊎ (((role : Source) → ¬ IsRefTo h b.namespace b.role role) × (rules ≡ []))

-- a grant: a binding whose role is held, and a rule of that role
pub record GrantView : Type 0 where
  pub binding : Binding
  pub rule : SourcedRule

-- the grants of bindings, in order of bindings, then of rules
abbrev pub AreGrantsOf : Held → List Binding → List GrantView → Type 0
AreGrantsOf h [] gs = gs ≡ []
AreGrantsOf h (b ∷ bs) gs =
    (rules : List SourcedRule) × (rest : List GrantView) × AreRulesFor h b rules
    × AreGrantsOf h bs rest
    × (gs ≡ map (λ rule. record { binding = b; rule = rule }) rules ++ rest)

-- the rule at that place among those of a role
abbrev pub rule_at : Source → List Rule → ℕ → Option SourcedRule
rule_at source rules i =
    option_map (λ r. record { source = source; rule = r; place = i }) (slice_get rules i)

-- the rule at place i of the role at that place
abbrev pub sourced_at : Held → RolePlace → ℕ → Option SourcedRule
sourced_at h (RoleAt at) i =
    option_and_then (λ role. rule_at (InRole role) role.rules i) (slice_get h.roles at)
sourced_at h (ClusterRoleAt at) i =
    option_and_then (λ role. rule_at (InClusterRole role) role.rules i)
    (slice_get h.cluster_roles at)

-- the grant at these places, if its binding, its role and its rule are held
abbrev pub grant_at : Held → GrantPlace → Option GrantView
grant_at h g =
    option_and_then (λ b. option_map
    (λ rule. record { binding = b; rule = rule })
    (sourced_at h g.role g.rule)) (slice_get h.bindings g.binding)

-- the grants at these places, in order
abbrev pub grants_at : Held → List GrantPlace → List GrantView
grants_at h gs = filter_map (grant_at h) gs

-- what contracts see of a policy: its objects, and its grants, numbered from 0
pub record PolicyView : Type 0 where
  pub held : Held
  pub grants : List GrantView

-- the grant with that number belongs to the binding at that place
abbrev pub IsOfBinding : PolicyView → ℕ → ℕ → Type 0
IsOfBinding p n at = (g : GrantView) × (slice_get p.grants n ≡ Some g)
    × (slice_get p.held.bindings at ≡ Some g.binding)

-- a policy holds one object for each name, and its grants are those of its bindings
abbrev pub IsPolicy : PolicyView → Type 0
IsPolicy p = IsHeld p.held × AreGrantsOf p.held p.held.bindings p.grants

-- how many grants a policy may have (own)
abbrev pub most_grants : ℕ
most_grants = 1000000

-- the bindings have more grants than a policy may have (own)
abbrev pub HasTooMany : Held → Type 0
HasTooMany h = (gs : List GrantView) × AreGrantsOf h h.bindings gs × (most_grants < length gs)

-- the bindings that are held have only one list of grants
abbrev pub OneListOfGrants : Held → Type 0
OneListOfGrants h = (gs others : List GrantView) → AreGrantsOf h h.bindings gs
    → AreGrantsOf h h.bindings others → gs ≡ others

-- where a binding is live (Using RBAC Authorization): a ClusterRoleBinding everywhere, a
-- RoleBinding for resources in its own namespace, but never in the empty one
abbrev pub Live : Option Text → Text → What → Type 0
Live None asked t = Unit {0}
Live (Some namespace) asked (Resource _ _ _) = (asked ≢ []) × (namespace ≡ asked)
Live (Some namespace) asked (Url _) = ⊥

-- some subject of the binding names the principal (Using RBAC Authorization, Referring to subjects)
abbrev pub BindingNames : Binding → Who → Type 0
BindingNames b who = Any (λ subject. Names subject b.namespace who) b.subjects

-- some binding has a subject that stands for the principal (own)
abbrev pub HasSubject : Held → Who → Type 0
HasSubject h who =
    Any (λ b. Any (λ s. subject_principal b.namespace s ≡ Some who) b.subjects) h.bindings

-- the binding brings a rule that allows the verb on the target
abbrev pub Brings : Held → Binding → Text → What → Type 0
Brings h b verb t = (rules : List SourcedRule) × AreRulesFor h b rules
    × Any (λ r. RuleAllows r.rule verb t) rules

-- a binding grants a request: it is live, names the principal, and brings a rule that allows the
-- verb on the target (Using RBAC Authorization)
abbrev pub Grants : Held → Binding → Who → Text → Text → What → Type 0
Grants h b who namespace verb t = Live b.namespace namespace t × BindingNames b who
    × Brings h b verb t

-- some binding grants the request; there are no deny rules (Using RBAC Authorization)
abbrev pub Allows : Held → Who → Text → Text → What → Type 0
Allows h who namespace verb t = Any (λ b. Grants h b who namespace verb t) h.bindings

-- b is the first binding that grants the request (own)
abbrev pub IsFirst : Held → Who → Text → Text → What → Binding → Type 0
IsFirst h who namespace verb t b = (i : ℕ)
    × IsFirstAt (λ c. Grants h c who namespace verb t) h.bindings i b

-- a grant allows a request: its binding is live and names the principal, and its rule allows the
-- verb on the target
abbrev pub GrantAllows : Who → Text → Text → What → GrantView → Type 0
GrantAllows who namespace verb t g = Live g.binding.namespace namespace t
    × BindingNames g.binding who × RuleAllows g.rule.rule verb t

-- why a request is allowed: the first grant that allows it, and the first subject of its binding
-- that names the principal (own)
pub record IsWhy (p : PolicyView) (who : Who) (namespace verb : Text) (t : What) (g : GrantView)
    (subject_place : ℕ) : Type 0 where
  pub grant : (no : ℕ) × IsFirstAt (GrantAllows who namespace verb t) p.grants no g
  pub subject : (s : Subject)
      × IsFirstAt (λ s. Names s g.binding.namespace who) g.binding.subjects subject_place s
