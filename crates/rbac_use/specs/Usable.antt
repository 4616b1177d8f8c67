-- When some request can match a rule through a binding: its words decide it.
use Rattle.std.specs.Prelude.{◌≡◌, ◌≢◌, ◌⊎◌, [], Option, Some, None, Any}
use Rattle.rbac_terms.specs.Text.{Text}
use Rattle.rbac_terms.specs.Targets.{IsResourceText}
use Rattle.rbac_terms.specs.declared.granting.Binding.{Binding}
use Rattle.rbac_terms.specs.declared.matching.Rule.{Rule}
use Rattle.rbac_model.specs.OwnWords.{GivesPath}
use Rattle.rbac_use.specs.Used.{NamesSomebody}

-- some request can be for a resource of the rule: it has an API group, and a resource word that
-- matches a resource text
abbrev pub HasResource : Rule → Type 0
HasResource r = (r.groups ≢ []) × Any IsResourceText r.resources

-- some request can be for a URL of the rule
abbrev pub HasUrl : Rule → Type 0
HasUrl r = Any GivesPath r.urls

-- some request can be for a target of the rule where a binding in that namespace, or in none,
-- counts: a RoleBinding counts for no URL, and in the empty namespace for nothing
abbrev pub HasTarget : Option Text → Rule → Type 0
HasTarget own r = ((own ≢ Some []) × HasResource r) ⊎ ((own ≡ None) × HasUrl r)

-- the binding names somebody
abbrev pub HasSomebody : Binding → Type 0
HasSomebody b = Any (NamesSomebody b.namespace) b.subjects
