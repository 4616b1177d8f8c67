-- Requests that a node may allow.
use Rattle.rbac_terms.specs.Text.{Text}
use Rattle.rbac_terms.specs.Targets.{What}
use Rattle.rbac_model.specs.Policies.{PolicyView}
use Rattle.rbac_paths.specs.Having.{NodeAllows}
use Rattle.rbac_paths.specs.Nodes.{NodeView}
use Rattle.rbac_paths.specs.declared.access.Access.{Access}

-- a request: a verb on a target in a namespace
pub record AccessView : Type 0 where
  pub namespace : Text
  pub verb : Text
  pub target : What

-- the request whose parts these references point to
abbrev pub access_of : Access → AccessView
access_of a = record { namespace = a.namespace.now; verb = a.verb.now; target = a.target.now }

-- the node allows the request
abbrev pub AllowsAccess : PolicyView → AccessView → NodeView → Type 0
AllowsAccess p asked x = NodeAllows p x asked.namespace asked.verb asked.target
