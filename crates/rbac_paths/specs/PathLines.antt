-- How paths are printed (own).
use Rattle.std.specs.Prelude.{ℕ, [], ◌∷◌, ◌++◌, codes, decimal}
use Rattle.rbac_terms.specs.Text.{Text}
use Rattle.rbac_model.specs.Policies.{Source, InRole, InClusterRole}
use Rattle.rbac_text.specs.Field.{field_text}
use Rattle.rbac_text.specs.Row.{field_and_tab, newline, tab}
use Rattle.rbac_text.specs.Why.{place_text, why_text}
use Rattle.rbac_paths.specs.NodeLists.{node_text, who_or_what}
use Rattle.rbac_paths.specs.Nodes.{NodeView}
use Rattle.rbac_paths.specs.Paths.{PathView}
use Rattle.rbac_paths.specs.Reasons.{ReasonView, ByGrant, ByRule, ByAll}
use Rattle.rbac_steps.specs.Steps.{step_word}

-- the kind and the name of the role where a rule is written
abbrev pub source_name : Source → Text
source_name (InRole r) = codes "Role/" ++ r.namespace ++ codes "/" ++ r.name
source_name (InClusterRole r) = codes "ClusterRole/" ++ r.name

-- the field of a missing subject, and the newline
abbrev pub no_subject : Text
no_subject = field_text [] ++ newline ∷ []

-- the last five fields of a line for a role: no binding, the role, the role where the rule is
-- written, the rule's place there, and no subject
abbrev pub rule_line : NodeView → Source → ℕ → Text
rule_line role source place = field_and_tab [] ++ field_and_tab (who_or_what role)
    ++ field_and_tab (source_name source) ++ place_text place ++ tab ∷ no_subject

-- the last five fields of a line for everything in a scope: no binding, role, rule or subject
abbrev pub all_line : Text
all_line = field_and_tab [] ++ field_and_tab [] ++ field_and_tab [] ++ field_and_tab []
    ++ no_subject

-- the last five fields of a line: the reason why the node takes over another node, or allows a
-- request
abbrev pub reason_line : NodeView → ReasonView → Text
reason_line x (ByGrant g at) = why_text g.binding g.rule.source g.rule.place at
reason_line x (ByRule source place) = rule_line x source place
reason_line x ByAll = all_line

-- the line of a path: the number of steps, the node, the node before it, the step between them, and
-- the reason for this step
abbrev pub path_text : PathView → Text
path_text x = decimal x.count ++ tab ∷ node_text x.node ++ node_text x.before
    ++ field_and_tab (step_word x.step) ++ reason_line x.before x.reason
