-- How ways are printed (own).
use Rattle.std.specs.Prelude.{Option, Some, None, [], ◌∷◌, ◌++◌, decimal}
use Rattle.rbac_terms.specs.Text.{Text}
use Rattle.rbac_text.specs.Row.{field_and_tab, tab}
use Rattle.rbac_paths.specs.NodeLists.{node_text}
use Rattle.rbac_paths.specs.PathLines.{reason_line}
use Rattle.rbac_steps.specs.Steps.{step_word}
use Rattle.rbac_paths.specs.WaysTo.{NextView, WayView}

-- the node to which the first step leads, and the step; three empty fields if there is no step
abbrev pub next_text : Option NextView → Text
next_text None = field_and_tab [] ++ field_and_tab [] ++ field_and_tab []
next_text (Some next) = node_text next.node ++ field_and_tab (step_word next.step)

-- the line of a way: the number of steps, the node, the node to which the first step leads, this
-- step, and the reason for it, or the reason why the node itself allows the request
abbrev pub way_text : WayView → Text
way_text x = decimal x.count ++ tab ∷ node_text x.node ++ next_text x.next
    ++ reason_line x.node x.reason
