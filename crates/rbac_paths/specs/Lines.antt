-- How powers are printed (own).
use Rattle.std.specs.Prelude.{◌++◌}
use Rattle.rbac_terms.specs.Text.{Text}
use Rattle.rbac_text.specs.Row.{field_and_tab}
use Rattle.rbac_text.specs.Why.{why_text}
use Rattle.rbac_paths.specs.Powers.{PowerView, power_place}
use Rattle.rbac_steps.specs.Steps.{step_word}

-- the line of a power: the step, who, where, and the first grant and subject that give it, joined
-- by tabs
abbrev pub power_text : PowerView → Text
power_text x = field_and_tab (step_word x.step) ++ power_place x
    ++ why_text x.grant.binding x.grant.rule.source x.grant.rule.place x.subject_place
