-- The rules of a role.
use Rattle.std.specs.Prelude.{List, Bool, codes}
use Rattle.serde_json.specs.Data.{Data}
use Rattle.json_fields.specs.Fields.{list_field}
use Rattle.rbac_manifest.specs.Lists.{items_given}
use Rattle.rbac_manifest.specs.Rule.{rule_at}
use Rattle.rbac_terms.specs.declared.matching.Rule.{Rule}

-- the rules of a role, in written order
unfoldable pub rules_in : Bool → Data → List Rule
rules_in in_role d = items_given (rule_at in_role) (list_field (codes "rules") d)
