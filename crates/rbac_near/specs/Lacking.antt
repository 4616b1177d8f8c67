-- What a rule lacks to match a target.
use Rattle.rbac_terms.specs.Targets.{What}
use Rattle.rbac_terms.specs.declared.matching.Rule.{Rule}
use Rattle.rbac_near.specs.Near.{LacksGroup, LacksName, LacksSubresource}
use Rattle.rbac_near.specs.declared.near.Missing.{Missing}
use Rattle.rbac_near.specs.declared.near.Missing.TheVariants.{Group, Subresource, Name}

-- the rule matches the target, but for this one thing
abbrev pub LacksOfTarget : Missing → Rule → What → Type 0
LacksOfTarget Group r t = LacksGroup r t
LacksOfTarget Subresource r t = LacksSubresource r t
LacksOfTarget Name r t = LacksName r t
LacksOfTarget _ r t = ⊥
