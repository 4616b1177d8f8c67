use Rattle.std.proofs.Common.{◌≡◌, ◌++◌, ◌∷◌, ◌∙◌, [], List, ap, refl}
use Rattle.rbac_terms.specs.declared.matching.Rule.{Rule}
use Rattle.rbac_use.proofs.least.add_part.Goals as goal

pub returns : goal.returns
returns c =
    let rules : c.push.new.self ≡ c.args.rule ∷ [] = c.in_ok-push.ensures.ok ∙ ap (λ (rs : List Rule). rs ++ c.args.rule ∷ []) c.new-rules.ensures in
    rw (c.in_ok-push-2.ensures.items, c.in_ok-clone.ensures.cases, rules) refl
