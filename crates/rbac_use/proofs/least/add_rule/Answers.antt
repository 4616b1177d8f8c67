use Rattle.std.proofs.Common.{◌≢◌, ◌++◌, ◌∷◌, ◌∙◌, [], ap, refl, sym}
use Rattle.std.proofs.lemmas.Bool.{both_ways}
use Rattle.rbac_terms.specs.declared.matching.Rule.{Rule}
use Rattle.rbac_terms.proofs.Cases.{on_ok}
use Rattle.rbac_use.specs.declared.least.Least.{Least}
use Rattle.rbac_use.proofs.Parts.{everywhere_added, part_added}
use Rattle.rbac_use.proofs.least.add_rule.Goals as goal

pub returns-then-is_empty : goal.returns-then-is_empty
returns-then-is_empty c done are up =
    let g = c.args.group.now in
    let old = c.args.least.now in
    let new : Least = record { everywhere = c.push.new.self; namespaces = old.namespaces } in
    everywhere_added done g old new are (c.is_empty.ensures.0 c.if-is_empty.true) (c.in_ok-push.ensures.ok ∙ ap (λ (r : Rule). old.everywhere ++ r ∷ []) c.in_ok-rule.ensures) refl

pub returns : goal.returns
returns c done are up =
    let g = c.args.group.now in
    let old = c.args.least.now in
    let named : g.key.namespace ≢ [] = λ e. both_ways _ c.if-is_empty.false (c.is_empty.ensures.1 e) in
    let new : Least = record { everywhere = old.everywhere; namespaces = c.add_to_part.new.parts } in
    on_ok c.add_to_part.result (λ parts. part_added done g old new are named refl parts) (c.add_to_part.ensures done g refl (sym c.in_ok-rule.ensures) are.1 up)

pub add_to_part-requires : goal.add_to_part-requires
add_to_part-requires c = λ e. both_ways _ c.if-is_empty.false (c.is_empty.ensures.1 e)
