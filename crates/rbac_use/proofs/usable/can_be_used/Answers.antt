use Rattle.std.proofs.Common.{Option, subst, sym}
use Rattle.std.proofs.lemmas.Bool.{both_ways}
use Rattle.rbac_terms.specs.Text.{Text}
use Rattle.rbac_use.specs.Usable.{HasTarget}
use Rattle.rbac_use.proofs.CanMatch.{has_target, usable}
use Rattle.rbac_use.proofs.usable.can_be_used.Goals as goal

pub returns : goal.returns
returns c =
    let b = c.args.binding.now in
    let r = c.args.rule.now in
    let own = c.as_ref.ensures.value in (
      λ t. usable b r (λ e. both_ways _ c.if-is_empty.false (c.is_empty.ensures.1 e)) (c.names_somebody.ensures.0 c.if-not-names_somebody.false)
          (subst (λ (o : Option Text). HasTarget o r) own (c.has_target.ensures.0 t)),
      λ w. c.has_target.ensures.1 (subst (λ (o : Option Text). HasTarget o r) (sym own) (has_target b.namespace r w.0.namespace w.0.target w.1 w.2.0.0 w.2.1.1)),
    )
