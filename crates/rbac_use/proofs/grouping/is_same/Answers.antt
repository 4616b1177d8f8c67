use Rattle.std.proofs.Common.{Bool, IsTrue, ◌↔◌, ◌≡◌, ◌∙◌, ap, subst, sym}
use Rattle.std.specs.Ordering.{is_eq}
use Rattle.rbac_use.proofs.Grouped.{key_by_test}
use Rattle.rbac_use.proofs.grouping.is_same.Goals as goal

pub returns : goal.returns
returns c =
    let a = c.args.key.now in
    let b = c.args.other.now in
    subst (λ (t : Bool). IsTrue t ↔ (a ≡ b)) (sym (c.is_eq.ensures ∙ ap is_eq c.cmp_keys.ensures)) (key_by_test a b)
