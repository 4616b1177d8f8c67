use Rattle.std.proofs.Common.{Bool, IsTrue, ◌↔◌, subst, sym}
use Rattle.rbac_terms.specs.Matching.{EndsInStar}
use Rattle.rbac_use.proofs.NeededRequests.{star_by_test}
use Rattle.rbac_use.proofs.needs.ends_in_star.Goals as goal

pub returns : goal.returns
returns c =
    let path = c.args.path.now in
    subst (λ (b : Bool). IsTrue b ↔ EndsInStar path) (sym c.is_some.ensures) (star_by_test path c.before_stars.result c.before_stars.ensures)
