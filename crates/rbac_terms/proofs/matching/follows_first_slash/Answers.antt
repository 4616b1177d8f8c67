use Rattle.std.proofs.lemmas.Slice.Eq.{slice_eq-Decides}
use Rattle.std.proofs.lemmas.Bool.Decides.{Decides-eqb}
use Rattle.rbac_terms.proofs.Texts.{FollowsFirstSlash-iff, IsCutAtFirst-contains}
use Rattle.rbac_terms.proofs.matching.follows_first_slash.Goals as goal

pub returns-in-Some : goal.returns-in-Some
returns-in-Some c =
    FollowsFirstSlash-iff c.args.text.now _ c.in-Some.found.now c.args.rest.now _ c.in-Some.ensures (slice_eq-Decides Decides-eqb _ _ _ c.eq.ensures)

pub returns-in-None : goal.returns-in-None
returns-in-None c = (λ h. cc, λ b. absurd (c.in-None.ensures (IsCutAtFirst-contains _ _ _ _ b.1)))
