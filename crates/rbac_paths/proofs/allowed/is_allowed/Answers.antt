use Rattle.std.proofs.Common.{List, ℕ, subst, sym}
use Rattle.rbac_subjects.specs.Bound.{AreNamedPlaces}
use Rattle.rbac_paths.proofs.ByBinding.{allowed_named}
use Rattle.rbac_paths.proofs.allowed.is_allowed.Goals as goal

pub returns : goal.returns
returns c asked marked =
    let p = c.args.index.now in
    let who = c.args.who.now in
    let places = c.as_slice.result.now in
    let named = subst (λ (ns : List ℕ). AreNamedPlaces p who ns) (sym c.as_slice.ensures.value) c.in_ok-places.ensures in
    let by = allowed_named p c.requires who asked c.args.marks.now places marked named in
    (λ is. by.0 (c.some_is_marked.ensures.0 is), λ allowed. c.some_is_marked.ensures.1 (by.1 allowed))
