use Rattle.std.proofs.Common.{refl}
use Rattle.rbac_manifest.specs.Label.{selector_from}
use Rattle.rbac_manifest.proofs.selector.selector_from.Goals as goal

pub returns : goal.returns
unfolding selector_from
returns c = rw (c.in_ok-labels_field.ensures, ← c.list_field.ensures, c.in-Some.is, c.in_ok-requirements_of.ensures) refl
