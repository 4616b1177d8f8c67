-- The objects after a change, and the policy of objects.
use Rattle.std.specs.Prelude.{◌≤◌, Bool, not, List, ◌++◌, length, map}
use Rattle.std.specs.List.{filter}
use Rattle.rbac_model.specs.declared.objects.Object.{Object}
use Rattle.rbac_model.specs.Kept.{AreKept}
use Rattle.rbac_model.specs.Policies.{PolicyView, IsPolicy, most_grants}
use Rattle.rbac_manifest.specs.Names.{object_name, has_name}

-- whether one of these objects has the same kind, namespace and name
abbrev pub is_named : List Object → Object → Bool
is_named objects o = has_name (map object_name objects) (object_name o)

-- the objects after a change: those before it, in order, but for those with the name of one of
-- `without`, and then those of `over`, which replace earlier ones of their names (own)
abbrev pub changed_objects : List Object → List Object → List Object → List Object
changed_objects objects without over = filter (λ o. not (is_named without o)) objects ++ over

-- a policy of these objects: of each kind, namespace and name the last object is kept (own), the
-- grants follow from the kept objects, and are at most `most_grants`
pub record IsResolved (objects : List Object) (p : PolicyView) : Type 0 where
  pub kept : AreKept objects p.held
  pub policy : IsPolicy p
  pub few : length p.grants ≤ most_grants
