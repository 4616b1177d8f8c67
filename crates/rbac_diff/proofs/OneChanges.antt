-- the changes are one list
use Rattle.std.proofs.Common.{◌≡◌, List, [], ◌∷◌, refl}
use Rattle.rbac_terms.specs.Text.{Text}
use Rattle.rbac_model.specs.Lists.{IsAscendingBy}
use Rattle.rbac_model.specs.Policies.{PolicyView}
use Rattle.rbac_model.proofs.OneList.{one_list}
use Rattle.rbac_diff.specs.Changes.{ChangeView, AreChanges}

-- changes are named by their permissions
abbrev change_name : ChangeView → List Text
change_name x = x.permission ∷ []

by_permission : (before after : PolicyView) (xs : List ChangeView) → AreChanges before after xs → IsAscendingBy change_name xs
by_permission before after xs are i j d lt l = rw (are.ordered i j d lt l) refl

pub one_changes : (before after : PolicyView) (xs others : List ChangeView) → AreChanges before after xs → AreChanges before after others → xs ≡ others
one_changes before after xs others a b =
    one_list change_name xs others (by_permission before after xs a) (by_permission before after others b) (λ x w. (b.exact x).1 ((a.exact x).0 w)) (λ x w. (a.exact x).1 ((b.exact x).0 w))
