-- the groups of a user that is given some
use Rattle.std.proofs.Common.{◌≡◌, ◌≢◌, List, [], ◌∷◌, ◌++◌, codes, refl}
use Rattle.std.specs.List.{join_by}
use Rattle.json.specs.Print.{quoted}
use Rattle.rbac_terms.specs.Text.{Text}
use Rattle.rbac_document.specs.Document.{groups_text}

pub some_groups : (groups : List Text) → groups ≢ [] → groups_text groups ≡ codes ", \"groups\": [" ++ join_by quoted (codes ", ") groups ++ codes "]"
some_groups [] ne = absurd (ne refl)
some_groups (group ∷ groups) ne = refl
