-- Whom or what `--to` of a `paths` line asks for, and where.
use Rattle.std.specs.Prelude.{◌≡◌, ◌≢◌, ◌⊎◌, ◌++◌, ◌==◌, [], Contains, Option, None, Some, codes, length}
use Rattle.std.specs.Prelude.{if◌then◌else◌}
use Rattle.rbac_terms.specs.Text.{Text, IsCutAtFirst, slash}
use Rattle.rbac_question.specs.declared.path_end.PathEnd.{PathEnd}

-- the text is this front and a name, which isn't empty
abbrev pub HasNameAfter : Text → Text → Type 0
HasNameAfter front text = (name : Text) × (text ≡ front ++ name) × (name ≢ [])

-- the text is the key of a user or a group
abbrev pub IsKeyText : Text → Type 0
IsKeyText text = HasNameAfter (codes "u:") text ⊎ HasNameAfter (codes "g:") text

-- the text is `*` or `ClusterRole/NAME`, which are meant in a namespace or in the whole cluster
abbrev pub IsScopedText : Text → Type 0
IsScopedText text = (text ≡ codes "*") ⊎ HasNameAfter (codes "ClusterRole/") text

-- the text is `Role/NS/NAME`, with this namespace, which has no slash
abbrev pub IsRoleText : Text → Text → Type 0
IsRoleText text namespace = (rest name : Text) × (text ≡ codes "Role/" ++ rest)
    × IsCutAtFirst rest slash namespace name × (namespace ≢ []) × (name ≢ [])

-- the text is `Role/NS/NAME`; the namespace after `-n`, if there is one, is the same
abbrev pub IsRoleIn : Text → Text → Type 0
IsRoleIn text given =
    (namespace : Text) × IsRoleText text namespace × ((given ≡ []) ⊎ (given ≡ namespace))

-- the text after `--to` is one that `paths` prints as its second field, and the text after `-n`
-- goes with it: a user or a group is in no namespace, and a Role in its own; an empty or missing
-- `-n` goes with each (own)
abbrev pub GoWithEnd : Text → Text → Type 0
GoWithEnd text given =
    IsScopedText text ⊎ (IsRoleIn text given ⊎ ((given ≡ []) × IsKeyText text))

-- without `--to` there is no `-n`; otherwise both go together
abbrev pub IsGoodEnd : Option Text → Text → Type 0
IsGoodEnd None given = given ≡ []
IsGoodEnd (Some text) given = GoWithEnd text given

-- U10: TO isn't one that `paths` prints, or `-n` doesn't go with it (own)
abbrev pub HasBadEnd : Option Text → Text → Type 0
HasBadEnd to given = ¬ IsGoodEnd to given

-- the namespace after `-n`; an empty or missing `-n` means the whole cluster (own)
abbrev pub place_given : Text → Option Text
place_given given = if length given == 0 then None else Some given

-- the end that `--to` and `-n` ask for; without `--to`, there is none
abbrev pub IsEndGiven : Option Text → Text → Option PathEnd → Type 0
IsEndGiven None given to = to ≡ None
IsEndGiven (Some text) given None = ⊥
IsEndGiven (Some text) given (Some end) = (end.what ≡ text) × (end.namespace ≡ place_given given)
