-- The order of targets, and the targets of one stem.
use Rattle.std.specs.Prelude.{◌≡◌, ℕ, ◌+◌, ◌<◌, ◌≤◌, ◌↔◌, List, [], ◌∷◌, Contains, Option}
use Rattle.std.specs.Prelude.{Some, None, IfSome, length, map, slice_get}
use Rattle.std.specs.declared.cmp.Ordering.TheVariants.{Less}
use Rattle.rbac_terms.specs.Text.{Text, text_cmp}
use Rattle.rbac_terms.specs.Targets.{What, IsUrl, group_of, text_of, name_of}
use Rattle.rbac_terms.specs.Matching.{TargetOk}
use Rattle.rbac_terms.specs.declared.matching.Rule.{Rule}
use Rattle.rbac_model.specs.Universes.{UniverseView}
use Rattle.rbac_reaches.specs.Reaches.{MatchesAt}

-- the texts of a target by which targets are ordered: group, resource text or path, and name
abbrev pub what_texts : What → List Text
what_texts t = group_of t ∷ text_of t ∷ name_of t ∷ []

-- x comes after `after`, and before `before` if that is given
abbrev pub IsBetween : Text → Option Text → Text → Type 0
IsBetween after before x = (text_cmp after x ≡ Less) × IfSome before (λ m. text_cmp x m ≡ Less)

-- u has the API group and resource text of t, and a later name, which comes before `before` if that
-- is given
pub record IsLaterOfStem (before : Option Text) (t u : What) : Type 0 where
  pub group : group_of u ≡ group_of t
  pub text : text_of u ≡ text_of t
  pub name : IsBetween (name_of t) before (name_of u)

-- the targets after `at` and before `end` have the API group and resource text of the one at `at`,
-- and later names, before `before` if that is given
abbrev pub AreOfStem : Option Text → List What → ℕ → ℕ → Type 0
AreOfStem before ts at end = (n : ℕ) (t u : What) → at < n → n < end → slice_get ts at ≡ Some t
    → slice_get ts n ≡ Some u → IsLaterOfStem before t u

-- a stem: the targets from `start` up to `end` have the API group and resource text of the first,
-- and a URL is a stem of its own
pub record AreOneStem (ts : List What) (start end : ℕ) : Type 0 where
  pub some : start < end
  pub within : end ≤ length ts
  pub alike : AreOfStem None ts start end
  pub alone : (t : What) → slice_get ts start ≡ Some t → IsUrl t → end ≡ start + 1

-- the targets from place `from` up to place `to` form stems, one after the other, each given by its
-- end
abbrev pub AreStemEnds : List What → ℕ → ℕ → List ℕ → Type 0
AreStemEnds ts from to [] = from ≡ to
AreStemEnds ts from to (end ∷ ends) = AreOneStem ts from end × AreStemEnds ts end to ends

-- the rule matches all targets from `start` up to `end`, or none of them
abbrev pub IsWhole : Rule → List What → ℕ → ℕ → Type 0
IsWhole r ts start end = (n : ℕ) → start ≤ n → n < end → MatchesAt r ts n ↔ MatchesAt r ts start

-- of the targets from `start` up to `end` the rule matches exactly those whose names it has
abbrev pub IsByName : Rule → List What → ℕ → ℕ → Type 0
IsByName r ts start end = (n : ℕ) (t : What) → start ≤ n → n < end → slice_get ts n ≡ Some t
    → TargetOk r t ↔ Contains r.resource_names (name_of t)

-- all targets of a universe form these stems
abbrev pub AreStemEndsOf : UniverseView → List ℕ → Type 0
AreStemEndsOf u ends =
    AreStemEnds (map (λ t. t.0) u.targets) 0 (length (map (λ t. t.0) u.targets)) ends
