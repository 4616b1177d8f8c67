use Rattle.std.specs.Prelude.{◌≡◌, ◌≢◌, ℕ, ◌⊎◌, ◌↔◌, List, [], ◌∷◌, Option, Some, None, Bool, true}
use Rattle.std.specs.Prelude.{IsTrue, Contains, map, take, filter, length, nat_lt, AllPairs}
use Rattle.std.specs.List.{flat_map}
use Rattle.std.specs.Ordering.{is_lt, is_gt}
use Rattle.rbac_model.specs.Lists.{IsCount, IsAscendingBy}
use Rattle.rbac_terms.specs.Text.{Text}
use Rattle.rbac_terms.specs.Targets.{What, Url, IsProper, group_of, text_of, name_of}
use Rattle.rbac_terms.specs.Principals.{Who}
use Rattle.rbac_terms.specs.Keys.{KeyTexts, key_of, key_cmp}
use Rattle.rbac_terms.specs.Matching.{VerbOk, TargetOk, RuleAllows}
use Rattle.rbac_model.specs.Policies.{Held, PolicyView, GrantView, BindingNames, IsFirst}
use Rattle.rbac_model.specs.Unions.{who_texts}
use Rattle.rbac_terms.specs.declared.matching.Rule.{Rule}
use Rattle.rbac_terms.specs.declared.granting.Binding.{Binding}

-- a target, and whether it is namespaced; a URL isn't
abbrev pub Listed : Type 0
Listed = What × Bool

-- which requests a matrix asks about (own): four lists without repeats, each in order
pub record UniverseView : Type 0 where
  pub principals : List Who
  pub namespaces : List Text
  pub verbs : List Text
  pub targets : List Listed

-- how many principals, how many namespaces and how many verbs a universe may have (own)
abbrev pub most_words : ℕ
most_words = 65535

-- how many targets a universe may have (own)
abbrev pub most_targets : ℕ
most_targets = 1000000

-- the texts of a target by which targets are ordered: group, resource text or path, and name
abbrev pub target_texts : Listed → List Text
target_texts t = group_of t.0 ∷ text_of t.0 ∷ name_of t.0 ∷ []

-- the lists are in order, and no URL is namespaced (own)
pub record IsUniverse (u : UniverseView) : Type 0 where
  pub principals : IsAscendingBy who_texts u.principals
  pub namespaces : IsAscendingBy (λ n. n ∷ []) u.namespaces
  pub verbs : IsAscendingBy (λ v. v ∷ []) u.verbs
  pub targets : IsAscendingBy target_texts u.targets
  pub urls : (path : Text) → ¬ Contains u.targets (Url path, true)

-- one request of the universe
pub record Cell : Type 0 where
  pub who : Who
  pub namespace : Text
  pub verb : Text
  pub target : Listed

-- a request fits: its target is namespaced, or its namespace is empty (own)
abbrev pub Fits : Cell → Type 0
Fits c = (IsTrue c.target.1) ⊎ (c.namespace ≡ [])

-- the key of a request, by which rows are ordered
abbrev pub cell_key : Cell → KeyTexts
cell_key c = key_of c.who c.namespace c.verb c.target.0

-- a request is one of the universe: each of its parts is in the list of its kind
abbrev pub IsCellOf : UniverseView → Cell → Type 0
IsCellOf u c = Contains u.principals c.who × Contains u.namespaces c.namespace
    × Contains u.verbs c.verb × Contains u.targets c.target

-- the parts of a row: a request, and a binding
pub record RowView : Type 0 where
  pub cell : Cell
  pub binding : Binding

-- a row of the matrix: a request of the universe that fits, with the first binding that grants it
abbrev pub IsRow : Held → UniverseView → RowView → Type 0
IsRow h u row = IsCellOf u row.cell × Fits row.cell
    × IsFirst h row.cell.who row.cell.namespace row.cell.verb row.cell.target.0 row.binding

-- the matrix: all rows, in order of keys (own)
pub record IsMatrix (h : Held) (u : UniverseView) (rows : List RowView) : Type 0 where
  pub ordered : AllPairs (λ a b. IsTrue (is_lt (key_cmp (cell_key a.cell) (cell_key b.cell)))) rows
  pub exact : (row : RowView) → Contains rows row ↔ IsRow h u row

-- the rows with a key greater than this one; all rows if no key is given
abbrev pub rows_after : Option KeyTexts → List RowView → List RowView
rows_after None rows = rows
rows_after (Some k) rows = filter (λ row. is_gt (key_cmp (cell_key row.cell) k)) rows

-- the first n of these rows, and whether there is one more
abbrev pub page : Option KeyTexts → ℕ → List RowView → List RowView × Bool
page k n rows = (take n (rows_after k rows), nat_lt n (length (rows_after k rows)))

-- a allows whatever b allows, for every verb and every proper target
abbrev pub Covers : Rule → Rule → Type 0
Covers a b = (v : Text) (t : What) → IsProper t → RuleAllows b v t → RuleAllows a v t

-- a binding is a ClusterRoleBinding, or is in that namespace, which isn't empty
abbrev pub LiveForSome : Option Text → Text → Type 0
LiveForSome None asked = Unit {0}
LiveForSome (Some namespace) asked = (asked ≢ []) × (namespace ≡ asked)

-- a grant is a cursor of a line of the matrix (who, namespace and verb): it may allow something on
-- that line, targets aside
abbrev pub IsCursor : Who → Text → Text → GrantView → Type 0
IsCursor who namespace verb g = VerbOk g.rule.rule verb × BindingNames g.binding who
    × LiveForSome g.binding.namespace namespace

-- how many pairs of a cursor of the line and a target of the universe match, verbs aside
abbrev pub AreTouches : PolicyView → UniverseView → Who → Text → Text → ℕ → Type 0
AreTouches p u who namespace verb n =
    IsCount {X = GrantView × Listed}
    (λ pair. IsCursor who namespace verb pair.0 × TargetOk pair.0.rule.rule pair.1.0)
    (flat_map (λ g. map (λ t. (g, t)) u.targets) p.grants) n
