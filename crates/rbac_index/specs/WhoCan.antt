-- Who can, in a scope, by the first binding or by each.
use Rattle.std.specs.Prelude.{◌≡◌, ◌≤◌, ◌↔◌, ℕ, Bool, true, false, List, Some}
use Rattle.std.specs.Prelude.{AllPairs, Any, Contains, slice_get}
use Rattle.rbac_terms.specs.Text.{Text}
use Rattle.rbac_terms.specs.Targets.{What}
use Rattle.rbac_terms.specs.Granting.{IsSubjectKey}
use Rattle.rbac_terms.specs.declared.granting.Binding.{Binding}
use Rattle.rbac_terms.specs.declared.granting.Subject.{Subject}
use Rattle.rbac_terms.specs.declared.scope.Scope.{Scope}
use Rattle.rbac_model.specs.Policies.{Held, AreRulesFor, SourcedRule}
use Rattle.rbac_model.specs.Scopes.{LiveIn}
use Rattle.rbac_model.specs.Holders.{HolderView, IsBefore}
use Rattle.rbac_index.specs.Requested.{RequestedView, AllowsRequested, target_given}

-- the binding brings a rule that allows the verb on what is requested
abbrev pub BringsRequested : Held → Binding → Text → RequestedView → Type 0
BringsRequested h b verb t = (rules : List SourcedRule) × AreRulesFor h b rules
    × Any (λ r. AllowsRequested r.rule verb t) rules

-- the key holds the permission in the scope by that subject of that binding: the binding is live
-- there and brings a rule that allows the verb on what is requested, and the subject has the key
abbrev pub HoldsIn : Held → Scope → Text → RequestedView → Binding → Subject → Text → Type 0
HoldsIn h scope verb t b s key = LiveIn scope b.namespace (target_given t)
    × BringsRequested h b verb t
    × IsSubjectKey s b.namespace key

-- the key holds the permission in the scope by the subject at place j of the binding at place i
abbrev pub HoldsAt : Held → Scope → Text → RequestedView → Text → ℕ → ℕ → Type 0
HoldsAt h scope verb t key i j =
    (b : Binding) × (s : Subject) × (slice_get h.bindings i ≡ Some b)
    × (slice_get b.subjects j ≡ Some s) × HoldsIn h scope verb t b s key

-- x is a holder with a binding: its key holds the permission by its pair of places, and by no
-- earlier subject of that binding (own)
abbrev pub IsHolderBy : Held → Scope → Text → RequestedView → HolderView → Type 0
IsHolderBy h scope verb t x =
    (slice_get h.bindings x.binding_place ≡ Some x.binding)
    × HoldsAt h scope verb t x.key x.binding_place x.subject_place
    × ((j : ℕ) → HoldsAt h scope verb t x.key x.binding_place j → x.subject_place ≤ j)

-- x is listed: a holder with any of its bindings if every binding is listed, otherwise with the
-- first binding by which its key holds the permission (own)
abbrev pub IsListedHolder : Held → Scope → Bool → Text → RequestedView → HolderView → Type 0
IsListedHolder h scope true verb t x = IsHolderBy h scope verb t x
IsListedHolder h scope false verb t x = IsHolderBy h scope verb t x
    × ((i j : ℕ) → HoldsAt h scope verb t x.key i j → x.binding_place ≤ i)

-- who can: the holders that are listed, each pair of a key and a binding once, in order of their
-- pairs of places (own)
pub record AreListedHolders (h : Held) (scope : Scope) (every : Bool) (verb : Text)
    (t : RequestedView) (xs : List HolderView) : Type 0 where
  pub ordered : AllPairs
      (λ x y. IsBefore x.binding_place x.subject_place y.binding_place y.subject_place) xs
  pub exact : (x : HolderView) → Contains xs x ↔ IsListedHolder h scope every verb t x
