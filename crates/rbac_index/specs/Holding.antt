use Rattle.std.specs.Prelude.{◌≡◌, ℕ, ◌↔◌, Bool, List, Any, AllPairs, Contains, slice_get}
use Rattle.std.specs.Prelude.{Some}
use Rattle.rbac_terms.specs.Text.{Text}
use Rattle.rbac_terms.specs.Targets.{What}
use Rattle.rbac_terms.specs.Principals.{Who}
use Rattle.rbac_terms.specs.declared.granting.Binding.{Binding}
use Rattle.rbac_terms.specs.declared.scope.Scope.{Scope}
use Rattle.rbac_model.specs.Policies.{Held, Allows, BindingNames}
use Rattle.rbac_model.specs.Scopes.{LiveIn}
use Rattle.rbac_model.specs.Holders.{IsBefore, HolderView, IsKeyFor}
use Rattle.rbac_index.specs.HolderViews.{once_in}
use Rattle.rbac_index.specs.Requested.{RequestedView, target_given}
use Rattle.rbac_index.specs.WhoCan.{BringsRequested, HoldsAt}

-- the binding at that place brings a rule that allows the verb on what is requested
abbrev pub BringsRuleAt : Held → Text → RequestedView → ℕ → Type 0
BringsRuleAt h verb t i =
    (b : Binding) × (slice_get h.bindings i ≡ Some b) × BringsRequested h b verb t

-- the binding at that place is live in the scope, and brings a rule that allows the verb on what is
-- requested
abbrev pub BringsAt : Held → Scope → Text → RequestedView → ℕ → Type 0
BringsAt h scope verb t i =
    (b : Binding) × (slice_get h.bindings i ≡ Some b) × LiveIn scope b.namespace (target_given t)
    × BringsRequested h b verb t

-- x's key holds the permission by x's pair of places
abbrev pub HoldsThere : Held → Scope → Text → RequestedView → HolderView → Type 0
HoldsThere h scope verb t x = (slice_get h.bindings x.binding_place ≡ Some x.binding)
    × HoldsAt h scope verb t x.key x.binding_place x.subject_place

-- x's pair of places comes before y's
abbrev pub IsEarlier : HolderView → HolderView → Type 0
IsEarlier x y = IsBefore x.binding_place x.subject_place y.binding_place y.subject_place

-- the holders of the permission by a pair of places (of a binding, and of a subject in it) before
-- the pair i and j, in order
pub record AreSeen (h : Held) (scope : Scope) (verb : Text) (t : RequestedView) (i j : ℕ)
    (xs : List HolderView) : Type 0 where
  pub ordered : AllPairs IsEarlier xs
  pub exact : (x : HolderView) → Contains xs x
      ↔ (HoldsThere h scope verb t x × IsBefore x.binding_place x.subject_place i j)

-- all holders of the permission by a pair of places, in order
pub record AreAllSeen (h : Held) (scope : Scope) (verb : Text) (t : RequestedView)
    (xs : List HolderView) : Type 0 where
  pub ordered : AllPairs IsEarlier xs
  pub exact : (x : HolderView) → Contains xs x ↔ HoldsThere h scope verb t x

-- x and y have the same key, and, if every binding is listed, the same binding
abbrev pub IsAlike : Bool → HolderView → HolderView → Type 0
IsAlike every x y = (x.key ≡ y.key)
    × (once_in every x.binding_place ≡ once_in every y.binding_place)

-- the first of the elements of xs that are alike, in order
pub record AreFirsts (every : Bool) (xs firsts : List HolderView) : Type 0 where
  pub ordered : AllPairs IsEarlier firsts
  pub exact : (x : HolderView) → Contains firsts x
      ↔ (Contains xs x × ((y : HolderView) → Contains xs y → IsAlike every y x → ¬ IsEarlier y x))

-- a principal's request is allowed exactly if some holder has the key of the principal, or of one
-- of its groups
abbrev pub AllowsByHolders : Held → Text → Text → What → List HolderView → Type 0
AllowsByHolders h namespace verb t xs = (who : Who) → Allows h who namespace verb t
    ↔ Any (λ x. IsKeyFor who x.key) xs

-- a binding grants the request in a scope: it is live there, names the principal, and brings a rule
-- that allows the request (Using RBAC Authorization)
abbrev pub GrantsIn : Held → Scope → Binding → Who → Text → RequestedView → Type 0
GrantsIn h scope b who verb t = LiveIn scope b.namespace (target_given t) × BindingNames b who
    × BringsRequested h b verb t

-- the binding at a place grants a request exactly if the list has this binding with the key of the
-- principal, or with the key of one of its groups
abbrev pub GrantsByHolders : Held → Scope → Text → RequestedView → List HolderView → Type 0
GrantsByHolders h scope verb t xs = (who : Who) (i : ℕ) (b : Binding)
    → slice_get h.bindings i ≡ Some b
    → GrantsIn h scope b who verb t ↔ Any (λ x. (x.binding_place ≡ i) × IsKeyFor who x.key) xs
