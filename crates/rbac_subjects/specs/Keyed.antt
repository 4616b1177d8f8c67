-- The bindings under the keys of their subjects.
use Rattle.std.specs.Prelude.{◌≡◌, ◌≢◌, ℕ, ◌<◌, ◌≤◌, ◌⊎◌, ◌↔◌, List, [], Option, Some, None}
use Rattle.std.specs.Prelude.{Contains, MatchOption, slice_get, min, true, false}
use Rattle.std.specs.Ordering.{is_lt, nat_cmp, ordering_then}
use Rattle.std.specs.List.Sorted.{IsPartitionPoint, IsSorted}
use Rattle.std.specs.declared.cmp.Ordering.{Ordering}
use Rattle.rbac_terms.specs.Text.{Text, text_cmp}
use Rattle.rbac_terms.specs.Principals.{Who, given_of, who_key, who_name}
use Rattle.rbac_terms.specs.declared.granting.Binding.{Binding}
use Rattle.rbac_model.specs.Policies.{PolicyView, IsOfBinding}
use Rattle.rbac_model.specs.Holders.{HasKey}
use Rattle.rbac_subjects.specs.declared.subject_keys.Keyed.{Keyed}
use Rattle.rbac_subjects.specs.declared.live_bindings.Live.{Live}

-- some subject of the binding at that place has the key
abbrev pub IsKeyedAt : List Binding → Text → ℕ → Type 0
IsKeyedAt bs key place = (b : Binding) × (slice_get bs place ≡ Some b) × HasKey b key

-- some grant belongs to the binding at that place
abbrev pub HasGrants : PolicyView → ℕ → Type 0
HasGrants p place = (number : ℕ) × IsOfBinding p number place

-- the order of entries: by key, then by place
abbrev pub keyed_cmp : Keyed → Keyed → Ordering
keyed_cmp x y = ordering_then (text_cmp x.key y.key) (nat_cmp x.place y.place)

-- the entry with that key and place
abbrev pub keyed : Text → ℕ → Keyed
keyed key place = record { key = key; place = place }

-- new has what old has, and the keys of the binding's subjects, each with the binding's place
abbrev pub HasKeysOf : List Keyed → List Keyed → Binding → ℕ → Type 0
HasKeysOf old new b place = (x : Keyed) → Contains new x
    ↔ (Contains old x ⊎ ((x.place ≡ place) × HasKey b x.key))

-- some entry has the key of the principal, who has a name and is given no groups
abbrev pub IsListed : List Keyed → Who → Type 0
IsListed xs who = (who_name who ≢ []) × (given_of who ≡ []) × (place : ℕ)
    × Contains xs (keyed (who_key who) place)

-- some entry has that place
abbrev pub HasEntry : List Keyed → ℕ → Type 0
HasEntry xs place = (key : Text) × Contains xs (keyed key place)

-- exactly the entries before place `at` come before y
abbrev pub IsFirstEntry : List Keyed → Keyed → ℕ → Type 0
IsFirstEntry xs y at = IsPartitionPoint
    (λ x. is_lt (keyed_cmp x y) ≡ true) (λ x. is_lt (keyed_cmp x y) ≡ false) xs at

-- exactly the keys of the subjects of the bindings that have grants, in order
pub record AreKeyed (p : PolicyView) (xs : List Keyed) : Type 0 where
  pub sorted : IsSorted keyed_cmp xs
  pub exact : (x : Keyed) → Contains xs x
      ↔ (HasGrants p x.place × IsKeyedAt p.held.bindings x.key x.place)

-- the binding at that place is live: it is one of the ClusterRoleBindings, which come first, or one
-- of the namespace's RoleBindings
abbrev pub IsLiveAt : Live → ℕ → Type 0
IsLiveAt l place = (place < l.cluster_wide) ⊎ ((l.from ≤ place) × (place < l.to))

-- the first number from that one on that has the property
pub record IsNextOf (P : ℕ → Type 0) (from at : ℕ) : Type 0 where
  pub after : from ≤ at
  pub holds : P at
  pub none_before : (n : ℕ) → from ≤ n → n < at → ¬ P n

-- the first number from that one on that has the property, if there is one
abbrev pub AnswersNext : (ℕ → Type 0) → ℕ → Option ℕ → Type 0
AnswersNext P from o = MatchOption o ((n : ℕ) → from ≤ n → ¬ P n) (IsNextOf P from)

-- the key is listed with the place, and the binding there is live
abbrev pub IsLiveUnder : List Keyed → Live → Text → ℕ → Type 0
IsLiveUnder xs live key place = Contains xs (keyed key place) × IsLiveAt live place

-- the key is listed with the place, which is one of from..to
abbrev pub IsUnderBetween : List Keyed → Text → ℕ → ℕ → ℕ → Type 0
IsUnderBetween xs key from to place = Contains xs (keyed key place) × (from ≤ place) × (place < to)

-- one of these keys is listed with the place, which comes before `end`
abbrev pub IsUnderAny : List Keyed → (Text → Type 0) → ℕ → ℕ → Type 0
IsUnderAny xs Has end place = (key : Text) × Has key × IsUnderBetween xs key 0 end place

-- new has what old has, and the places that have the property
abbrev pub AddsPlaces : (ℕ → Type 0) → List ℕ → List ℕ → Type 0
AddsPlaces P old new = (place : ℕ) → Contains new place ↔ (Contains old place ⊎ P place)

-- one of these keys is listed with the place, and the binding there is live
abbrev pub IsLiveUnderAny : List Keyed → Live → (Text → Type 0) → ℕ → Type 0
IsLiveUnderAny xs live Has place = (key : Text) × Has key × IsLiveUnder xs live key place

-- the grant with that number is of a binding that is live, and listed under one of these keys
abbrev pub IsOfLive : PolicyView → List Keyed → Live → (Text → Type 0) → ℕ → Type 0
IsOfLive p xs live Has number = (place : ℕ) × IsOfBinding p number place
    × IsLiveUnderAny xs live Has place

-- the lesser of the given numbers; none if neither is given
abbrev pub sooner : Option ℕ → Option ℕ → Option ℕ
sooner None b = b
sooner (Some a) None = Some a
sooner (Some a) (Some b) = Some (min a b)
