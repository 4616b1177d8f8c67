-- The words of a permission are words of its rule.
use Rattle.std.proofs.Common.{◌≡◌, ℕ, ◌<◌, List, [], ◌∷◌, Option, Some, None, Any, Contains, get_or, length, slice_get, inl, inr, refl, sym, subst, arith, zero, suc, option_map}
use Rattle.std.specs.Prelude.{option_and_then}
use Rattle.std.proofs.lemmas.Option.{same_Some, slice_get_within, get_or_from_slice_get}
use Rattle.rbac_terms.specs.Text.{Text}
use Rattle.rbac_terms.specs.Targets.{What, Resource, Url}
use Rattle.rbac_terms.specs.Matching.{NameMatches, ResourceWordMatches, RuleAllows, UrlWordMatches, WordMatches}
use Rattle.rbac_terms.specs.declared.matching.Rule.{Rule}
use Rattle.rbac_use.specs.Permissions.{names_at, no_names, permission_at, resource_permission, url_permission}
use Rattle.rbac_use.specs.declared.permission.TargetPlaces.{TargetPlaces}
use Rattle.rbac_use.specs.declared.permission.TargetPlaces.TheVariants.{Resource as AtResource, Url as AtUrl}

and_then_some : {A B : Type 0} (f : A → Option B) (o : Option A) (y : B) → option_and_then f o ≡ Some y → (x : A) × (o ≡ Some x) × (f x ≡ Some y)
and_then_some f None y e = absurd (let both : None ≡ Some y = e in cc)
and_then_some f (Some x) y e = (x, refl, e)

map_some : {A B : Type 0} (f : A → B) (o : Option A) (y : B) → option_map f o ≡ Some y → (x : A) × (o ≡ Some x) × (f x ≡ y)
map_some f None y e = absurd (let both : None ≡ Some y = e in cc)
map_some f (Some x) y e = (x, refl, same_Some (f x) y e)

-- the words of a permission on a URL
pub record UrlWords (r : Rule) (i k : ℕ) (p : Rule) : Type 0 where
  pub verb : Text
  pub url : Text
  pub verb_at : slice_get r.verbs i ≡ Some verb
  pub url_at : slice_get r.urls k ≡ Some url
  pub is : p ≡ url_permission verb url

-- the words of a permission on a resource
pub record ResourceWords (r : Rule) (i j k : ℕ) (l : Option ℕ) (p : Rule) : Type 0 where
  pub verb : Text
  pub group : Text
  pub resource : Text
  pub names : List Text
  pub verb_at : slice_get r.verbs i ≡ Some verb
  pub group_at : slice_get r.groups j ≡ Some group
  pub resource_at : slice_get r.resources k ≡ Some resource
  pub names_are : names_at r.resource_names l ≡ Some names
  pub is : p ≡ resource_permission verb group resource names

module _ (r p : Rule) (i : ℕ) where
  pub url_words : (k : ℕ) → permission_at r i (AtUrl k) ≡ Some p → UrlWords r i k p
  url_words k e =
      let v = and_then_some (λ (verb : Text). option_map (λ (url : Text). url_permission verb url) (slice_get r.urls k)) (slice_get r.verbs i) p e in
      let u = map_some (λ (url : Text). url_permission v.0 url) (slice_get r.urls k) p v.2 in
      record { verb = v.0; url = u.0; verb_at = v.1; url_at = u.1; is = sym u.2 }

  pub resource_words : (j k : ℕ) (l : Option ℕ) → permission_at r i (AtResource j k l) ≡ Some p → ResourceWords r i j k l p
  resource_words j k l e =
      let of_names : Text → Text → Text → Option Rule = λ verb group resource. option_map (λ (names : List Text). resource_permission verb group resource names) (names_at r.resource_names l) in
      let of_resource : Text → Text → Option Rule = λ verb group. option_and_then (of_names verb group) (slice_get r.resources k) in
      let of_group : Text → Option Rule = λ verb. option_and_then (of_resource verb) (slice_get r.groups j) in
      let v = and_then_some of_group (slice_get r.verbs i) p e in
      let g = and_then_some (of_resource v.0) (slice_get r.groups j) p v.2 in
      let s = and_then_some (of_names v.0 g.0) (slice_get r.resources k) p g.2 in
      let n = map_some (λ (names : List Text). resource_permission v.0 g.0 s.0 names) (names_at r.resource_names l) p s.2 in
      record { verb = v.0; group = g.0; resource = s.0; names = n.0; verb_at = v.1; group_at = g.1; resource_at = s.1; names_are = n.1; is = sym n.2 }

-- ---- what a permission allows, its rule allows

only : {X : Type 0} (P : X → Type 0) (x y : X) (k : ℕ) → k < 1 → get_or (x ∷ []) k y ≡ y → P y → P x
only P x y zero l e h = subst P (sym e) h
only P x y (suc k) l e h = absurd (omega arith)

any_of_one : {X : Type 0} (P : X → Type 0) (x : X) → Any P (x ∷ []) → P x
any_of_one P x w = only P x w.1 w.0 w.2 w.3 w.4

pub any_at : {X : Type 0} (P : X → Type 0) (xs : List X) (i : ℕ) (x : X) → slice_get xs i ≡ Some x → P x → Any P xs
any_at P xs i x e h = (i, x, slice_get_within xs i x e, get_or_from_slice_get xs i x x e, h)

-- one of some words, or the only one
one_to_any : {X : Type 0} (P : X → Type 0) (xs : List X) (i : ℕ) (x : X) → slice_get xs i ≡ Some x → Any P (x ∷ []) → Any P xs
one_to_any P xs i x e w = any_at P xs i x e (any_of_one P x w)

name_of_one : (name x : Text) → NameMatches (name ∷ []) x → name ≡ x
name_of_one name x (inl e) = absurd (let both : name ∷ [] ≡ [] = e in cc)
name_of_one name x (inr c) = only (λ (w : Text). w ≡ x) name x c.0 c.1 c.2 refl

none_names : (names ns : List Text) (x : Text) → no_names names ≡ Some ns → NameMatches names x
none_names [] ns x e = inl refl
none_names (n ∷ names) ns x e = absurd (let both : None ≡ Some ns = e in cc)

names_within : (names : List Text) (l : Option ℕ) (ns : List Text) (x : Text) → names_at names l ≡ Some ns → NameMatches ns x → NameMatches names x
names_within names None ns x e h = none_names names ns x e
names_within names (Some i) ns x e h =
    let n = map_some (λ (name : Text). name ∷ []) (slice_get names i) ns e in
    let same : n.0 ≡ x = name_of_one n.0 x (subst (λ (t : List Text). NameMatches t x) (sym n.2) h) in
    inr (subst (λ (t : Text). Contains names t) same (i, slice_get_within names i n.0 n.1, get_or_from_slice_get names i n.0 n.0 n.1))

none_of : {X : Type 0} (P : X → Type 0) → Any P [] → ⊥
none_of P w = omega (arith, w.2)

module _ (r p : Rule) (i : ℕ) (v : Text) where
  url_allows : (k : ℕ) (t : What) (w : UrlWords r i k p) → RuleAllows (url_permission w.verb w.url) v t → RuleAllows r v t
  url_allows k (Resource group text name) w h = absurd (none_of (λ (x : Text). WordMatches x group) h.1.0)
  url_allows k (Url path) w h = (
    one_to_any (λ (x : Text). WordMatches x v) r.verbs i w.verb w.verb_at h.0,
    one_to_any (λ (x : Text). UrlWordMatches x path) r.urls k w.url w.url_at h.1,
  )

  resource_allows : (j k : ℕ) (l : Option ℕ) (t : What) (w : ResourceWords r i j k l p) → RuleAllows (resource_permission w.verb w.group w.resource w.names) v t → RuleAllows r v t
  resource_allows j k l (Url path) w h = absurd (none_of (λ (x : Text). UrlWordMatches x path) h.1)
  resource_allows j k l (Resource group text name) w h = (
    one_to_any (λ (x : Text). WordMatches x v) r.verbs i w.verb w.verb_at h.0,
    (
      one_to_any (λ (x : Text). WordMatches x group) r.groups j w.group w.group_at h.1.0,
      one_to_any (λ (x : Text). ResourceWordMatches x text) r.resources k w.resource w.resource_at h.1.1,
      names_within r.resource_names l w.names name w.names_are h.1.2,
    ),
  )

  pub permission_within : (target : TargetPlaces) (t : What) → permission_at r i target ≡ Some p → RuleAllows p v t → RuleAllows r v t
  permission_within (AtUrl k) t e h = let w = url_words r p i k e in url_allows k t w (subst (λ (q : Rule). RuleAllows q v t) w.is h)
  permission_within (AtResource j k l) t e h = let w = resource_words r p i j k l e in resource_allows j k l t w (subst (λ (q : Rule). RuleAllows q v t) w.is h)

pub name_within : (names : List Text) (l : ℕ) (ns : List Text) → names_at names (Some l) ≡ Some ns → l < length names
name_within names l ns e = let n = map_some (λ (name : Text). name ∷ []) (slice_get names l) ns e in slice_get_within names l n.0 n.1
