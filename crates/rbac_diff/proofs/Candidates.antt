-- the permissions that a grant has are among a list of candidates
use Rattle.std.proofs.Common.{◌≡◌, List, [], ◌∷◌, ◌++◌, map, Contains, Any, zero, suc, refl, sym, ap, subst, arith}
use Rattle.std.specs.Prelude.{Option, Some, None}
use Rattle.std.specs.Option.{option_to_list}
use Rattle.std.specs.List.{flat_map}
use Rattle.rbac_terms.specs.Text.{Text}
use Rattle.rbac_terms.specs.Principals.{Who}
use Rattle.rbac_terms.specs.Granting.{subject_principal}
use Rattle.rbac_terms.specs.declared.matching.Rule.{Rule}
use Rattle.rbac_terms.specs.declared.granting.Subject.{Subject}
use Rattle.rbac_model.specs.Policies.{GrantView}
use Rattle.rbac_diff.specs.Permissions.{Permitted, OnResource, OnUrl, PermissionView, HasPermission, IsNameOf, Permits, one_star}

-- ---- elements of lists that are made of others

module _ {X : Type 0} where
  in_left : (x : X) (xs ys : List X) → Contains xs x → Contains (xs ++ ys) x
  in_left x [] ys c = absurd (omega (arith, c.1))
  in_left x (y ∷ xs) ys (zero, l, e) = (zero, omega arith, e)
  in_left x (y ∷ xs) ys (suc k, l, e) = let r = in_left x xs ys (k, omega arith, e) in (suc r.0, omega (arith, r.1), r.2)

  in_right : (x : X) (xs ys : List X) → Contains ys x → Contains (xs ++ ys) x
  in_right x [] ys c = c
  in_right x (y ∷ xs) ys c = let r = in_right x xs ys c in (suc r.0, omega (arith, r.1), r.2)

in_flat : {X Y : Type 0} (f : X → List Y) (xs : List X) (x : X) (y : Y) → Contains xs x → Contains (f x) y → Contains (flat_map f xs) y
in_flat f [] x y c d = absurd (omega (arith, c.1))
in_flat f (z ∷ xs) x y (zero, l, e) d = in_left y (f z) (flat_map f xs) (subst (λ w. Contains (f w) y) (sym e) d)
in_flat f (z ∷ xs) x y (suc k, l, e) d = in_right y (f z) (flat_map f xs) (in_flat f xs x y (k, omega arith, e) d)

in_map : {X Y : Type 0} (f : X → Y) (xs : List X) (x : X) → Contains xs x → Contains (map f xs) (f x)
in_map f [] x c = absurd (omega (arith, c.1))
in_map f (z ∷ xs) x (zero, l, e) = (zero, omega arith, ap f e)
in_map f (z ∷ xs) x (suc k, l, e) = let r = in_map f xs x (k, omega arith, e) in (suc r.0, omega (arith, r.1), r.2)

-- ---- candidates

abbrev names_or_any : List Text → List (Option Text)
names_or_any names = None ∷ map (λ n. Some n) names

named : (names : List Text) (name : Option Text) → IsNameOf names name → Contains (names_or_any names) name
named names None is = (zero, omega arith, refl)
named names (Some n) is = let r = in_map (λ (m : Text). Some m) names n is in (suc r.0, omega (arith, r.1), r.2)

abbrev targets : Option Text → Rule → List Permitted
targets own r =
    flat_map (λ group. flat_map (λ resource. map (λ name. OnResource own group resource name) (names_or_any r.resource_names)) r.resources) r.groups
    ++ map (λ w. OnUrl (one_star w)) r.urls

permitted : (own : Option Text) (r : Rule) (t : Permitted) → Permits own r t → Contains (targets own r) t
permitted own r (OnResource namespace group resource name) is =
    let resources = flat_map (λ g. flat_map (λ t. map (λ n. OnResource own g t n) (names_or_any r.resource_names)) r.resources) r.groups in
    in_left (OnResource namespace group resource name) resources _
    (in_flat (λ g. flat_map (λ t. map (λ n. OnResource own g t n) (names_or_any r.resource_names)) r.resources) r.groups group (OnResource namespace group resource name) is.1
    (in_flat (λ t. map (λ n. OnResource own group t n) (names_or_any r.resource_names)) r.resources resource (OnResource namespace group resource name) is.2
    (subst (λ o. Contains (map (λ n. OnResource own group resource n) (names_or_any r.resource_names)) (OnResource o group resource name)) (sym is.0)
    (in_map (λ n. OnResource own group resource n) (names_or_any r.resource_names) name (named r.resource_names name is.3)))))
permitted own r (OnUrl url) is =
    let w = is.1 in
    in_right (OnUrl url) _ (map (λ u. OnUrl (one_star u)) r.urls)
    (subst (λ u. Contains (map (λ v. OnUrl (one_star v)) r.urls) (OnUrl u)) w.4 (in_map (λ v. OnUrl (one_star v)) r.urls w.1 (w.0, w.2, w.3)))

abbrev principals : Option Text → List Subject → List Who
principals own subjects = flat_map (λ s. option_to_list (subject_principal own s)) subjects

stood_for : (own : Option Text) (subjects : List Subject) (who : Who) → Any (λ s. subject_principal own s ≡ Some who) subjects → Contains (principals own subjects) who
stood_for own subjects who a =
    in_flat (λ s. option_to_list (subject_principal own s)) subjects a.1 who (a.0, a.2, a.3) (rw a.4 (zero, omega arith, refl))

abbrev made : Who → Text → Permitted → PermissionView
made who verb t = record { principal = who; verb = verb; target = t }

abbrev pub candidates : GrantView → List PermissionView
candidates g =
    flat_map (λ who. flat_map (λ verb. map (made who verb) (targets g.binding.namespace g.rule.rule)) g.rule.rule.verbs) (principals g.binding.namespace g.binding.subjects)

pub is_candidate : (gs : List GrantView) (g : GrantView) (p : PermissionView) → Contains gs g → HasPermission p g → Contains (flat_map candidates gs) p
is_candidate gs g p c has =
    let own = g.binding.namespace in
    let r = g.rule.rule in
    in_flat candidates gs g p c
    (in_flat (λ who. flat_map (λ verb. map (made who verb) (targets own r)) r.verbs) (principals own g.binding.subjects) p.principal p (stood_for own g.binding.subjects p.principal has.principal)
    (in_flat (λ verb. map (made p.principal verb) (targets own r)) r.verbs p.verb p has.verb
    (in_map (made p.principal p.verb) (targets own r) p.target (permitted own r p.target has.target))))
