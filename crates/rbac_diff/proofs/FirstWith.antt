-- whether a grant has a permission is decided, so there is a first binding that has it
use Rattle.std.proofs.Common.{◌≡◌, ◌∙◌, ℕ, List, [], ◌∷◌, Contains, Any, inl, inr, ap, ap₂, refl, slice_get}
use Rattle.std.specs.Prelude.{Option, Some, None}
use Rattle.std.proofs.lemmas.Option.{same_Some, slice_get_within, get_or_from_slice_get, slice_get-get_or}
use Rattle.rbac_terms.specs.Granting.{subject_principal}
use Rattle.rbac_terms.specs.Text.{Text}
use Rattle.rbac_terms.specs.Principals.{Who, AsUser, AsMember, who_name, given_of}
use Rattle.rbac_terms.specs.declared.granting.Binding.{Binding}
use Rattle.rbac_terms.specs.declared.matching.Rule.{Rule}
use Rattle.rbac_model.specs.Policies.{PolicyView, IsPolicy, GrantView, binding_name}
use Rattle.rbac_model.proofs.Decided.{Decided, both, all_three, any, first_of, same_text, is_nil, is_among}
use Rattle.rbac_model.proofs.GrantNumbers.{binding_of}
use Rattle.rbac_model.proofs.OneList.{one_of_name}
use Rattle.rbac_model.proofs.OwnWords.{any_from}
use Rattle.rbac_diff.specs.Permissions.{Permitted, OnResource, OnUrl, PermissionView, HasPermission, IsNameOf, Permits, HasBy, IsFirstWith, one_star}

same_texts : (xs ys : List Text) → Decided (xs ≡ ys)
same_texts [] [] = inl refl
same_texts [] (y ∷ ys) = inr (λ e. cc)
same_texts (x ∷ xs) [] = inr (λ e. cc)
same_texts (x ∷ xs) (y ∷ ys) = elim (both (same_text x y) (same_texts xs ys)) [
  | inl e ↦ inl (ap₂ (λ (a : Text) (l : List Text). a ∷ l) e.0 e.1)
  | inr ne ↦ inr (λ e. let head : x ≡ y = cc in let tail : xs ≡ ys = cc in ne (head, tail))
]

same_who : (a b : Who) → Decided (a ≡ b)
same_who (AsUser n g) (AsUser m h) = elim (both (same_text n m) (same_texts g h)) [
  | inl e ↦ inl (ap₂ (λ (a : Text) (l : List Text). AsUser a l) e.0 e.1)
  | inr ne ↦ inr (λ e. ne (ap who_name e, ap given_of e))
]
same_who (AsUser n g) (AsMember m) = inr (λ e. cc)
same_who (AsMember n) (AsUser m h) = inr (λ e. cc)
same_who (AsMember n) (AsMember m) = elim (same_text n m) [
  | inl e ↦ inl (ap (λ (a : Text). AsMember a) e)
  | inr ne ↦ inr (λ e. ne (ap who_name e))
]

pub same_option : {X : Type 0} → ((x y : X) → Decided (x ≡ y)) → (a b : Option X) → Decided (a ≡ b)
same_option same None None = inl refl
same_option same None (Some y) = inr (λ e. cc)
same_option same (Some x) None = inr (λ e. cc)
same_option {X} same (Some x) (Some y) = elim (same x y) [
  | inl e ↦ inl (ap (λ (z : X). Some z) e)
  | inr ne ↦ inr (λ e. ne (same_Some x y e))
]

has_name : (names : List Text) (name : Option Text) → Decided (IsNameOf names name)
has_name names None = is_nil names
has_name names (Some n) = is_among same_text names n

permits : (own : Option Text) (r : Rule) (t : Permitted) → Decided (Permits own r t)
permits own r (OnResource namespace group resource name) =
    elim (both (same_option same_text namespace own) (all_three (is_among same_text r.groups group) (is_among same_text r.resources resource) (has_name r.resource_names name))) [
      | inl p ↦ inl (p.0, p.1.0, p.1.1, p.1.2)
      | inr n ↦ inr (λ w. n (w.0, (w.1, w.2, w.3)))
    ]
permits own r (OnUrl url) = both (same_option same_text own None) (any (λ w. one_star w ≡ url) (λ w. same_text (one_star w) url) r.urls)

pub has : (p : PermissionView) (g : GrantView) → Decided (HasPermission p g)
has p g =
    let own = g.binding.namespace in
    elim (all_three (any (λ s. subject_principal own s ≡ Some p.principal) (λ s. same_option same_who (subject_principal own s) (Some p.principal)) g.binding.subjects)
    (is_among same_text g.rule.rule.verbs p.verb) (permits own g.rule.rule p.target)) [
      | inl h ↦ inl (record { principal = h.0; verb = h.1; target = h.2 })
      | inr n ↦ inr (λ h. n (h.principal, h.verb, h.target))
    ]

-- bindings are told apart by their names
module _ (policy : PolicyView) (is : IsPolicy policy) (p : PermissionView) where
  abbrev HasByName : Binding → Type 0
  HasByName b = Any (λ g. (binding_name g.binding ≡ binding_name b) × HasPermission p g) policy.grants

  has_by_name : (b : Binding) → Decided (HasByName b)
  has_by_name b =
      any (λ g. (binding_name g.binding ≡ binding_name b) × HasPermission p g) (λ g. both (same_texts (binding_name g.binding) (binding_name b)) (has p g)) policy.grants

  among : (k : ℕ) (b : Binding) → slice_get policy.held.bindings k ≡ Some b → Contains policy.held.bindings b
  among k b at = (k, slice_get_within policy.held.bindings k b at, get_or_from_slice_get policy.held.bindings k b b at)

  held_binding : (g : GrantView) → Contains policy.grants g → Contains policy.held.bindings g.binding
  held_binding g c =
      let of = binding_of policy.held policy.held.bindings policy.grants c.0 g is.1 (slice_get-get_or policy.grants c.0 g c.1 ∙ ap (λ (v : GrantView). Some v) c.2) in
      among of.0 g.binding of.1

  by_name : (b : Binding) → Contains policy.held.bindings b → HasByName b → HasBy policy p b
  by_name b c h =
      let same = one_of_name binding_name policy.held.bindings h.1.binding b is.0.bindings (held_binding h.1 (h.0, h.2, h.3)) c h.4.0 in
      (h.0, h.1, h.2, h.3, (same, h.4.1))

  named : (b : Binding) → HasBy policy p b → HasByName b
  named b h = (h.0, h.1, h.2, h.3, (ap binding_name h.4.0, h.4.1))

  pub first_with : (g : GrantView) → Contains policy.grants g → HasPermission p g → (b : Binding) × IsFirstWith policy p b
  first_with g c h = elim (first_of HasByName has_by_name policy.held.bindings) [
    | inl f ↦ (
      f.1,
      (
        f.0,
        record {
          here = f.2.here;
          holds = by_name f.1 (among f.0 f.1 f.2.here) f.2.holds;
          none_before = λ k y lt at own. f.2.none_before k y lt at (named y own);
        },
      ),
    )
    | inr none ↦ absurd (none (any_from HasByName policy.held.bindings g.binding (held_binding g c) (c.0, g, c.1, c.2, (refl, h))))
  ]
