-- a rule's permissions, list by list
use Rattle.std.proofs.Common.{◌≡◌, ◌≢◌, ◌⊎◌, ◌↔◌, ◌∙◌, [], inl, inr, refl, ap, sym, subst, arith, Any, Some, None, Option, Contains, Bor, is_some, true, false}
use Rattle.std.specs.Option.{option_copied}
use Rattle.rbac_terms.specs.Text.{Text}
use Rattle.rbac_terms.specs.declared.matching.Rule.{Rule}
use Rattle.rbac_diff.specs.Permissions.{PermissionView, Permitted, OnResource, OnUrl, Permits}
use Rattle.rbac_diff.specs.Finding.{IsOnResource, IsOnUrl, IsOnTarget, IsOfRule}
use Rattle.rbac_diff.specs.declared.finding.Search.{Search}

-- a namespace that is lent, or none
pub copied_none : (o : Option (Bor Text)) → is_some o ≡ false → option_copied o ≡ None
copied_none None e = refl
copied_none (Some x) e = absurd (let both : true ≡ false = e in cc)

pub copied_some : (o : Option (Bor Text)) → is_some o ≡ true → option_copied o ≡ None → ⊥
copied_some None e h = let both : false ≡ true = e in cc
copied_some (Some x) e h = let both : Some x.now ≡ None = h in cc

module _ (s : Search) (r : Rule) (verb : Text) where
  -- one of the names, or any
  abbrev pub HasName : Text → Text → Text → PermissionView → Type 0
  HasName group resource name p = (p.verb ≡ verb) × (p.target ≡ OnResource (option_copied s.namespace) group resource (Some name))

  abbrev pub HasAnyName : Text → Text → PermissionView → Type 0
  HasAnyName group resource p = (p.verb ≡ verb) × (p.target ≡ OnResource (option_copied s.namespace) group resource None)

  on_names : (group resource : Text) (p : PermissionView) → r.resource_names ≢ [] → IsOnResource s r verb group resource p → Any (λ name. HasName group resource name p) r.resource_names
  on_names group resource p some (v, (None, e, t)) = absurd (some e)
  on_names group resource p some (v, (Some n, c, t)) = (c.0, n, c.1, c.2, (v, t))

  pub with_names : (group resource : Text) → r.resource_names ≢ [] → (p : PermissionView) → Any (λ name. HasName group resource name p) r.resource_names ↔ IsOnResource s r verb group resource p
  with_names group resource some p = (λ a. (a.4.0, (Some a.1, (a.0, a.2, a.3), a.4.1)), on_names group resource p some)

  on_any : (group resource : Text) (p : PermissionView) → r.resource_names ≡ [] → IsOnResource s r verb group resource p → HasAnyName group resource p
  on_any group resource p none (v, (None, e, t)) = (v, t)
  on_any group resource p none (v, (Some n, c, t)) = absurd (let in_none : Contains [] n = subst (λ ns. Contains ns n) none c in omega (arith, in_none.1))

  pub without_names : (group resource : Text) → r.resource_names ≡ [] → (p : PermissionView) → HasAnyName group resource p ↔ IsOnResource s r verb group resource p
  without_names group resource none p = (λ h. (h.0, (None, none, h.1)), on_any group resource p none)

  -- resources of each group, and URLs
  abbrev pub IsOnResources : PermissionView → Type 0
  IsOnResources p = Any (λ group. Any (λ resource. IsOnResource s r verb group resource p) r.resources) r.groups

  abbrev pub IsOnUrls : PermissionView → Type 0
  IsOnUrls p = Any (λ w. IsOnUrl verb w p) r.urls

  split : (p : PermissionView) (t : Permitted) → p.target ≡ t → p.verb ≡ verb → Permits (option_copied s.namespace) r t → IsOnResources p ⊎ ((option_copied s.namespace ≡ None) × IsOnUrls p)
  split p (OnResource namespace group resource name) is v h =
      inl (h.1.0, group, h.1.1, h.1.2, (h.2.0, resource, h.2.1, h.2.2, (v, (name, h.3, is ∙ ap (λ (n : Option Text). OnResource n group resource name) h.0))))
  split p (OnUrl url) is v h = inr (h.0, (h.1.0, h.1.1, h.1.2, h.1.3, (v, is ∙ ap OnUrl (sym h.1.4))))

  from_resources : (p : PermissionView) → IsOnResources p → IsOnTarget s r verb p
  from_resources p a =
      let b = a.4 in
      let c = b.4 in
      (c.0, subst (λ (t : Permitted). Permits (option_copied s.namespace) r t) (sym c.1.2) (refl, (a.0, a.2, a.3), (b.0, b.2, b.3), c.1.1))

  from_urls : (p : PermissionView) → option_copied s.namespace ≡ None → IsOnUrls p → IsOnTarget s r verb p
  from_urls p none a = (a.4.0, subst (λ (t : Permitted). Permits (option_copied s.namespace) r t) (sym a.4.1) (none, (a.0, a.1, a.2, a.3, refl)))

  pub with_urls : option_copied s.namespace ≡ None → (p : PermissionView) → IsOnTarget s r verb p ↔ (IsOnResources p ⊎ IsOnUrls p)
  with_urls none p = (
    λ h. elim (split p p.target refl h.0 h.1) [ inl k ↦ inl k | inr k ↦ inr k.1 ],
    λ h. elim h [ inl k ↦ from_resources p k | inr k ↦ from_urls p none k ],
  )

  pub without_urls : (option_copied s.namespace ≡ None → ⊥) → (p : PermissionView) → IsOnResources p ↔ IsOnTarget s r verb p
  without_urls some p = (from_resources p, λ h. elim (split p p.target refl h.0 h.1) [ inl k ↦ k | inr k ↦ absurd (some k.0) ])

-- each verb
pub each_verb : (s : Search) (r : Rule) (p : PermissionView) → Any (λ v. IsOnTarget s r v p) r.verbs ↔ IsOfRule s r p
each_verb s r p = (
  λ a. ((let P : Text → Type 0 = λ v. Contains r.verbs v in subst P (sym a.4.0) (a.0, a.2, a.3)), a.4.1),
  λ h. (h.0.0, p.verb, h.0.1, h.0.2, (refl, h.1)),
)
