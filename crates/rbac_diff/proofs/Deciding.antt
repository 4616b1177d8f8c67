-- whether a permission is gained is decided
use Rattle.std.proofs.Common.{◌≡◌, ℕ, [], ◌∷◌, ◌++◌, replicate, zero, suc, add-one, Contains, Any, inl, inr, ap, sym, subst, refl, ◌∙◌, append-nil}
use Rattle.std.specs.Prelude.{Option, Some, None}
use Rattle.std.proofs.lemmas.Bool.{cases_eq}
use Rattle.rbac_terms.specs.Text.{Text, star}
use Rattle.rbac_terms.specs.Targets.{Resource, Url, IsPath}
use Rattle.rbac_terms.specs.Granting.{Names}
use Rattle.rbac_terms.specs.Principals.{Who}
use Rattle.rbac_terms.specs.Matching.{EndsInStar, UrlWordMatches}
use Rattle.rbac_terms.specs.declared.matching.Rule.{Rule}
use Rattle.rbac_terms.specs.declared.granting.Binding.{Binding}
use Rattle.rbac_model.specs.OwnWords.{GivesPath, IsUrlSample, sample_prefix}
use Rattle.rbac_model.specs.Policies.{PolicyView, IsPolicy, GrantView, BindingNames}
use Rattle.rbac_model.proofs.Decided.{Decided, both, either, not_so, any, same_text, is_nil, names, rule}
use Rattle.rbac_model.proofs.UrlSamples.{IsUrlSample-one, unstarred}
use Rattle.rbac_diff.specs.Permissions.{Permitted, OnResource, OnUrl, PermissionView, HasPermission, IsFirstWith}
use Rattle.rbac_diff.specs.Requests.{IsGained}
use Rattle.rbac_diff.specs.Covering.{stand_ins, IsAsWide, CoversWords, CoversPermission, IsAskedFor}
use Rattle.rbac_diff.proofs.FirstWith.{same_option, has, first_with}
use Rattle.rbac_diff.proofs.Gained.{gained_exactly}

-- ---- samples

-- the one sample of a URL word
sample : (w : Text) → (x : Text) × IsUrlSample w x
sample w = of (unstarred w).prefix (unstarred w).stars (unstarred w).is (unstarred w).none
  where
    of : (q : Text) (k : ℕ) → w ≡ q ++ replicate k star → (EndsInStar q → ⊥) → (x : Text) × IsUrlSample w x
    of q zero e none = (w, inl (subst (λ t. EndsInStar t → ⊥) (sym (e ∙ append-nil q)) none, refl))
    of q (suc k) e none = (sample_prefix q ++ star ∷ [], inr (q, k, e ∙ ap (λ n. q ++ replicate n star) (sym (add-one k)), none, refl))

-- ---- covering

covers_words : (verb : Text) (t : Permitted) (r : Rule) → Decided (CoversWords verb t r)
covers_words verb (OnResource namespace group resource (Some name)) r = rule r verb (Resource group resource name)
covers_words verb (OnResource namespace group resource None) r =
    elim (both (rule (record r { resource_names = [] }) verb (Resource group resource [])) (is_nil r.resource_names)) [
      | inl h ↦ inl (h.0.0, (h.0.1.0, h.0.1.1, h.1))
      | inr n ↦ inr (λ w. n ((w.0, (w.1.0, w.1.1, inl refl)), w.1.2))
    ]
covers_words verb (OnUrl url) r =
    let s = sample url in
    elim (rule r verb (Url s.0)) [
      | inl h ↦ inl (h.0, λ x is. subst (λ y. Any (λ w. UrlWordMatches w y) r.urls) (IsUrlSample-one url s.0 x s.1 is) h.1)
      | inr n ↦ inr (λ w. n (w.0, w.1 s.0 s.1))
    ]

as_wide : (own : Option Text) (t : Permitted) → Decided (IsAsWide own t)
as_wide own (OnResource namespace group resource name) = either (same_option same_text own None) (same_option same_text own namespace)
as_wide own (OnUrl url) = same_option same_text own None

binding_names : (b : Binding) (who : Who) → Decided (BindingNames b who)
binding_names b who = any (λ s. Names s b.namespace who) (λ s. names s b.namespace who) b.subjects

covers : (p : PermissionView) (g : GrantView) → Decided (CoversPermission p g)
covers p g =
    elim (both (as_wide g.binding.namespace p.target) (both (any (BindingNames g.binding) (binding_names g.binding) (stand_ins p.principal)) (covers_words p.verb p.target g.rule.rule))) [
      | inl h ↦ inl (record { wide = h.0; names = h.1.0; words = h.1.1 })
      | inr n ↦ inr (λ c. n (c.wide, (c.names, c.words)))
    ]

-- ---- asked for

path : (t : Text) → Decided (IsPath t)
path [] = inr (λ w. cc)
path (c ∷ t) = elim (cases_eq c 47) [
  | inl e ↦ inl (t, ap (λ b. b ∷ t) e)
  | inr ne ↦ inr (λ w. ne (let e = w.1 in cc))
]

asked_for : (t : Permitted) → Decided (IsAskedFor t)
unfolding GivesPath
asked_for (OnResource namespace group resource name) =
    both (not_so (same_option same_text namespace (Some []))) (both (not_so (is_nil resource)) (not_so (path resource)))
asked_for (OnUrl url) =
    let s = sample url in
    elim (path s.0) [
      | inl p ↦ inl (s.0, s.1, p)
      | inr n ↦ inr (λ w. n (subst IsPath (IsUrlSample-one url w.0 s.0 w.1 s.1) w.2))
    ]

-- ---- gained

pub gained : (before after : PolicyView) → IsPolicy before → IsPolicy after → (p : PermissionView) → Decided ((b : Binding) × (IsGained before after p × IsFirstWith after p b))
gained before after ok also p = elim (any (HasPermission p) (has p) after.grants) [
  | inl a ↦
      let g = a.1 in
      let c : Contains after.grants g = (a.0, a.2, a.3) in
      let exactly = gained_exactly before after ok also p g c a.4 in
      elim (both (asked_for p.target) (not_so (any (CoversPermission p) (covers p) before.grants))) [
        | inl h ↦ (let first = first_with after also p g c a.4 in inl (first.0, (exactly.1 h, first.1)))
        | inr n ↦ inr (λ w. n (exactly.0 w.1.0))
      ]
  | inr none ↦ inr (λ w. let by = w.1.1.1.holds in none (by.0, by.1, by.2, by.3, by.4.1))
]
