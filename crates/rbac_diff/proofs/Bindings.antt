-- the permissions of one binding, subject by subject
use Rattle.std.proofs.Common.{◌≡◌, ◌⊎◌, ◌↔◌, ◌++◌, ◌∷◌, [], ℕ, List, inl, inr, refl, sym, ◌∙◌, ap, subst, arith, Some, None, Option, Any, slice_get, Bor}
use Rattle.std.proofs.lemmas.Option.{same_Some}
use Rattle.rbac_terms.specs.Granting.{named, subject_principal}
use Rattle.rbac_terms.specs.Text.{Text}
use Rattle.rbac_terms.specs.Principals.{Who, AsUser, AsMember, account_user, given_of}
use Rattle.rbac_terms.specs.declared.granting.Binding.{Binding}
use Rattle.rbac_terms.specs.declared.granting.Subject.{Subject}
use Rattle.rbac_terms.specs.declared.granting.Subject.TheVariants.{User, Group, Account}
use Rattle.rbac_terms.specs.declared.matching.Rule.{Rule}
use Rattle.rbac_model.specs.Policies.{PolicyView, GrantView, IsOfBinding}
use Rattle.rbac_model.proofs.LabelSets.{any_push}
use Rattle.rbac_diff.specs.Permissions.{PermissionView, Permitted, OnResource, OnUrl, Permits}
use Rattle.rbac_diff.specs.Covering.{IsAskedFor, IsCovered, IsAsWide, CoversWords}
use Rattle.rbac_diff.specs.StandIns.{AreStandInRules, IsWider}
use Rattle.rbac_diff.specs.Finding.{IsByGrants, IsMissing, IsGainedAt, IsUncovered, FoundChanges, Finds}
use Rattle.rbac_diff.specs.Listed.{OriginView}
use Rattle.rbac_diff.proofs.Searching.{finds_none, finds_more, finds_same}

-- the principal that a subject stands for is given no groups
named_none : (of : Text → Who) → ((name : Text) → given_of (of name) ≡ []) → (name : Text) (who : Who) → named of name ≡ Some who → given_of who ≡ []
named_none of none [] who e = absurd (let both : None ≡ Some who = e in cc)
named_none of none (c ∷ name) who e = ap given_of (sym (same_Some (of (c ∷ name)) who e)) ∙ none (c ∷ name)

pub none_given : (own : Option Text) (s : Subject) (who : Who) → subject_principal own s ≡ Some who → given_of who ≡ []
none_given own (User name) who e = named_none (λ n. AsUser n []) (λ n. refl) name who e
none_given own (Group name) who e = named_none AsMember (λ n. refl) name who e
none_given own (Account (Some namespace) name) who e = ap given_of (sym (same_Some (AsUser (account_user namespace name) []) who e))
none_given (Some namespace) (Account None name) who e = ap given_of (sym (same_Some (AsUser (account_user namespace name) []) who e))
none_given None (Account None name) who e = absurd (let both : None ≡ Some who = e in cc)

as_wide : (o own : Option Text) (r : Rule) (t : Permitted) → Permits own r t → IsWider o own → IsAsWide o t
as_wide o own r (OnResource namespace group resource name) h (inl e) = inl e
as_wide o own r (OnResource namespace group resource name) h (inr e) = inr (e ∙ sym h.0)
as_wide o own r (OnUrl url) h (inl e) = e
as_wide o own r (OnUrl url) h (inr e) = e ∙ h.0

wider_from : (o own : Option Text) (r : Rule) (t : Permitted) → Permits own r t → IsAsWide o t → IsWider o own
wider_from o own r (OnResource namespace group resource name) h (inl e) = inl e
wider_from o own r (OnResource namespace group resource name) h (inr e) = inr (e ∙ h.0)
wider_from o own r (OnUrl url) h e = inl e

-- the rules that everybody has whom a principal stands for decide what is covered
module _ (before : PolicyView) (own : Option Text) (rules : List (Bor Rule)) (p : PermissionView) (are : AreStandInRules before p.principal own rules) (r : Rule) (permits : Permits own r p.target) where
  covered_by_rule : Any (λ x. CoversWords p.verb p.target x.now) rules → IsCovered before p
  covered_by_rule a =
      let g = (are a.1.now).0 (a.0, a.1, a.2, a.3, refl) in
      let w = g.4 in (
        g.0,
        g.1,
        g.2,
        g.3,
        record {
          wide = as_wide g.1.binding.namespace own r p.target permits w.0;
          names = w.1;
          words = subst (λ (x : Rule). CoversWords p.verb p.target x) (sym w.2) a.4;
        },
      )

  rule_of_cover : IsCovered before p → Any (λ x. CoversWords p.verb p.target x.now) rules
  rule_of_cover a =
      let c = a.4 in
      let x = (are a.1.rule.rule).1 (a.0, a.1, a.2, a.3, (wider_from a.1.binding.namespace own r p.target permits c.wide, c.names, refl)) in
      (x.0, x.1, x.2, x.3, subst (λ (y : Rule). CoversWords p.verb p.target y) (sym x.4) c.words)

  pub missing_exactly : IsMissing rules p ↔ (IsAskedFor p.target × (IsCovered before p → ⊥))
  missing_exactly = (
    λ m. (m.asked, λ c. m.missing (rule_of_cover c)),
    λ h. record { asked = h.0; missing = λ a. h.1 (covered_by_rule a) },
  )

module _ (before after : PolicyView) (place : ℕ) (own : Option Text) (x : OriginView) where
  abbrev pub IsBySubject : Subject → PermissionView → Type 0
  IsBySubject s p = subject_principal own s ≡ Some p.principal

  abbrev pub IsBySubjects : List Subject → PermissionView → Type 0
  IsBySubjects subjects p = Any (λ s. IsBySubject s p) subjects × IsByGrants after place own p × IsUncovered before p

  pub subjects_none : (m : FoundChanges) → Finds (IsBySubjects []) x m m
  subjects_none m = finds_none (IsBySubjects []) x m (λ p h. omega (arith, h.0.2))

  one_more : (s : Subject) (subjects : List Subject) (p : PermissionView) → IsBySubjects (subjects ++ s ∷ []) p ↔ (IsBySubjects subjects p ⊎ (IsBySubject s p × IsByGrants after place own p × IsUncovered before p))
  one_more s subjects p = (
    λ h. elim ((any_push (λ y. IsBySubject y p) subjects s).0 h.0) [ inl a ↦ inl (a, h.1, h.2) | inr b ↦ inr (b, h.1, h.2) ],
    λ h. elim h [
      | inl a ↦ ((any_push (λ y. IsBySubject y p) subjects s).1 (inl a.0), a.1, a.2)
      | inr b ↦ ((any_push (λ y. IsBySubject y p) subjects s).1 (inr b.0), b.1, b.2)
    ],
  )

  -- a subject that stands for nobody
  pub subjects_nobody : (s : Subject) (subjects : List Subject) (a b : FoundChanges) → subject_principal own s ≡ None → Finds (IsBySubjects subjects) x a b → Finds (IsBySubjects (subjects ++ s ∷ [])) x a b
  subjects_nobody s subjects a b nobody f = finds_same (IsBySubjects subjects) (IsBySubjects (subjects ++ s ∷ [])) x a b
      (λ p. (
        λ h. (one_more s subjects p).1 (inl h),
        λ h. elim ((one_more s subjects p).0 h) [ inl k ↦ k | inr k ↦ absurd (let both : None ≡ Some p.principal = sym nobody ∙ k.0 in cc) ],
      )) f

  -- the rules that everybody has whom a principal stands for decide what is found
  abbrev pub IsByPrincipal : Who → PermissionView → Type 0
  IsByPrincipal who p = (p.principal ≡ who) × IsByGrants after place own p × IsUncovered before p

  pub principal_finds : (who : Who) (rules : List (Bor Rule)) (a b : FoundChanges) → AreStandInRules before who own rules
      → Finds (λ p. (p.principal ≡ who) × IsByGrants after place own p × IsMissing rules p) x a b → Finds (IsByPrincipal who) x a b
  principal_finds who rules a b are = finds_same (λ p. (p.principal ≡ who) × IsByGrants after place own p × IsMissing rules p) (IsByPrincipal who) x a b
      (λ p. (
        λ h. (h.0, h.1, (missing_exactly before own rules p (subst (λ (w : Who). AreStandInRules before w own rules) (sym h.0) are) h.1.1.rule.rule h.1.5).0 h.2),
        λ h. (h.0, h.1, (missing_exactly before own rules p (subst (λ (w : Who). AreStandInRules before w own rules) (sym h.0) are) h.1.1.rule.rule h.1.5).1 h.2),
      ))

  -- a subject that stands for a principal
  pub subjects_more : (s : Subject) (subjects : List Subject) (who : Who) (a b c : FoundChanges) → subject_principal own s ≡ Some who
      → Finds (IsBySubjects subjects) x a b → Finds (IsByPrincipal who) x b c → Finds (IsBySubjects (subjects ++ s ∷ [])) x a c
  subjects_more s subjects who a b c is f g =
      finds_more (IsBySubjects subjects) (λ p. IsBySubject s p × IsByGrants after place own p × IsUncovered before p) (IsBySubjects (subjects ++ s ∷ [])) x a b c (one_more s subjects) f
      (finds_same (IsByPrincipal who) (λ p. IsBySubject s p × IsByGrants after place own p × IsUncovered before p) x b c
      (λ p. (
        λ h. (is ∙ ap (λ (w : Who). Some w) (sym h.0), h.1, h.2),
        λ h. (same_Some p.principal who (sym h.0 ∙ is), h.1, h.2),
      )) g)

module _ (before after : PolicyView) (place : ℕ) (b : Binding) (x : OriginView) (there : slice_get after.held.bindings place ≡ Some b) where
  binding_is : (n : ℕ) (g : GrantView) → slice_get after.grants n ≡ Some g → IsOfBinding after n place → g.binding ≡ b
  binding_is n g is at =
      let same : at.0 ≡ g = same_Some at.0 g (sym at.1 ∙ is) in
      ap (λ (h : GrantView). h.binding) (sym same) ∙ same_Some at.0.binding b (sym at.2 ∙ there)

  pub gained_by_subjects : (p : PermissionView) → IsBySubjects before after place b.namespace x b.subjects p ↔ IsGainedAt before after place p
  gained_by_subjects p = (
    λ h. (let own : h.1.1.binding ≡ b = binding_is h.1.0 h.1.1 h.1.2 h.1.3 in
        record {
          grant = (
            h.1.0,
            h.1.1,
            h.1.2,
            h.1.3,
            record {
              principal = subst (λ (c : Binding). Any (λ s. subject_principal c.namespace s ≡ Some p.principal) c.subjects) (sym own) h.0;
              verb = h.1.4;
              target = subst (λ (c : Binding). Permits c.namespace h.1.1.rule.rule p.target) (sym own) h.1.5;
            },
          );
          asked = h.2.0;
          missing = h.2.1;
        }),
    λ h. (let g = h.grant in
        let own : g.1.binding ≡ b = binding_is g.0 g.1 g.2 g.3 in (
          subst (λ (c : Binding). Any (λ s. subject_principal c.namespace s ≡ Some p.principal) c.subjects) own g.4.principal,
          (g.0, g.1, g.2, g.3, g.4.verb, subst (λ (c : Binding). Permits c.namespace g.1.rule.rule p.target) own g.4.target),
          (h.asked, h.missing),
        )),
  )
