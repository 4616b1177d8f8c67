-- The lines of a binding, by the requests that it allows.
use Rattle.std.proofs.Common.{◌≡◌, ◌≢◌, ℕ, ◌↔◌, ◌⊎◌, List, [], Some, None, slice_get, inl, inr, refl, sym, ap, subst, ◌∙◌}
use Rattle.std.proofs.lemmas.Option.{same_Some}
use Rattle.rbac_terms.specs.declared.granting.Binding.{Binding}
use Rattle.rbac_terms.specs.declared.matching.Rule.{Rule as ARule}
use Rattle.rbac_model.specs.Policies.{GrantView, PolicyView}
use Rattle.rbac_model.proofs.OwnWords.{any_weaker}
use Rattle.rbac_diff.specs.Requests.{RequestView}
use Rattle.rbac_use.specs.Adding.{OfSome, line_at}
use Rattle.rbac_use.specs.Asked.{AreAskedAt, IsAskedBy, IsSubjectLine}
use Rattle.rbac_use.specs.Permissions.{IsPermissionAt}
use Rattle.rbac_use.specs.Requests.{log_of}
use Rattle.rbac_use.specs.Rules.{IsGrantLine, IsIdleAt, IsRuleLine, IsVerbLine, UseView, grant_use}
use Rattle.rbac_use.specs.Unused.{IsPartLine, IsUnusedPart}
use Rattle.rbac_use.specs.Used.{AllowsThrough, CanBeUsed, HasPermissions, IsAllowedAt, IsGrantOf, IsUsed, IsUsedAt}
use Rattle.rbac_use.specs.declared.permission.TargetPlaces.{TargetPlaces}
use Rattle.rbac_use.specs.declared.permission.TargetPlaces.TheVariants.{Resource, Url}
use Rattle.rbac_use.specs.declared.request.Request.{Request}
use Rattle.rbac_use.specs.declared.unused.Part.{Part}
use Rattle.rbac_use.specs.declared.unused.Part.TheVariants.{Whole, Subject, Rule, Permission}
use Rattle.rbac_use.specs.declared.unused.Unused.{Unused}
use Rattle.rbac_use.proofs.AskedOf.{some_used, used, used_by}
use Rattle.rbac_use.proofs.Words.{permission_within}

-- a line of a binding is the line of its part
line_is : (place : ℕ) (x : Unused) → x.binding ≡ place → x ≡ line_at place x.part
line_is place x e = ap (λ (n : ℕ). line_at n x.part) e

-- what holds of each part holds of each line
of_parts : (place : ℕ) (U : Part → Type 0) (Q : Unused → Type 0) → ((part : Part) → U part → Q (line_at place part)) → (x : Unused) → (x.binding ≡ place) × U x.part → Q x
of_parts place U Q f x h = subst Q (sym (line_is place x h.0)) (f x.part h.1)

module _ (p : PolicyView) (place : ℕ) (log : List RequestView) where
  -- a used grant makes its binding used
  pub used_binding : (n : ℕ) (g : GrantView) → IsGrantOf p place n g → IsUsed log g.binding g.rule.rule → IsUsedAt p log place
  used_binding n g of w = any_weaker (AllowsThrough g.binding g.rule.rule) (IsAllowedAt p place) log (λ r a. (n, g, of, a)) w

  abbrev pub WholeLine : Unused → Type 0
  WholeLine x = (x ≡ line_at place Whole) × HasPermissions p place

  -- of a binding that isn't used, all of it is unused, or nothing is told
  whole_part : ¬ IsUsedAt p log place → (part : Part) → IsUnusedPart p log place part → WholeLine (line_at place part)
  whole_part not Whole h = (refl, h.0)
  whole_part not (Subject i) h = absurd (not h.5)
  whole_part not (Rule n) h = absurd (not h.3)
  whole_part not (Permission n verb target) h = absurd (not (used_binding n h.0 h.2 h.5))

  part_whole : ¬ IsUsedAt p log place → (x : Unused) → WholeLine x → IsPartLine p log place x
  part_whole not x h = let line : IsPartLine p log place (line_at place Whole) = (refl, (h.1, not)) in subst (IsPartLine p log place) (sym h.0) line

  pub whole_lines : ¬ IsUsedAt p log place → (x : Unused) → IsPartLine p log place x ↔ WholeLine x
  whole_lines not x = (of_parts place (IsUnusedPart p log place) WholeLine (whole_part not) x, part_whole not x)

module _ (p : PolicyView) (place : ℕ) (requests asked : List Request) (are : AreAskedAt p place requests asked) (b : Binding) (at : slice_get p.held.bindings place ≡ Some b) where
  abbrev PartOf : Unused → Type 0
  PartOf x = OfSome (IsSubjectLine place asked b) x ⊎ OfSome (IsGrantLine p place asked) x

  module _ (n : ℕ) (g : GrantView) (of : IsGrantOf p place n g) where
    rule_used : IsUsed (log_of requests) g.binding g.rule.rule ↔ IsAskedBy asked g.rule.rule
    rule_used = used p place requests asked are n g of g.rule.rule (λ v t h. h)

    permission_used : (verb : ℕ) (target : TargetPlaces) (q : ARule) → IsPermissionAt g.rule.rule verb target q → IsUsed (log_of requests) g.binding q ↔ IsAskedBy asked q
    permission_used verb target q is = used p place requests asked are n g of q (λ v t h. permission_within g.rule.rule q verb v target t is.1 h)

    idle_at : (verb : ℕ) (target : TargetPlaces) (q : ARule) → IsPermissionAt g.rule.rule verb target q → CanBeUsed g.binding q → ¬ IsUsed (log_of requests) g.binding q → IsIdleAt (grant_use place asked n g) verb target
    idle_at verb target q is can not = (q, is, (can, λ w. not ((permission_used verb target q is).1 w)))

  verb_line : (u : UseView) (verb : ℕ) (target : TargetPlaces) → IsIdleAt u verb target → IsVerbLine u verb (line_at u.place (Permission u.number verb target))
  verb_line u verb (Url k) idle = inl (k, (refl, idle))
  verb_line u verb (Resource j k None) idle = inr (j, (k, inl (refl, idle)))
  verb_line u verb (Resource j k (Some l)) idle = inr (j, (k, inr (l, (refl, idle))))

  part_is : IsUsedAt p (log_of requests) place → (part : Part) → IsUnusedPart p (log_of requests) place part → PartOf (line_at place part)
  part_is is Whole h = absurd (h.1 is)
  part_is is (Subject i) h =
      let same : h.0 ≡ b = same_Some h.0 b (sym h.2 ∙ at) in
      let by = used_by p place requests asked are h.0.namespace h.1 in
      let line : IsSubjectLine place asked h.0 i (line_at place (Subject i)) = (h.1, h.3, refl, (h.4, λ w. h.6 (by.1 w))) in
      inl (i, subst (λ (c : Binding). IsSubjectLine place asked c i (line_at place (Subject i))) same line)
  part_is is (Rule n) h = inr (n, (h.0, h.1, inl (refl, (h.2, λ w. h.4 ((rule_used n h.0 h.1).1 w)))))
  part_is is (Permission n verb target) h =
      let g = h.0 in
      let u = grant_use place asked n g in
      inr (n, (g, h.2, inr ((rule_used n g h.2).0 h.5, (verb, verb_line u verb target (idle_at n g h.2 verb target h.1 h.3 h.4 h.6)))))

  subject_part : IsUsedAt p (log_of requests) place → (i : ℕ) (x : Unused) → IsSubjectLine place asked b i x → IsPartLine p (log_of requests) place x
  subject_part is i x h =
      let by = used_by p place requests asked are b.namespace h.0 in
      let line : IsPartLine p (log_of requests) place (line_at place (Subject i)) = (refl, (b, h.0, at, h.1, h.3.0, is, λ w. h.3.1 (by.0 w))) in
      subst (IsPartLine p (log_of requests) place) (sym h.2) line

  module _ (n : ℕ) (g : GrantView) (of : IsGrantOf p place n g) where
    permission_part : IsAskedBy asked g.rule.rule → (verb : ℕ) (target : TargetPlaces) (x : Unused) → x ≡ line_at place (Permission n verb target) → IsIdleAt (grant_use place asked n g) verb target → IsPartLine p (log_of requests) place x
    permission_part by verb target x e idle =
        let q = idle.0 in
        let using = permission_used n g of verb target q idle.1 in
        let line : IsPartLine p (log_of requests) place (line_at place (Permission n verb target)) =
        (refl, (g, q, of, idle.1, idle.2.0, (rule_used n g of).1 by, λ w. idle.2.1 (using.0 w))) in
        subst (IsPartLine p (log_of requests) place) (sym e) line

    verb_part : IsAskedBy asked g.rule.rule → (verb : ℕ) (x : Unused) → IsVerbLine (grant_use place asked n g) verb x → IsPartLine p (log_of requests) place x
    verb_part by verb x (inl (k, (e, idle))) = permission_part by verb (Url k) x e idle
    verb_part by verb x (inr (j, (k, inl (e, idle)))) = permission_part by verb (Resource j k None) x e idle
    verb_part by verb x (inr (j, (k, inr (l, (e, idle))))) = permission_part by verb (Resource j k (Some l)) x e idle

    rule_part : IsUsedAt p (log_of requests) place → (x : Unused) → IsRuleLine (grant_use place asked n g) x → IsPartLine p (log_of requests) place x
    rule_part is x (inl (e, idle)) =
        let line : IsPartLine p (log_of requests) place (line_at place (Rule n)) = (refl, (g, of, idle.0, is, λ w. idle.1 ((rule_used n g of).0 w))) in
        subst (IsPartLine p (log_of requests) place) (sym e) line
    rule_part is x (inr (by, (verb, h))) = verb_part by verb x h

  of_part : IsUsedAt p (log_of requests) place → (x : Unused) → PartOf x → IsPartLine p (log_of requests) place x
  of_part is x (inl (i, h)) = subject_part is i x h
  of_part is x (inr (n, (g, of, h))) = rule_part n g of is x h

  pub part_lines : asked ≢ [] → (x : Unused) → IsPartLine p (log_of requests) place x ↔ PartOf x
  part_lines some x =
      let is = some_used p place requests asked are some in
      (of_parts place (IsUnusedPart p (log_of requests) place) PartOf (part_is is) x, of_part is x)
