-- Nothing that is unused was needed, and the requests alone decide what is unused.
use Rattle.std.proofs.Common.{◌≡◌, ℕ, ◌↔◌, List, [], ◌∷◌, Some, Any, Bool, Contains, slice_get, refl, sym, ap, subst, ◌∙◌}
use Rattle.std.proofs.lemmas.Option.{same_Some, slice_get_within}
use Rattle.rbac_terms.specs.Text.{Text}
use Rattle.rbac_terms.specs.Granting.{Names}
use Rattle.rbac_terms.specs.Matching.{RuleAllows}
use Rattle.rbac_terms.specs.declared.granting.Binding.{Binding}
use Rattle.rbac_terms.specs.declared.granting.Subject.{Subject as ASubject}
use Rattle.rbac_model.specs.Lists.{IsAscendingBy}
use Rattle.rbac_model.specs.Policies.{GrantView, IsPolicy, PolicyView}
use Rattle.rbac_model.proofs.BindingPlaces.{of_some_binding}
use Rattle.rbac_model.proofs.GrantNumbers.{some_grant}
use Rattle.rbac_model.proofs.OneList.{one_list}
use Rattle.rbac_model.proofs.OwnWords.{any_from, any_weaker}
use Rattle.rbac_diff.specs.Requests.{AllowsRequest, RequestView}
use Rattle.rbac_terms.specs.declared.matching.Rule.{Rule as ARule}
use Rattle.rbac_use.specs.Adding.{line_at}
use Rattle.rbac_use.specs.Permissions.{IsPermissionAt, permission_at}
use Rattle.rbac_use.specs.Rest.{HasUsedPermission, IsAllowedByRest}
use Rattle.rbac_use.specs.Unused.{AreUnused, IsUnusedPart, line_places}
use Rattle.rbac_use.specs.Used.{AllowsThrough, CountsFor, IsAllowedAt, IsGrantOf, IsUsed, IsUsedAt}
use Rattle.rbac_use.specs.declared.permission.TargetPlaces.{TargetPlaces}
use Rattle.rbac_use.specs.declared.unused.Part.{Part}
use Rattle.rbac_use.specs.declared.unused.Part.TheVariants.{Whole, Subject, Rule, Permission}
use Rattle.rbac_use.specs.declared.unused.Unused.{Unused}
use Rattle.rbac_use.proofs.Allowing.{allowing_permission}
use Rattle.rbac_use.proofs.AskedOf.{read_contains}
use Rattle.rbac_use.proofs.Words.{permission_within}

module _ (p : PolicyView) (log : List RequestView) (skip_system : Bool) (xs : List Unused) (are : AreUnused p log skip_system xs) (r : RequestView) (logged : Contains log r) where
  -- a part that isn't unused has no line
  no_line : (place : ℕ) (part : Part) → (IsUnusedPart p log place part → ⊥) → Contains xs (line_at place part) → ⊥
  no_line place part not c = not ((are.exact (line_at place part)).0 c).1

  module _ (place n : ℕ) (g : GrantView) (of : IsGrantOf p place n g) (counts : CountsFor g.binding r) where
    keeps_subject : IsAllowedAt p place r → (j : ℕ) (s : ASubject) → slice_get g.binding.subjects j ≡ Some s → Names s g.binding.namespace r.who → IsUnusedPart p log place (Subject j) → ⊥
    keeps_subject allowed j s there names h =
        let same : g.binding ≡ h.0 = same_Some g.binding h.0 (sym of.binding ∙ h.2) in
        let here : slice_get h.0.subjects j ≡ Some s = subst (λ (b : Binding). slice_get b.subjects j ≡ Some s) same there in
        let mine : s ≡ h.1 = same_Some s h.1 (sym here ∙ h.3) in
        let named : Names h.1 h.0.namespace r.who = subst (λ (t : ASubject). Names t h.0.namespace r.who) mine (subst (λ (b : Binding). Names s b.namespace r.who) same names) in
        h.6 (any_from (λ (q : RequestView). Names h.1 h.0.namespace q.who × IsAllowedAt p place q) log r logged (named, allowed))

    used_by_it : (rule : ARule) → RuleAllows rule r.verb r.target → IsUsed log g.binding rule
    used_by_it rule allows = any_from (AllowsThrough g.binding rule) log r logged (counts, allows)

    keeps_rule : RuleAllows g.rule.rule r.verb r.target → IsUnusedPart p log place (Rule n) → ⊥
    keeps_rule allows h =
        let same : g ≡ h.0 = same_Some g h.0 (sym of.grant ∙ h.1.grant) in
        h.4 (subst (λ (v : GrantView). IsUsed log v.binding v.rule.rule) same (used_by_it g.rule.rule allows))

    keeps_permission : (verb : ℕ) (target : TargetPlaces) (q : ARule) → IsPermissionAt g.rule.rule verb target q → RuleAllows q r.verb r.target → IsUnusedPart p log place (Permission n verb target) → ⊥
    keeps_permission verb target q is allows h =
        let same : g ≡ h.0 = same_Some g h.0 (sym of.grant ∙ h.2.grant) in
        let there : permission_at h.0.rule.rule verb target ≡ Some q = subst (λ (v : GrantView). permission_at v.rule.rule verb target ≡ Some q) same is.1 in
        let mine : q ≡ h.1 = same_Some q h.1 (sym there ∙ h.3.1) in
        let used : IsUsed log h.0.binding q = subst (λ (v : GrantView). IsUsed log v.binding q) same (used_by_it q allows) in
        h.6 (subst (λ (t : ARule). IsUsed log h.0.binding t) mine used)

    rest_allows : RuleAllows g.rule.rule r.verb r.target → IsAllowedByRest p xs r
    rest_allows allows =
        let allowed : IsAllowedAt p place r = (n, g, of, (counts, allows)) in
        let used : IsUsedAt p log place = any_from (IsAllowedAt p place) log r logged allowed in
        let named = counts.1 in
        let there : slice_get g.binding.subjects named.0 ≡ Some named.1 = read_contains g.binding.subjects named.1 (named.0, named.2, named.3) in
        let q = allowing_permission g.rule.rule r.verb r.target allows in record {
          place = place;
          number = n;
          grant = g;
          of_binding = of;
          counts = counts.0;
          keeps_binding = no_line place Whole (λ h. h.1 used);
          subject_place = named.0;
          subject = named.1;
          subject_there = there;
          names = named.4;
          keeps_subject = no_line place (Subject named.0) (keeps_subject allowed named.0 named.1 there named.4);
          keeps_rule = no_line place (Rule n) (keeps_rule allows);
          verb = q.verb;
          target = q.target;
          permission = q.permission;
          of_rule = q.is;
          allows = q.allows;
          keeps_permission = no_line place (Permission n q.verb q.target) (keeps_permission q.verb q.target q.permission q.is q.allows);
        }

-- what the log uses isn't taken away with what it doesn't use
pub isnt_needed : (p : PolicyView) (log : List RequestView) (skip_system : Bool) (xs : List Unused) (r : RequestView) → IsPolicy p → AreUnused p log skip_system xs → Contains log r → AllowsRequest p r → IsAllowedByRest p xs r
isnt_needed p log skip_system xs r ok are logged allowed =
    let w = some_grant p.held p.grants r.who r.namespace r.verb r.target ok.0 ok.1 allowed in
    let g = w.1 in
    let here : slice_get p.grants w.0 ≡ Some g = read_contains p.grants g (w.0, w.2, w.3) in
    let at = of_some_binding p ok w.0 (slice_get_within p.grants w.0 g here) in
    let of : IsGrantOf p at.0 w.0 g = record {
      grant = here;
      binding = at.1.2 ∙ ap (λ (v : GrantView). Some v.binding) (same_Some at.1.0 g (sym at.1.1 ∙ here));
    } in
    rest_allows p log skip_system xs are r logged at.0 w.0 g of (w.4.0, w.4.1) w.4.2

-- ---- the requests alone decide

any_same : (P : RequestView → Type 0) (log other : List RequestView) → ((r : RequestView) → Contains log r → Contains other r) → Any P log → Any P other
any_same P log other same w = any_from P other w.1 (same w.1 (w.0, w.2, w.3)) w.4

module _ (p : PolicyView) (log other : List RequestView) (forth : (r : RequestView) → Contains log r → Contains other r) (back : (r : RequestView) → Contains other r → Contains log r) (place : ℕ) where
  same_part : (part : Part) → IsUnusedPart p log place part → IsUnusedPart p other place part
  same_part Whole h = (h.0, λ w. h.1 (any_same (IsAllowedAt p place) other log back w))
  same_part (Subject j) h = (
    h.0,
    h.1,
    h.2,
    h.3,
    h.4,
    any_same (IsAllowedAt p place) log other forth h.5,
    λ w. h.6 (any_same (λ (q : RequestView). Names h.1 h.0.namespace q.who × IsAllowedAt p place q) other log back w),
  )
  same_part (Rule n) h = (
    h.0,
    h.1,
    h.2,
    any_same (IsAllowedAt p place) log other forth h.3,
    λ w. h.4 (any_same (AllowsThrough h.0.binding h.0.rule.rule) other log back w),
  )
  same_part (Permission n verb target) h = (
    h.0,
    h.1,
    h.2,
    h.3,
    h.4,
    any_same (AllowsThrough h.0.binding h.0.rule.rule) log other forth h.5,
    λ w. h.6 (any_same (AllowsThrough h.0.binding h.1) other log back w),
  )

abbrev line_name : Unused → List Text
line_name x = line_places x ∷ []

ascending : (p : PolicyView) (log : List RequestView) (skip_system : Bool) (xs : List Unused) → AreUnused p log skip_system xs → IsAscendingBy line_name xs
ascending p log skip_system xs are i j d low within = rw (are.ordered i j d low within) refl

pub one_list_of_lines : (p : PolicyView) (log other : List RequestView) (skip_system : Bool) (xs others : List Unused) → ((r : RequestView) → Contains log r ↔ Contains other r) → AreUnused p log skip_system xs → AreUnused p other skip_system others → xs ≡ others
one_list_of_lines p log other skip_system xs others same a b =
    let forth : (r : RequestView) → Contains log r → Contains other r = λ r. (same r).0 in
    let back : (r : RequestView) → Contains other r → Contains log r = λ r. (same r).1 in
    one_list line_name xs others (ascending p log skip_system xs a) (ascending p other skip_system others b)
    (λ x w. (let h = (a.exact x).0 w in (b.exact x).1 (h.0, same_part p log other forth back x.binding x.part h.1)))
    (λ x w. (let h = (b.exact x).0 w in (a.exact x).1 (h.0, same_part p other log back forth x.binding x.part h.1)))

-- ---- a rule is used by its permissions

used_permission : (log : List RequestView) (b : Binding) (rule : ARule) → IsUsed log b rule → HasUsedPermission log b rule
used_permission log b rule w =
    let q = allowing_permission rule w.1.verb w.1.target w.4.1 in
    let used : IsUsed log b q.permission = (w.0, w.1, w.2, w.3, (w.4.0, q.allows)) in
    (q.verb, q.target, q.permission, q.is, used)

permission_used : (log : List RequestView) (b : Binding) (rule : ARule) → HasUsedPermission log b rule → IsUsed log b rule
permission_used log b rule (verb, target, permission, is, used) =
    any_weaker (AllowsThrough b permission) (AllowsThrough b rule) log (λ r a. (a.0, permission_within rule permission verb r.verb target r.target is.1 a.1)) used

pub by_permissions : (log : List RequestView) (b : Binding) (rule : ARule) → IsUsed log b rule ↔ HasUsedPermission log b rule
by_permissions log b rule = (used_permission log b rule, permission_used log b rule)
