-- a permission is gained just if some request is for it, and the policy before doesn't cover it; and what is allowed, some permission stands for
use Rattle.std.proofs.Common.{◌≡◌, ◌↔◌, List, Contains, inl, inr, refl}
use Rattle.std.specs.Prelude.{Option, Some, None}
use Rattle.rbac_terms.specs.Text.{Text}
use Rattle.rbac_terms.specs.Targets.{What, Resource, Url}
use Rattle.rbac_terms.specs.Principals.{Who, AsUser, AsMember}
use Rattle.rbac_terms.specs.Granting.{Names, subject_principal}
use Rattle.rbac_terms.specs.Matching.{NameMatches, TargetOk}
use Rattle.rbac_terms.specs.declared.matching.Rule.{Rule}
use Rattle.rbac_terms.specs.declared.granting.Subject.{Subject}
use Rattle.rbac_model.specs.Policies.{PolicyView, IsPolicy, GrantView, GrantAllows, Live}
use Rattle.rbac_model.proofs.GrantNumbers.{some_grant}
use Rattle.rbac_model.proofs.OwnWords.{WordMatches-own}
use Rattle.rbac_diff.specs.Permissions.{Permitted, OnResource, OnUrl, PermissionView, HasPermission, IsNameOf, Permits, one_star}
use Rattle.rbac_diff.specs.Requests.{RequestView, IsRequest, IsUser, IsFor, AllowsRequest, StandsFor, IsPermitted, IsNameOrAny, IsGained}
use Rattle.rbac_diff.specs.Covering.{CoversPermission, IsCovered, IsAskedFor}
use Rattle.rbac_diff.proofs.OneStar.{one_star-matches}
use Rattle.rbac_diff.proofs.Whom.{IsOwn, own_principal, principal_named}
use Rattle.rbac_diff.proofs.Strangers.{Asker, asker, Asked, asked}
use Rattle.rbac_diff.proofs.Covered.{covered_allows, gained_is_asked, permission_allows}

module _ (before after : PolicyView) (is_before : IsPolicy before) (is_after : IsPolicy after) (p : PermissionView) (g : GrantView) where
  -- the request that decides
  decided_by : Asker before.grants p.principal → Asked before.grants p.target → Contains after.grants g → HasPermission p g → (IsCovered before p → ⊥) → IsGained before after p
  decided_by who what c has none =
      let r : RequestView = record { who = who.who; namespace = what.namespace; verb = p.verb; target = what.target } in
      let request : IsRequest r = (who.user, what.proper) in
      let stands : StandsFor p r = record { principal = who.is_for; verb = WordMatches-own p.verb; target = what.permitted } in
      let covering : (h : GrantView) → Contains before.grants h → GrantAllows r.who r.namespace r.verb r.target h → CoversPermission p h = λ h d a. (record {
        wide = what.wide h.binding.namespace a.0;
        names = who.named h d a.1;
        words = (a.2.0, what.covers h d a.2.1);
      }) in (
        r,
        stands,
        record {
          request = request;
          allowed = permission_allows after is_after p g c has r request stands;
          refused = λ w.
              let a = some_grant before.held before.grants r.who r.namespace r.verb r.target is_before.0 is_before.1 w in
              none (a.0, a.1, a.2, a.3, covering a.1 (a.0, a.2, a.3) a.4);
        },
      )

pub gained_unless_covered : (before after : PolicyView) → IsPolicy before → IsPolicy after → (p : PermissionView) (g : GrantView) → Contains after.grants g → HasPermission p g → IsAskedFor p.target → (IsCovered before p → ⊥) → IsGained before after p
gained_unless_covered before after is_before is_after p g c has is none =
    let s = has.principal in
    let own : IsOwn p.principal = own_principal g.binding.namespace s.1 p.principal s.4 in
    decided_by before after is_before is_after p g (asker before.grants p.principal own) (asked before.grants p.target is) c has none

pub gained_exactly : (before after : PolicyView) → IsPolicy before → IsPolicy after → (p : PermissionView) (g : GrantView) → Contains after.grants g → HasPermission p g → IsGained before after p ↔ (IsAskedFor p.target × (IsCovered before p → ⊥))
gained_exactly before after is_before is_after p g c has = (
  λ gained. (
    gained_is_asked before after p g has gained,
    λ covered. gained.2.refused (covered_allows before is_before p covered.1 (covered.0, covered.2, covered.3) covered.4 gained.0 gained.2.request gained.1),
  ),
  λ h. gained_unless_covered before after is_before is_after p g c has h.0 h.1,
)

-- ---- what is allowed, some permission stands for

name_for : (names : List Text) (n : Text) → NameMatches names n → (name : Option Text) × IsNameOf names name × IsNameOrAny name n
name_for names n (inl e) = (None, e, tt)
name_for names n (inr c) = (Some n, c, refl)

permitted_for : (own : Option Text) (r : Rule) (namespace : Text) (what : What) → Live own namespace what → TargetOk r what → (t : Permitted) × Permits own r t × IsPermitted t namespace what
permitted_for own r namespace (Resource g text n) live h =
    let name = name_for r.resource_names n h.2 in (
      OnResource own h.0.1 h.1.1 name.0,
      (refl, (h.0.0, h.0.2, h.0.3), (h.1.0, h.1.2, h.1.3), name.1),
      (live, h.0.4, h.1.4, name.2),
    )
permitted_for None r namespace (Url path) live h = (OnUrl (one_star h.1), (refl, (h.0, h.1, h.2, h.3, refl)), one_star-matches h.1 path h.4)
permitted_for (Some m) r namespace (Url path) live h = absurd live

principal_for : (own : Option Text) (s : Subject) (who : Who) → IsUser who → Names s own who → (principal : Who) × (subject_principal own s ≡ Some principal) × IsFor principal who
principal_for own s (AsUser user given) is h = principal_named own s user given is h
principal_for own s (AsMember group) is h = absurd is

pub permission_of_request : (after : PolicyView) → IsPolicy after → (r : RequestView) → IsRequest r → AllowsRequest after r → (p : PermissionView) × (g : GrantView) × Contains after.grants g × HasPermission p g × StandsFor p r
permission_of_request after is r request allows =
    let a = some_grant after.held after.grants r.who r.namespace r.verb r.target is.0 is.1 allows in
    let g = a.1 in
    let s = a.4.1 in
    let verb = a.4.2.0 in
    let principal = principal_for g.binding.namespace s.1 r.who request.0 s.4 in
    let target = permitted_for g.binding.namespace g.rule.rule r.namespace r.target a.4.0 a.4.2.1 in
    let p : PermissionView = record { principal = principal.0; verb = verb.1; target = target.0 } in (
      p,
      g,
      (a.0, a.2, a.3),
      record { principal = (s.0, s.1, s.2, s.3, principal.1); verb = (verb.0, verb.2, verb.3); target = target.1 },
      record { principal = principal.2; verb = verb.4; target = target.2 },
    )
