-- what covers a permission allows each request that it stands for
use Rattle.std.proofs.Common.{◌≡◌, List, Contains, Any, inl, inr, sym, refl, subst}
use Rattle.std.specs.Prelude.{Option, Some, None}
use Rattle.rbac_terms.specs.Granting.{subject_principal}
use Rattle.rbac_terms.specs.Text.{Text}
use Rattle.rbac_terms.specs.Targets.{What, Resource, Url, IsProper}
use Rattle.rbac_terms.specs.Matching.{WordMatches, ResourceWordMatches, UrlWordMatches, NameMatches, TargetOk}
use Rattle.rbac_terms.specs.declared.matching.Rule.{Rule}
use Rattle.rbac_terms.specs.declared.granting.Subject.{Subject}
use Rattle.rbac_model.specs.OwnWords.{GivesPath}
use Rattle.rbac_model.specs.Policies.{PolicyView, IsPolicy, GrantView, GrantAllows, Live}
use Rattle.rbac_covering.specs.Covering.{CoversAll}
use Rattle.rbac_model.proofs.GrantNumbers.{grant_allows}
use Rattle.rbac_model.proofs.OwnWords.{WordMatches-through, ResourceWordMatches-through, ResourceText-word, any_from, any_weaker}
use Rattle.rbac_model.proofs.UrlSamples.{Through, sample-through}
use Rattle.rbac_diff.specs.Unchanged.{AreAmong}
use Rattle.rbac_diff.specs.Permissions.{Permitted, OnResource, OnUrl, PermissionView, HasPermission, Permits}
use Rattle.rbac_diff.specs.Requests.{RequestView, IsRequest, AllowsRequest, StandsFor, IsPermitted, IsNameOrAny, IsGained}
use Rattle.rbac_diff.specs.Covering.{CoversPermission, CoversTarget, CoversName, IsAsWide, IsAskedFor}
use Rattle.rbac_diff.proofs.CoveredWords.{covers_itself, words_covered}
use Rattle.rbac_diff.proofs.Whom.{names_all, named_by_own}

-- ---- where, and by each word

as_live : (own : Option Text) (t : Permitted) (namespace : Text) (what : What) → IsAsWide own t → IsPermitted t namespace what → Live own namespace what
as_live own (OnResource asked group resource name) namespace (Resource g text n) (inl e) is = subst (λ (o : Option Text). Live o namespace (Resource g text n)) (sym e) tt
as_live own (OnResource asked group resource name) namespace (Resource g text n) (inr e) is = subst (λ (o : Option Text). Live o namespace (Resource g text n)) (sym e) is.0
as_live own (OnUrl url) namespace (Url path) e is = subst (λ (o : Option Text). Live o namespace (Url path)) (sym e) tt
as_live own (OnResource asked group resource name) namespace (Url path) wide is = absurd is
as_live own (OnUrl url) namespace (Resource g text n) wide is = absurd is

name_through : (names : List Text) (name : Option Text) (n : Text) → CoversName names name → IsNameOrAny name n → NameMatches names n
name_through names None n e is = inl e
name_through names (Some own) n h e = subst (NameMatches names) e h

target_through : (r : Rule) (t : Permitted) (namespace : Text) (what : What) → IsProper what → CoversTarget r t → IsPermitted t namespace what → TargetOk r what
target_through r (OnResource own group resource name) namespace (Resource g text n) proper h is = (
  any_weaker (λ w. WordMatches w group) (λ w. WordMatches w g) r.groups (λ w m. WordMatches-through w group g m is.1) h.0,
  any_weaker (λ w. ResourceWordMatches w resource) (λ w. ResourceWordMatches w text) r.resources (λ w m. ResourceWordMatches-through w resource text m is.2) h.1,
  name_through r.resource_names name n h.2 is.3,
)
target_through r (OnUrl url) namespace (Url path) proper h is =
    let t : Through url path = sample-through url path proper is in
    any_weaker (λ w. UrlWordMatches w t.sample) (λ w. UrlWordMatches w path) r.urls t.through (h t.sample t.is)
target_through r (OnResource own group resource name) namespace (Url path) proper h is = absurd is
target_through r (OnUrl url) namespace (Resource g text n) proper h is = absurd is

pub covered_allows : (before : PolicyView) → IsPolicy before → (p : PermissionView) (g : GrantView) → Contains before.grants g → CoversPermission p g → (r : RequestView) → IsRequest r → StandsFor p r → AllowsRequest before r
covered_allows before is p g c covers r request stands =
    let allows : GrantAllows r.who r.namespace r.verb r.target g = (
      as_live g.binding.namespace p.target r.namespace r.target covers.wide stands.target,
      names_all g.binding p.principal r.who request.0 stands.principal covers.names,
      (
        any_weaker (λ w. WordMatches w p.verb) (λ w. WordMatches w r.verb) g.rule.rule.verbs (λ w m. WordMatches-through w p.verb r.verb m stands.verb) covers.words.0,
        target_through g.rule.rule p.target r.namespace r.target request.1 covers.words.1 stands.target,
      ),
    ) in
    grant_allows before is r.who r.namespace r.verb r.target (any_from (GrantAllows r.who r.namespace r.verb r.target) before.grants g c allows)

-- ---- what is permitted is asked for

asked_for : (t : Permitted) (namespace : Text) (what : What) → IsProper what → IsPermitted t namespace what → IsAskedFor t
unfolding GivesPath
asked_for (OnResource own group resource name) namespace (Resource g text n) proper is = (
  (λ e. let live = subst (λ (o : Option Text). Live o namespace (Resource g text n)) e is.0 in live.0 (sym live.1)),
  ResourceText-word resource text proper is.2,
)
asked_for (OnUrl url) namespace (Url path) proper is = let t : Through url path = sample-through url path proper is in (t.sample, t.is, t.path)
asked_for (OnResource own group resource name) namespace (Url path) proper is = absurd is
asked_for (OnUrl url) namespace (Resource g text n) proper is = absurd is

pub stands_is_asked : (p : PermissionView) (r : RequestView) → IsRequest r → StandsFor p r → IsAskedFor p.target
stands_is_asked p r request stands = asked_for p.target r.namespace r.target request.1 stands.target

pub gained_is_asked : (before after : PolicyView) → (p : PermissionView) (g : GrantView) → HasPermission p g → IsGained before after p → IsAskedFor p.target
gained_is_asked before after p g has gained = stands_is_asked p gained.0 gained.2.request gained.1

-- ---- a grant covers what one covers whose rule its own rule covers

wide_of_rule : (own : Option Text) (r : Rule) (t : Permitted) → Permits own r t → IsAsWide own t
wide_of_rule own r (OnResource namespace group resource name) h = inr (sym h.0)
wide_of_rule own r (OnUrl url) h = h.0

-- what one of some subjects is, one of more subjects is
any_among : (P : Subject → Type 0) (xs ys : List Subject) → AreAmong xs ys → Any P xs → Any P ys
any_among P xs ys among w = let c = among w.1 (w.0, w.2, w.3) in (c.0, w.1, c.1, c.2, w.4)

pub no_more_covers : (p : PermissionView) (g h : GrantView) → HasPermission p g → IsAskedFor p.target → h.binding.namespace ≡ g.binding.namespace → AreAmong g.binding.subjects h.binding.subjects → CoversAll h.rule.rule g.rule.rule → CoversPermission p h
no_more_covers p g h has is here subjects rule =
    let named : Any (λ s. subject_principal h.binding.namespace s ≡ Some p.principal) h.binding.subjects =
    subst (λ (own : Option Text). Any (λ s. subject_principal own s ≡ Some p.principal) h.binding.subjects) (sym here) (any_among (λ s. subject_principal g.binding.namespace s ≡ Some p.principal) g.binding.subjects h.binding.subjects subjects has.principal) in
    record {
      wide = subst (λ (own : Option Text). IsAsWide own p.target) (sym here) (wide_of_rule g.binding.namespace g.rule.rule p.target has.target);
      names = named_by_own h.binding.namespace h.binding.subjects p.principal named;
      words = words_covered g.binding.namespace h.rule.rule g.rule.rule p rule has.verb has.target is;
    }

pub permission_allows : (after : PolicyView) → IsPolicy after → (p : PermissionView) (g : GrantView) → Contains after.grants g → HasPermission p g → (r : RequestView) → IsRequest r → StandsFor p r → AllowsRequest after r
permission_allows after is p g c has r request stands =
    covered_allows after is p g c (no_more_covers p g g has (stands_is_asked p r request stands) refl (λ s is. is) (covers_itself g.rule.rule)) r request stands
