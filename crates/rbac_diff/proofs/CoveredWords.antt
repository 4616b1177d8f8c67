-- what a rule permits, a rule that covers it covers, word for word
use Rattle.std.proofs.Common.{◌≢◌, ◌∷◌, [], List, Contains, arith, subst, sym}
use Rattle.std.specs.Prelude.{Option, None, Some}
use Rattle.std.proofs.lemmas.List.Elements.{All-contains}
use Rattle.rbac_model.specs.OwnWords.{GivesPath}
use Rattle.rbac_model.proofs.OwnWords.{any_from}
use Rattle.rbac_terms.specs.Targets.{IsResourceText}
use Rattle.rbac_terms.specs.Text.{Text}
use Rattle.rbac_terms.specs.declared.matching.Rule.{Rule}
use Rattle.rbac_covering.specs.Covering.{CoversAll, AllowsGroup, AllowsGroups, AllowsName, AllowsNames, AllowsResource, AllowsResources, AllowsUrl, AllowsUrls, AllowsVerb, AllowsVerbs, CoversResources, CoversUrls, HasResource, HasUrl}
use Rattle.rbac_covering.proofs.Samples.{resources_from_samples, samples_from_Covers, urls_from_samples}
use Rattle.rbac_diff.specs.Covering.{CoversName, CoversTarget, CoversWords, IsAskedFor}
use Rattle.rbac_diff.specs.Permissions.{IsNameOf, OnResource, OnUrl, PermissionView, Permits, Permitted}
use Rattle.rbac_diff.proofs.OneStar.{covers-one_star, gives-one_star}

not_empty : (words : List Text) (w : Text) → Contains words w → words ≢ []
not_empty [] w c e = omega (arith, c.1)
not_empty (x ∷ xs) w c e = cc

name_covered : (a b : Rule) (name : Option Text) → AllowsNames a b → IsNameOf b.resource_names name → CoversName a.resource_names name
unfolding AllowsNames AllowsName
name_covered a b None h e = h.0 e
name_covered a b (Some n) h c = All-contains (AllowsName a) b.resource_names n h.1 c

target_covered : (own : Option Text) (a b : Rule) (verb : Text) (t : Permitted) → CoversResources a b → CoversUrls a b → Contains b.verbs verb → Permits own b t → IsAskedFor t → CoversWords verb t a
unfolding AllowsVerbs AllowsVerb AllowsGroups AllowsGroup AllowsResources AllowsResource AllowsUrls AllowsUrl HasResource HasUrl
target_covered own a b verb (OnResource namespace group resource name) rs us v h asked =
    let all = rs (not_empty b.verbs verb v, not_empty b.groups group h.1, any_from IsResourceText b.resources resource h.2 asked.1) in (
      All-contains (AllowsVerb a) b.verbs verb all.1 v,
      (
        All-contains (AllowsGroup a) b.groups group all.2 h.1,
        All-contains (AllowsResource a) b.resources resource all.0 h.2 asked.1,
        name_covered a b name all.3 h.3,
      ),
    )
target_covered own a b verb (OnUrl url) rs us v h asked =
    let w = h.1.1 in
    let gives : GivesPath w = (gives-one_star w).1 (subst (λ (u : Text). IsAskedFor (OnUrl u)) (sym h.1.4) asked) in
    let has : Contains b.urls w = (h.1.0, h.1.2, h.1.3) in
    let all = us (not_empty b.verbs verb v, any_from GivesPath b.urls w has gives) in (
      All-contains (AllowsVerb a) b.verbs verb all.0 v,
      subst (λ (u : Text). CoversTarget a (OnUrl u)) h.1.4 ((covers-one_star a w).0 (All-contains (AllowsUrl a) b.urls w all.1 has gives)),
    )

pub words_covered : (own : Option Text) (a b : Rule) (p : PermissionView) → CoversAll a b → Contains b.verbs p.verb → Permits own b p.target → IsAskedFor p.target → CoversWords p.verb p.target a
unfolding CoversAll
words_covered own a b p covers verb target asked =
    let samples = samples_from_Covers a b covers in
    target_covered own a b p.verb p.target (resources_from_samples a b samples) (urls_from_samples a b samples) verb target asked

pub covers_itself : (r : Rule) → CoversAll r r
unfolding CoversAll
covers_itself r v t proper allows = allows
