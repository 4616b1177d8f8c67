-- covering, list by list, is covering
use Rattle.std.proofs.Common.{◌≢◌, ℕ, ◌<◌, List, [], ◌∷◌, ◌++◌, get_or, length, inl, inr, refl, subst, arith, All, Any, Bool, IsTrue, ◌↔◌}
use Rattle.std.specs.Prelude.{Contains}
use Rattle.std.proofs.lemmas.List.{length-append}
use Rattle.std.proofs.lemmas.List.Elements.{All-nil, All-cons, All-contains, All-weaker, Contains-get_or}
use Rattle.rbac_terms.specs.declared.matching.Rule.{Rule}
use Rattle.rbac_terms.specs.Text.{Text}
use Rattle.rbac_terms.specs.Targets.{What, Resource, Url, IsProper}
use Rattle.rbac_terms.specs.Matching.{WordMatches, ResourceWordMatches, UrlWordMatches, NameMatches, VerbOk, RuleAllows}
use Rattle.rbac_model.specs.Universes.{Covers}
use Rattle.rbac_terms.specs.Targets.{IsResourceText, IsPath}
use Rattle.rbac_covering.specs.Covering.{IsLongerThanAll, IsNameSample, IsSample, AllowsSamples, AllowsVerb, AllowsGroup, AllowsResource, AllowsName, AllowsUrl, AllowsVerbs, AllowsGroups, AllowsResources, AllowsNames, AllowsUrls, HasResource, HasUrl, CoversResources, CoversUrls}
use Rattle.rbac_model.specs.OwnWords.{IsUrlSample, AllowsUrlWord, GivesPath}
use Rattle.rbac_model.proofs.OwnWords.{ResourceText-word, ResourceWordMatches-own, ResourceWordMatches-through, UrlWordMatches-own, WordMatches-own, WordMatches-through, any_from, any_weaker}
use Rattle.rbac_model.proofs.UrlSamples.{IsUrlSample-one, Through, sample-through}

module _ {X : Type 0} where
  any_nonempty : (P : X → Type 0) (xs : List X) → Any P xs → xs ≢ []
  any_nonempty P [] a e = omega (arith, a.2)
  any_nonempty P (x ∷ xs) a e = cc

  some_of : (xs : List X) → xs ≢ [] → (x : X) × Contains xs x
  some_of [] ne = absurd (ne refl)
  some_of (x ∷ xs) ne = (x, (0, omega arith, refl))

  each : (P : X → Type 0) (xs : List X) → ((x : X) → Contains xs x → P x) → All P xs
  each P xs f k d l = f (get_or xs k d) (Contains-get_or xs k d l)

-- there is a name longer than all of some
long_name : List Text → Text
long_name [] = 0 ∷ []
long_name (m ∷ ms) = 0 ∷ (m ++ long_name ms)

long_name-longer : (names : List Text) → IsLongerThanAll (long_name names) names
unfolding long_name
long_name-longer [] = All-nil (λ m. length m < 1)
long_name-longer (m ∷ ms) =
    let same = length-append m (long_name ms) in
    let n : ℕ = length (0 ∷ (m ++ long_name ms)) in
    All-cons (λ t. length t < n) m ms (omega (arith, same))
    (All-weaker (λ t. length t < length (long_name ms)) (λ t. length t < n) (λ t h. omega (arith, same, h)) ms (long_name-longer ms))

some_name : (mine theirs : List Text) → (n : Text) × IsNameSample mine theirs n
some_name mine [] = (long_name mine, inr (refl, long_name-longer mine))
some_name mine (n ∷ ns) = (n, inl (0, omega arith, refl))

-- a sample is proper, and b allows it
sample_allowed : (a b : Rule) (v : Text) (t : What) → IsSample a b v t → IsProper t × RuleAllows b v t
sample_allowed a b v (Resource group text name) s = (
  s.4,
  (
    any_from (λ w. WordMatches w v) b.verbs v s.0 (WordMatches-own v),
    (
      any_from (λ w. WordMatches w group) b.groups group s.1 (WordMatches-own group),
      any_from (λ w. ResourceWordMatches w text) b.resources text s.2 (ResourceWordMatches-own text),
      elim s.3 [ inl c ↦ inr c | inr l ↦ inl l.0 ],
    ),
  ),
)
sample_allowed a b v (Url path) s = (
  s.2,
  (
    any_from (λ w. WordMatches w v) b.verbs v s.0 (WordMatches-own v),
    any_weaker (λ w. IsUrlSample w path) (λ w. UrlWordMatches w path) b.urls (λ w h. UrlWordMatches-own w path h) s.1,
  ),
)

pub samples_from_Covers : (a b : Rule) → Covers a b → AllowsSamples a b
samples_from_Covers a b h v t s = let p = sample_allowed a b v t s in h v t p.0 p.1

-- what allows the samples allows each list's words
name_words : (a b : Rule) → ((n : Text) → IsNameSample a.resource_names b.resource_names n → NameMatches a.resource_names n) → AllowsNames a b
unfolding AllowsNames AllowsName
name_words a b f = (
  λ e. let longer = long_name-longer a.resource_names in
      elim (f (long_name a.resource_names) (inr (e, longer))) [
        | inl none ↦ none
        | inr c ↦ absurd (omega (arith, All-contains (λ m. length m < length (long_name a.resource_names)) a.resource_names (long_name a.resource_names) longer c))
      ],
  each (AllowsName a) b.resource_names (λ n c. f n (inl c)),
)

pub resources_from_samples : (a b : Rule) → AllowsSamples a b → CoversResources a b
unfolding HasResource AllowsVerbs AllowsGroups AllowsResources AllowsVerb AllowsGroup AllowsResource
resources_from_samples a b f has =
    let v = some_of b.verbs has.0 in
    let g = some_of b.groups has.1 in
    let s = has.2.1 in
    let cs : Contains b.resources s = (has.2.0, has.2.2, has.2.3) in
    let n = some_name a.resource_names b.resource_names in (
      each (AllowsResource a) b.resources (λ w c p. (f v.0 (Resource g.0 w n.0) (v.1, g.1, c, n.1, p)).1.1),
      each (AllowsVerb a) b.verbs (λ w c. (f w (Resource g.0 s n.0) (c, g.1, cs, n.1, has.2.4)).0),
      each (AllowsGroup a) b.groups (λ w c. (f v.0 (Resource w s n.0) (v.1, c, cs, n.1, has.2.4)).1.0),
      name_words a b (λ m c. (f v.0 (Resource g.0 s m) (v.1, g.1, cs, c, has.2.4)).1.2),
    )

pub urls_from_samples : (a b : Rule) → AllowsSamples a b → CoversUrls a b
unfolding HasUrl GivesPath AllowsVerbs AllowsUrls AllowsVerb AllowsUrl AllowsUrlWord
urls_from_samples a b f has =
    let v = some_of b.verbs has.0 in
    let u = has.1 in (
      each (AllowsVerb a) b.verbs (λ w c. (f w (Url u.4.0) (c, (u.0, u.1, u.2, u.3, u.4.1), u.4.2)).0),
      each (AllowsUrl a) b.urls (λ w c g x s. (f v.0 (Url x) (v.1, any_from (λ y. IsUrlSample y x) b.urls w c s, subst IsPath (IsUrlSample-one w g.0 x g.1 s) g.2)).1),
    )

-- and covers
verbs_through : (a b : Rule) (v : Text) → AllowsVerbs a b → VerbOk b v → VerbOk a v
unfolding AllowsVerbs AllowsVerb
verbs_through a b v all m =
    any_weaker (λ u. WordMatches u m.1) (λ u. WordMatches u v) a.verbs (λ u h. WordMatches-through u m.1 v h m.4)
    (All-contains (AllowsVerb a) b.verbs m.1 all (m.0, m.2, m.3))

groups_through : (a b : Rule) (g : Text) → AllowsGroups a b → Any (λ w. WordMatches w g) b.groups → Any (λ w. WordMatches w g) a.groups
unfolding AllowsGroups AllowsGroup
groups_through a b g all m =
    any_weaker (λ u. WordMatches u m.1) (λ u. WordMatches u g) a.groups (λ u h. WordMatches-through u m.1 g h m.4)
    (All-contains (AllowsGroup a) b.groups m.1 all (m.0, m.2, m.3))

resources_through : (a b : Rule) (s : Text) → IsResourceText s → AllowsResources a b → Any (λ w. ResourceWordMatches w s) b.resources → Any (λ w. ResourceWordMatches w s) a.resources
unfolding AllowsResources AllowsResource
resources_through a b s p all m =
    any_weaker (λ u. ResourceWordMatches u m.1) (λ u. ResourceWordMatches u s) a.resources (λ u h. ResourceWordMatches-through u m.1 s h m.4)
    (All-contains (AllowsResource a) b.resources m.1 all (m.0, m.2, m.3) (ResourceText-word m.1 s p m.4))

names_through : (a b : Rule) (n : Text) → AllowsNames a b → NameMatches b.resource_names n → NameMatches a.resource_names n
unfolding AllowsNames AllowsName
names_through a b n h (inl e) = inl (h.0 e)
names_through a b n h (inr c) = All-contains (AllowsName a) b.resource_names n h.1 c

has_resource : (b : Rule) (v g s n : Text) → IsResourceText s → RuleAllows b v (Resource g s n) → HasResource b
unfolding HasResource
has_resource b v g s n p h = (
  any_nonempty (λ w. WordMatches w v) b.verbs h.0,
  any_nonempty (λ w. WordMatches w g) b.groups h.1.0,
  any_weaker (λ w. ResourceWordMatches w s) IsResourceText b.resources (λ w m. ResourceText-word w s p m) h.1.1,
)

has_url : (b : Rule) (v x : Text) → IsPath x → RuleAllows b v (Url x) → HasUrl b
unfolding HasUrl GivesPath
has_url b v x p h = (
  any_nonempty (λ w. WordMatches w v) b.verbs h.0,
  any_weaker (λ w. UrlWordMatches w x) GivesPath b.urls (λ w m. let t : Through w x = sample-through w x p m in (t.sample, t.is, t.path)) h.1,
)

urls_through : (a b : Rule) (x : Text) → IsPath x → AllowsUrls a b → Any (λ w. UrlWordMatches w x) b.urls → Any (λ w. UrlWordMatches w x) a.urls
unfolding AllowsUrls AllowsUrl AllowsUrlWord GivesPath
urls_through a b x p all m =
    let t : Through m.1 x = sample-through m.1 x p m.4 in
    any_weaker (λ u. UrlWordMatches u t.sample) (λ u. UrlWordMatches u x) a.urls t.through
    (All-contains (AllowsUrl a) b.urls m.1 all (m.0, m.2, m.3) (t.sample, t.is, t.path) t.sample t.is)

pub Covers-from : (a b : Rule) → CoversResources a b → CoversUrls a b → Covers a b
Covers-from a b rs us v (Resource g s n) p h =
    let d = rs (has_resource b v g s n p h) in
    (verbs_through a b v d.1 h.0, (groups_through a b g d.2 h.1.0, resources_through a b s p d.0 h.1.1, names_through a b n d.3 h.1.2))
Covers-from a b rs us v (Url x) p h =
    let d = us (has_url b v x p h) in
    (verbs_through a b v d.0 h.0, urls_through a b x p d.1 h.1)

pub covers_with : (a b : Rule) (r : Bool) → CoversResources a b → (IsTrue r ↔ CoversUrls a b) → (IsTrue r ↔ Covers a b) × (IsTrue r ↔ AllowsSamples a b)
covers_with a b r rs i = (
  (λ h. Covers-from a b rs (i.0 h), λ c. i.1 (urls_from_samples a b (samples_from_Covers a b c))),
  (λ h. samples_from_Covers a b (Covers-from a b rs (i.0 h)), λ s. i.1 (urls_from_samples a b s)),
)

pub covers_without : (a b : Rule) → (CoversResources a b → ⊥) → (Covers a b → ⊥) × (AllowsSamples a b → ⊥)
covers_without a b never = (λ c. never (resources_from_samples a b (samples_from_Covers a b c)), λ s. never (resources_from_samples a b s))
