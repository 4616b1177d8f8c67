-- When some request can match a rule through a binding.
use Rattle.std.proofs.Common.{true, false, Bor, IsSome, ◌≡◌, ◌≢◌, ◌⊎◌, List, [], ◌∷◌, Option, Some, None, Any, Contains, length, inl, inr, refl, sym, ap, subst, arith}
use Rattle.std.specs.Option.{is_some, option_copied}
use Rattle.rbac_terms.specs.Text.{Text}
use Rattle.rbac_terms.specs.Targets.{What, Resource, Url, IsProper, IsResourceText}
use Rattle.rbac_terms.specs.Principals.{Who, AsUser, AsMember, account_user}
use Rattle.rbac_terms.specs.Matching.{NameMatches, ResourceWordMatches, TargetOk, UrlWordMatches, WordMatches}
use Rattle.rbac_terms.specs.declared.granting.Binding.{Binding}
use Rattle.rbac_terms.specs.declared.granting.Subject.{Subject}
use Rattle.rbac_terms.specs.declared.granting.Subject.TheVariants.{User, Group, Account}
use Rattle.rbac_terms.specs.declared.matching.Rule.{Rule}
use Rattle.rbac_model.specs.OwnWords.{GivesPath}
use Rattle.rbac_model.specs.Policies.{BindingNames, Live}
use Rattle.rbac_model.proofs.OwnWords.{ResourceText-word, UrlWordMatches-own, any_from, any_weaker}
use Rattle.rbac_model.proofs.UrlSamples.{Through, sample-through}
use Rattle.rbac_diff.specs.Requests.{RequestView}
use Rattle.rbac_use.specs.Usable.{HasResource, HasSomebody, HasTarget, HasUrl}
use Rattle.rbac_use.specs.Used.{CanBeUsed, NamesSomebody}

some_element : {X : Type 0} (xs : List X) → xs ≢ [] → (x : X) × Contains xs x
some_element [] not = absurd (not refl)
some_element (x ∷ xs) not = (x, (0, omega arith, refl))

pub any_there : {X : Type 0} (P : X → Type 0) (xs : List X) → Any P xs → xs ≢ []
any_there P xs w e = omega (arith, w.2, ap length e)

some_name : (names : List Text) → (n : Text) × NameMatches names n
some_name [] = ([], inl refl)
some_name (n ∷ names) = (n, inr (0, omega arith, refl))

-- the target is one that a binding in that namespace, or in none, counts for somewhere
abbrev CountsSomewhere : Option Text → Rule → Type 0
CountsSomewhere own r = (asked : Text) × (t : What) × IsProper t × Live own asked t × TargetOk r t

resource_live : (own : Option Text) → own ≢ Some [] → (asked : Text) × ((group text name : Text) → Live own asked (Resource group text name))
resource_live None not = ([], λ group text name. tt)
resource_live (Some namespace) not = (namespace, λ group text name. ((λ e. not (ap (λ (n : Text). Some n) e)), refl))

resource_counts : (own : Option Text) (r : Rule) → own ≢ Some [] → HasResource r → CountsSomewhere own r
resource_counts own r not has =
    let live = resource_live own not in
    let group = some_element r.groups has.0 in
    let text = has.1.1 in
    let within : Contains r.resources text = (has.1.0, has.1.2, has.1.3) in
    let name = some_name r.resource_names in (
      live.0,
      Resource group.0 text name.0,
      has.1.4,
      live.1 group.0 text name.0,
      (
        any_from (λ (w : Text). WordMatches w group.0) r.groups group.0 group.1 (inr refl),
        any_from (λ (w : Text). ResourceWordMatches w text) r.resources text within (inl (inr refl)),
        name.1,
      ),
    )

url_counts : (own : Option Text) (r : Rule) → own ≡ None → HasUrl r → CountsSomewhere own r
unfolding GivesPath
url_counts own r none has =
    let sample = has.4 in
    let w = has.1 in
    let within : Contains r.urls w = (has.0, has.2, has.3) in (
      [],
      Url sample.0,
      sample.2,
      subst (λ (o : Option Text). Live o [] (Url sample.0)) (sym none) tt,
      any_from (λ (u : Text). UrlWordMatches u sample.0) r.urls w within (UrlWordMatches-own w sample.0 sample.1),
    )

counts : (own : Option Text) (r : Rule) → HasTarget own r → CountsSomewhere own r
counts own r (inl h) = resource_counts own r h.0 h.1
counts own r (inr h) = url_counts own r h.0 h.1

pub usable : (b : Binding) (r : Rule) → r.verbs ≢ [] → HasSomebody b → HasTarget b.namespace r → CanBeUsed b r
usable b r verbs somebody target =
    let c = counts b.namespace r target in
    let verb = some_element r.verbs verbs in
    let who = somebody.4 in
    let names : BindingNames b who.0 = (somebody.0, somebody.1, somebody.2, somebody.3, who.1) in
    let q : RequestView = record { who = who.0; namespace = c.0; verb = verb.0; target = c.1 } in
    (q, c.2, ((c.3, names), (any_from (λ (w : Text). WordMatches w verb.0) r.verbs verb.0 verb.1 (inr refl), c.4)))

-- ---- and the other way round

not_nowhere : (own : Option Text) (asked group text name : Text) → Live own asked (Resource group text name) → own ≢ Some []
not_nowhere own asked group text name live e =
    let at = subst (λ (o : Option Text). Live o asked (Resource group text name)) e live in at.0 (sym at.1)

for_urls : (own : Option Text) (asked path : Text) → Live own asked (Url path) → own ≡ None
for_urls None asked path live = refl
for_urls (Some namespace) asked path live = absurd live

url_gives : (path : Text) → IsProper (Url path) → (w : Text) → UrlWordMatches w path → GivesPath w
unfolding GivesPath
url_gives path proper w m = let t : Through w path = sample-through w path proper m in (t.sample, t.is, t.path)

pub has_target : (own : Option Text) (r : Rule) (asked : Text) (t : What) → IsProper t → Live own asked t → TargetOk r t → HasTarget own r
has_target own r asked (Resource group text name) proper live ok = inl (
  not_nowhere own asked group text name live,
  (
    any_there (λ (w : Text). WordMatches w group) r.groups ok.0,
    any_weaker (λ (w : Text). ResourceWordMatches w text) IsResourceText r.resources (λ w m. ResourceText-word w text proper m) ok.1,
  ),
)
has_target own r asked (Url path) proper live ok = inr (
  for_urls own asked path live,
  any_weaker (λ (w : Text). UrlWordMatches w path) GivesPath r.urls (λ w m. url_gives path proper w m) ok,
)

pub somebody_named : (b : Binding) (who : Who) → BindingNames b who → HasSomebody b
somebody_named b who w = (w.0, w.1, w.2, w.3, (who, w.4))

-- ---- whom a subject names

pub account_some : (own namespace : Option Text) (name : Text) → IsSome own ⊎ IsSome namespace → NamesSomebody namespace (Account own name)
account_some (Some n) namespace name h = (AsUser (account_user n name) [], refl)
account_some None (Some n) name h = (AsUser (account_user n name) [], refl)
account_some None None name (inl h) = absurd (let both : false ≡ true = h in cc)
account_some None None name (inr h) = absurd (let both : false ≡ true = h in cc)

needs_namespace : (namespace : Option Text) (name : Text) → NamesSomebody namespace (Account None name) → is_some namespace ≡ true
needs_namespace None name w = absurd w.1
needs_namespace (Some n) name w = refl

pub account_needs : (own namespace : Option Text) (name : Text) → is_some own ≡ false → NamesSomebody namespace (Account own name) → is_some namespace ≡ true
account_needs None namespace name e w = needs_namespace namespace name w
account_needs (Some n) namespace name e w = absurd (let both : true ≡ false = e in cc)

pub some_copied : (o : Option (Bor Text)) → is_some (option_copied o) ≡ is_some o
some_copied None = refl
some_copied (Some w) = refl

pub others_somebody : (s : Subject) (namespace : Option Text) → ((own : Option Text) (name : Text) → s ≡ Account own name → ⊥) → NamesSomebody namespace s
others_somebody (User name) namespace not = (AsUser name [], refl)
others_somebody (Group name) namespace not = (AsMember name, refl)
others_somebody (Account own name) namespace not = absurd (not own name refl)
