-- What a rule allows, one of its permissions allows.
use Rattle.std.proofs.Common.{◌≡◌, ℕ, List, [], ◌∷◌, Option, Some, None, Any, inl, inr, refl, ap, arith}
use Rattle.rbac_terms.specs.Text.{Text}
use Rattle.rbac_terms.specs.Targets.{What, Resource, Url}
use Rattle.rbac_terms.specs.Matching.{NameMatches, ResourceWordMatches, RuleAllows, UrlWordMatches, WordMatches}
use Rattle.rbac_terms.specs.declared.matching.Rule.{Rule}
use Rattle.rbac_model.specs.Lists.{IsFirstAt}
use Rattle.rbac_use.specs.Permissions.{IsFirstName, IsPermissionAt, names_at, no_names, resource_permission, url_permission}
use Rattle.rbac_use.specs.declared.permission.TargetPlaces.{TargetPlaces}
use Rattle.rbac_use.specs.declared.permission.TargetPlaces.TheVariants.{Resource as AtResource, Url as AtUrl}
use Rattle.rbac_use.proofs.FirstPlaces.{first_with}

-- a word with the property, and its first place
record WordWith (P : Text → Type 0) (xs : List Text) : Type 0 where
  word : Text
  holds : P word
  place : ℕ
  first : IsFirstAt (λ x. x ≡ word) xs place word

word_with : (P : Text → Type 0) (xs : List Text) → Any P xs → WordWith P xs
word_with P xs w = let f = first_with xs w.1 (w.0, w.2, w.3) in record { word = w.1; holds = w.4; place = f.0; first = f.1 }

one_any : {X : Type 0} (P : X → Type 0) (x : X) → P x → Any P (x ∷ [])
one_any P x h = (0, x, omega arith, refl, h)

-- the place of an object name, and the name alone
record NamesWith (names : List Text) (x : Text) : Type 0 where
  place : Option ℕ
  alone : List Text
  are : names_at names place ≡ Some alone
  first : IsFirstName names place
  matches : NameMatches alone x

names_with : (names : List Text) (x : Text) → NameMatches names x → NamesWith names x
names_with names x (inl e) = record {
  place = None;
  alone = [];
  are = ap no_names e;
  first = tt;
  matches = inl refl;
}
names_with names x (inr c) = let f = first_with names x c in record {
  place = Some f.0;
  alone = x ∷ [];
  are = rw f.1.here refl;
  first = (x, f.1);
  matches = inr (0, omega arith, refl);
}

-- a permission of the rule that allows what is asked for
pub record AllowingPermission (r : Rule) (v : Text) (t : What) : Type 0 where
  pub verb : ℕ
  pub target : TargetPlaces
  pub permission : Rule
  pub is : IsPermissionAt r verb target permission
  pub allows : RuleAllows permission v t

pub allowing_permission : (r : Rule) (v : Text) (t : What) → RuleAllows r v t → AllowingPermission r v t
allowing_permission r v (Url path) h =
    let verb = word_with (λ (x : Text). WordMatches x v) r.verbs h.0 in
    let url = word_with (λ (x : Text). UrlWordMatches x path) r.urls h.1 in record {
      verb = verb.place;
      target = AtUrl url.place;
      permission = url_permission verb.word url.word;
      is = (((verb.word, verb.first), (url.word, url.first)), rw (verb.first.here, url.first.here) refl);
      allows = (one_any (λ (x : Text). WordMatches x v) verb.word verb.holds, one_any (λ (x : Text). UrlWordMatches x path) url.word url.holds);
    }
allowing_permission r v (Resource group text name) h =
    let verb = word_with (λ (x : Text). WordMatches x v) r.verbs h.0 in
    let groups = word_with (λ (x : Text). WordMatches x group) r.groups h.1.0 in
    let resource = word_with (λ (x : Text). ResourceWordMatches x text) r.resources h.1.1 in
    let names = names_with r.resource_names name h.1.2 in record {
      verb = verb.place;
      target = AtResource groups.place resource.place names.place;
      permission = resource_permission verb.word groups.word resource.word names.alone;
      is = (
        ((verb.word, verb.first), ((groups.word, groups.first), (resource.word, resource.first), names.first)),
        rw (verb.first.here, groups.first.here, resource.first.here, names.are) refl,
      );
      allows = (
        one_any (λ (x : Text). WordMatches x v) verb.word verb.holds,
        (
          one_any (λ (x : Text). WordMatches x group) groups.word groups.holds,
          one_any (λ (x : Text). ResourceWordMatches x text) resource.word resource.holds,
          names.matches,
        ),
      );
    }
