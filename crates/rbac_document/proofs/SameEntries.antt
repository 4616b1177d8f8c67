-- lists with the same entries make the same universes
use Rattle.std.proofs.Common.{◌≡◌, ◌↔◌, List, [], All, Any, Contains, IsTrue, get_or, subst}
use Rattle.std.specs.Str.{IsUtf8}
use Rattle.std.specs.declared.cmp.Ordering.{Ordering}
use Rattle.std.proofs.lemmas.List.{get_or_default}
use Rattle.rbac_terms.specs.Text.{Text, text_cmp}
use Rattle.rbac_terms.specs.Principals.{Who, who_key, given_of}
use Rattle.rbac_terms.specs.Targets.{What, Resource, Url, IsProper}
use Rattle.rbac_model.specs.Lists.{IsOnceEach}
use Rattle.rbac_model.specs.Unions.{AreUnited}
use Rattle.rbac_model.specs.Universes.{UniverseView}
use Rattle.rbac_universe.specs.declared.lists.UniverseLists.{UniverseLists}
use Rattle.rbac_universe.specs.declared.fault.UniverseFault.{UniverseFault}
use Rattle.rbac_universe.specs.declared.fault.UniverseFault.TheVariants.{BadTarget, TooLarge, NoMemory}
use Rattle.rbac_universe.specs.Sets.{AreProper, IsTarget, IsNamespaced, AreSets, IsUniverseOf, HasUniverseFault}
use Rattle.rbac_document.specs.Document.{IsReadable, AreReadable, AreOnceEach}

-- two lists have the same entries
record Same {X : Type 0} (xs ys : List X) : Type 0 where
  into : (x : X) → Contains xs x → Contains ys x
  back : (x : X) → Contains ys x → Contains xs x

turned : {X : Type 0} {xs ys : List X} → Same xs ys → Same ys xs
turned same = record { into = same.back; back = same.into }

any_too : {X : Type 0} {xs ys : List X} → Same xs ys → (P : X → Type 0) → Any P xs → Any P ys
any_too same P w = let c = same.into w.1 (w.0, w.2, w.3) in (c.0, w.1, c.1, c.2, w.4)

all_too : {X : Type 0} (xs ys : List X) → Same xs ys → (P : X → Type 0) → All P xs → All P ys
all_too xs ys same P all k d l =
    let y = get_or ys k d in
    let c = same.back y (k, l, get_or_default ys k y d l) in
    subst P c.2 (all c.0 y c.1)

-- lists with the same entries, list by list
record AreSame (a b : UniverseLists) : Type 0 where
  principals : Same a.principals b.principals
  namespaces : Same a.namespaces b.namespaces
  verbs : Same a.verbs b.verbs
  resources : Same a.resources b.resources
  names : Same a.names b.names
  urls : Same a.urls b.urls

of_once : {X : Type 0} {cmp : X → X → Ordering} {xs ys : List X} → IsOnceEach cmp xs ys → Same xs ys
of_once are = record { into = λ x. (are.same x).1; back = λ x. (are.same x).0 }

once_same : (lists each : UniverseLists) → AreOnceEach lists each → AreSame lists each
once_same lists each are = record {
  principals = of_once are.principals;
  namespaces = of_once are.namespaces;
  verbs = of_once are.verbs;
  resources = of_once are.resources;
  names = of_once are.names;
  urls = of_once are.urls;
}

turned_all : (a b : UniverseLists) → AreSame a b → AreSame b a
turned_all a b s = record {
  principals = turned s.principals;
  namespaces = turned s.namespaces;
  verbs = turned s.verbs;
  resources = turned s.resources;
  names = turned s.names;
  urls = turned s.urls;
}

pub readable_too : (lists each : UniverseLists) → AreOnceEach lists each → AreReadable lists → AreReadable each
readable_too lists each are can =
    let s = once_same lists each are in
    record {
      principals = all_too lists.principals each.principals s.principals IsReadable can.principals;
      namespaces = all_too lists.namespaces each.namespaces s.namespaces IsUtf8 can.namespaces;
      verbs = all_too lists.verbs each.verbs s.verbs IsUtf8 can.verbs;
      resources = all_too lists.resources each.resources s.resources (λ r. IsUtf8 r.group × IsUtf8 r.text) can.resources;
      names = all_too lists.names each.names s.names IsUtf8 can.names;
      urls = all_too lists.urls each.urls s.urls IsUtf8 can.urls;
    }

-- ---- universes

united_too : {a b : List Who} (ps : List Who) → Same a b → AreUnited a ps → AreUnited b ps
united_too ps s are = record {
  ordered = are.ordered;
  keys = λ key. (
    λ w. any_too s (λ p. who_key p ≡ key) ((are.keys key).0 w),
    λ w. (are.keys key).1 (any_too (turned s) (λ p. who_key p ≡ key) w),
  );
  given = λ key g. (
    λ w. any_too s (λ p. (who_key p ≡ key) × Contains (given_of p) g) ((are.given key g).0 w),
    λ w. (are.given key g).1 (any_too (turned s) (λ p. (who_key p ≡ key) × Contains (given_of p) g) w),
  );
}

words_too : {a b : List Text} (words : List Text) → Same a b → IsOnceEach text_cmp a words → IsOnceEach text_cmp b words
words_too words s are = record {
  ascending = are.ascending;
  same = λ x. (λ w. s.into x ((are.same x).0 w), λ w. (are.same x).1 (s.back x w));
}

target_too : (a b : UniverseLists) → AreSame a b → (t : What) → IsTarget a t → IsTarget b t
target_too a b s (Resource group text name) is = (any_too s.resources (λ r. (r.group ≡ group) × (r.text ≡ text)) is.0, s.names.into name is.1)
target_too a b s (Url path) is = s.urls.into path is

namespaced_too : (a b : UniverseLists) → AreSame a b → (t : What) → IsNamespaced a t → IsNamespaced b t
namespaced_too a b s (Resource group text name) is = any_too s.resources (λ r. (r.group ≡ group) × (r.text ≡ text) × IsTrue r.namespaced) is
namespaced_too a b s (Url path) is = is

proper_too : (a b : UniverseLists) → AreSame a b → AreProper a → AreProper b
proper_too a b s are = record {
  resources = all_too a.resources b.resources s.resources (λ r. IsProper (Resource r.group r.text [])) are.resources;
  urls = all_too a.urls b.urls s.urls (λ path. IsProper (Url path)) are.urls;
}

sets_too : (a b : UniverseLists) (u : UniverseView) → AreSame a b → AreSets a u → AreSets b u
sets_too a b u s are =
    let back = turned_all a b s in
    record {
      principals = united_too u.principals s.principals are.principals;
      namespaces = words_too u.namespaces s.namespaces are.namespaces;
      verbs = words_too u.verbs s.verbs are.verbs;
      ordered = are.ordered;
      targets = λ t. (
        λ w. let is = (are.targets t).0 w in
            (target_too a b s t.0 is.0, (λ yes. namespaced_too a b s t.0 (is.1.0 yes), λ n. is.1.1 (namespaced_too b a back t.0 n))),
        λ is. (are.targets t).1
            (target_too b a back t.0 is.0, (λ yes. namespaced_too b a back t.0 (is.1.0 yes), λ n. is.1.1 (namespaced_too a b s t.0 n))),
      );
    }

universe_too : (a b : UniverseLists) (u : UniverseView) → AreSame a b → IsUniverseOf a u → IsUniverseOf b u
universe_too a b u s is = record {
  proper = proper_too a b s is.proper;
  sets = sets_too a b u s is.sets;
  few = is.few;
}

fault_too : (a b : UniverseLists) (fault : UniverseFault) → AreSame a b → HasUniverseFault a fault → HasUniverseFault b fault
fault_too a b BadTarget s bad = λ proper. bad (proper_too b a (turned_all a b s) proper)
fault_too a b TooLarge s large = (proper_too a b s large.0, (large.1.0, sets_too a b large.1.0 s large.1.1, large.1.2))
fault_too a b NoMemory s none = none

pub same_universe : (lists each : UniverseLists) (u : UniverseView) → AreOnceEach lists each → IsUniverseOf lists u ↔ IsUniverseOf each u
same_universe lists each u are =
    let s = once_same lists each are in
    (universe_too lists each u s, universe_too each lists u (turned_all lists each s))

pub same_fault : (lists each : UniverseLists) (fault : UniverseFault) → AreOnceEach lists each → HasUniverseFault lists fault ↔ HasUniverseFault each fault
same_fault lists each fault are =
    let s = once_same lists each are in
    (fault_too lists each fault s, fault_too each lists fault (turned_all lists each s))
