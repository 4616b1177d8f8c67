-- the sets of lists are one, and so are the faults
use Rattle.std.proofs.Common.{◌≡◌, ◌≢◌, List, [], ◌∷◌, length, map, Contains, sym, ap, ◌∙◌, refl, Less}
use Rattle.std.proofs.lemmas.List.{length-map}
use Rattle.rbac_terms.specs.Text.{Text, text_cmp}
use Rattle.rbac_terms.specs.Principals.{Who, who_key}
use Rattle.rbac_model.specs.Unions.{AreUnited}
use Rattle.rbac_model.specs.Lists.{by_name, IsAscendingBy, IsOnceEach}
use Rattle.rbac_model.specs.Universes.{UniverseView, target_texts}
use Rattle.rbac_model.proofs.OneList.{one_list}
use Rattle.rbac_universe.specs.declared.lists.UniverseLists.{UniverseLists}
use Rattle.rbac_universe.specs.declared.fault.UniverseFault.{UniverseFault}
use Rattle.rbac_universe.specs.declared.fault.UniverseFault.TheVariants.{BadTarget, TooLarge, NoMemory}
use Rattle.rbac_universe.specs.Sets.{AreSets, IsWithinLimits, IsUniverseOf, HasUniverseFault}
use Rattle.rbac_universe.proofs.Flattened.{contains_map, map_contains, pairs_map}
use Rattle.rbac_universe.proofs.SetLemmas.{words_ascend}
use Rattle.rbac_universe.proofs.OneMore.{as_any}

abbrev word_name : Text → List Text
word_name n = n ∷ []

one_words : (listed xs ys : List Text) → IsOnceEach text_cmp listed xs → IsOnceEach text_cmp listed ys → xs ≡ ys
one_words listed xs ys p q =
    one_list word_name xs ys (words_ascend listed xs p) (words_ascend listed ys q) (λ x w. (q.same x).1 ((p.same x).0 w)) (λ x w. (p.same x).1 ((q.same x).0 w))

keys_ascend : (ps : List Who) → IsAscendingBy (λ who. who_key who ∷ []) ps → IsAscendingBy word_name (map who_key ps)
keys_ascend ps up = pairs_map (λ j k. by_name word_name j k ≡ Less) who_key ps up

keys_among : (listed ps qs : List Who) → AreUnited listed ps → AreUnited listed qs → (key : Text) → Contains (map who_key ps) key → Contains (map who_key qs) key
keys_among listed ps qs p q key w =
    let who = contains_map who_key ps key w in
    let other = (q.keys key).1 ((p.keys key).0 (as_any (λ x. who_key x ≡ key) ps who.0 who.1 who.2)) in
    rw (← other.4) (map_contains who_key qs other.1 (other.0, other.2, other.3))

one_keys : (listed ps qs : List Who) → AreUnited listed ps → AreUnited listed qs → map who_key ps ≡ map who_key qs
one_keys listed ps qs p q =
    one_list word_name (map who_key ps) (map who_key qs) (keys_ascend ps p.ordered) (keys_ascend qs q.ordered) (keys_among listed ps qs p q) (keys_among listed qs ps q p)

pub one_sets : (lists : UniverseLists) (u v : UniverseView) → AreSets lists u → AreSets lists v → (map who_key u.principals ≡ map who_key v.principals) × (u.namespaces ≡ v.namespaces) × (u.verbs ≡ v.verbs) × (u.targets ≡ v.targets)
one_sets lists u v p q = (
  one_keys lists.principals u.principals v.principals p.principals q.principals,
  one_words lists.namespaces u.namespaces v.namespaces p.namespaces q.namespaces,
  one_words lists.verbs u.verbs v.verbs p.verbs q.verbs,
  one_list target_texts u.targets v.targets p.ordered q.ordered (λ t w. (q.targets t).1 ((p.targets t).0 w)) (λ t w. (p.targets t).1 ((q.targets t).0 w)),
)

few_too : (lists : UniverseLists) (u v : UniverseView) → AreSets lists u → AreSets lists v → IsWithinLimits u → IsWithinLimits v
few_too lists u v p q few =
    let one = one_sets lists u v p q in
    let keys : length u.principals ≡ length v.principals = sym (length-map u.principals who_key) ∙ ap length one.0 ∙ length-map v.principals who_key in
    record {
      principals = rw keys at few.principals;
      namespaces = rw one.1 at few.namespaces;
      verbs = rw one.2 at few.verbs;
      targets = rw one.3 at few.targets;
    }

pub no_fault : (lists : UniverseLists) (u : UniverseView) (fault : UniverseFault) → IsUniverseOf lists u → fault ≢ NoMemory → HasUniverseFault lists fault → ⊥
no_fault lists u BadTarget is ne h = h is.proper
no_fault lists u TooLarge is ne h = h.1.2 (few_too lists u h.1.0 is.sets h.1.1 is.few)
no_fault lists u NoMemory is ne h = ne refl
