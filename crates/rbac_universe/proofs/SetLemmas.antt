-- the sets that are made are those of the lists
use Rattle.std.proofs.Common.{◌≡◌, ℕ, ◌+◌, ◌<◌, List, [], ◌∷◌, ◌++◌, length, map, Any, sym, ap, ap₂, ◌∙◌, refl, arith, Bool, true, length-append}
use Rattle.std.specs.List.{flat_map, zip}
use Rattle.std.proofs.lemmas.List.{length-map}
use Rattle.std.proofs.lemmas.Slice.Zip.{length-zip}
use Rattle.std.proofs.lemmas.Map.Keys.{Less-from_sorted}
use Rattle.rbac_terms.specs.Text.{Text, text_cmp}
use Rattle.rbac_terms.specs.Targets.{What, Url}
use Rattle.rbac_terms.specs.Principals.{Who, who_key, given_of}
use Rattle.rbac_model.specs.Unions.{AreUnited, who_texts}
use Rattle.rbac_model.specs.Lists.{IsAscendingBy, IsOnceEach}
use Rattle.rbac_model.specs.Universes.{UniverseView, IsUniverse, Listed}
use Rattle.rbac_universe.specs.declared.lists.UniverseLists.{UniverseLists}
use Rattle.rbac_universe.specs.declared.lists.ListedResource.{ListedResource}
use Rattle.rbac_universe.specs.Sets.{AreSets}
use Rattle.rbac_universe.specs.Stems.{targets_of, listed_of, flags_of}
use Rattle.rbac_universe.specs.Uniting.{AreUnitedBy}
use Rattle.std.specs.Prelude.{Contains}

any_as : {X : Type 0} {P Q : X → Type 0} (xs : List X) → ((x : X) → P x → Q x) → Any P xs → Any Q xs
any_as xs f w = (w.0, w.1, w.2, w.3, f w.1 w.4)

-- principals are determined by their keys
pub principals_united : (listed ps : List Who) → AreUnitedBy who_texts (λ who g. Contains (given_of who) g) listed ps → AreUnited listed ps
principals_united listed ps are =
    let into = λ (key : Text) (p : Who) (e : who_key p ≡ key). let n : who_texts p ≡ key ∷ [] = ap (λ (k : Text). k ∷ []) e in n in
    let out = λ (key : Text) (p : Who) (e : who_texts p ≡ key ∷ []). let n : who_key p ≡ key = cc in n in
    record {
      ordered = are.ordered;
      keys = λ key. (
        λ w. any_as listed (out key) ((are.names (key ∷ [])).0 (any_as ps (into key) w)),
        λ w. any_as ps (out key) ((are.names (key ∷ [])).1 (any_as listed (into key) w)),
      );
      given = λ key g. (
        λ w. any_as listed (λ p h. (out key p h.0, h.1)) ((are.texts (key ∷ []) g).0 (any_as ps (λ p h. (into key p h.0, h.1)) w)),
        λ w. any_as ps (λ p h. (out key p h.0, h.1)) ((are.texts (key ∷ []) g).1 (any_as listed (λ p h. (into key p h.0, h.1)) w)),
      );
    }

pub words_ascend : (listed once : List Text) → IsOnceEach text_cmp listed once → IsAscendingBy (λ n. n ∷ []) once
words_ascend listed once are i j d lt l = rw (Less-from_sorted text_cmp once i j d are.ascending lt l) refl

-- sets are in order
pub sets_ordered : (lists : UniverseLists) (u : UniverseView) → AreSets lists u → IsUniverse u
sets_ordered lists u are = record {
  principals = are.principals.ordered;
  namespaces = words_ascend lists.namespaces u.namespaces are.namespaces;
  verbs = words_ascend lists.verbs u.verbs are.verbs;
  targets = are.ordered;
  urls = λ path w. ((are.targets (Url path, true)).0 w).1.0 refl;
}

-- targets and flags go together
zip_along : (b : Bool) (ts us : List What) (bs : List Bool) → zip (ts ++ us) (map (λ t. b) ts ++ bs) ≡ map (λ t. (t, b)) ts ++ zip us bs
zip_along b [] us bs = refl
zip_along b (t ∷ ts) us bs = ap (λ xs. (t, b) ∷ xs) (zip_along b ts us bs)

pub zip_within : (ts : List What) (bs : List Bool) (n : ℕ) → length bs ≡ length ts → n < length (zip ts bs) → n < length bs
zip_within ts bs n e l = omega (arith, length-zip ts bs)

pub zip_flat : (names : List Text) (stems : List ListedResource) → zip (flat_map (targets_of names) stems) (flat_map (flags_of names) stems) ≡ flat_map (listed_of names) stems
zip_flat names [] = refl
zip_flat names (s ∷ stems) =
    zip_along s.namespaced (targets_of names s) (flat_map (targets_of names) stems) (flat_map (flags_of names) stems) ∙ ap (λ xs. listed_of names s ++ xs) (zip_flat names stems)

same_lengths : {X Y Z : Type 0} (f : X → List Y) (g : X → List Z) → ((x : X) → length (f x) ≡ length (g x)) → (xs : List X) → length (flat_map f xs) ≡ length (flat_map g xs)
same_lengths f g e [] = refl
same_lengths f g e (x ∷ xs) = length-append (f x) (flat_map f xs) ∙ ap₂ (λ a b. a + b) (e x) (same_lengths f g e xs) ∙ sym (length-append (g x) (flat_map g xs))

pub length_flags : (names : List Text) (stems : List ListedResource) → length (flat_map (flags_of names) stems) ≡ length (flat_map (targets_of names) stems)
length_flags names stems = same_lengths (flags_of names) (targets_of names) (λ s. length-map (targets_of names s) (λ t. s.namespaced)) stems

pub length_listed : (names : List Text) (stems : List ListedResource) → length (flat_map (listed_of names) stems) ≡ length (flat_map (targets_of names) stems)
length_listed names stems = same_lengths (listed_of names) (targets_of names) (λ s. length-map {B = Listed} (targets_of names s) (λ t. (t, s.namespaced))) stems
