-- The places of roles and everything among nodes, by their scopes.
use Rattle.std.proofs.Common.{◌≡◌, ◌↔◌, ◌⊎◌, ◌∙◌, ◌<◌, ◌+◌, ◌++◌, ◌∷◌, [], ℕ, List, None, Option, Some, All, Any, Contains, ap, arith, eqb, get_or, inl, inr, length, refl, slice_get, subst, sym}
use Rattle.std.proofs.Math.ListN.{get_or-eq_default}
use Rattle.std.specs.List.Retain.{DiffersFromLast, IsFiltered}
use Rattle.std.specs.List.Sorted.{IsPermutation}
use Rattle.std.proofs.lemmas.Bool.{cases_lt}
use Rattle.std.proofs.lemmas.List.Filters.{dedup_is}
use Rattle.std.proofs.lemmas.List.Kept.{Contains-dedup_nat, Contains-from_dedup}
use Rattle.std.proofs.lemmas.List.Sorted.{Contains-permutation, IsPermutation-sym}
use Rattle.std.proofs.lemmas.List.{length_push}
use Rattle.std.proofs.lemmas.List.Elements.{Contains-get_or}
use Rattle.std.proofs.lemmas.Option.{slice_get-get_or, slice_get_within}
use Rattle.rbac_terms.specs.Text.{Text}
use Rattle.rbac_ways.specs.Joining.{ByWordView, HasUnder}
use Rattle.rbac_paths.specs.Having.{HoldingView}
use Rattle.rbac_model.proofs.OwnWords.{any_from}
use Rattle.rbac_paths.specs.Joints.{AreAmongOthers, AreAskedPlaces, AreOtherPlaces, AreOtherWords, AsksAll, CountsAt, IsAskedBy, IsNobody, MayAsk, OthersView, asked_word, in_scope, name_at, named, named_in, other_words, scope_at, words_at}
use Rattle.rbac_paths.specs.Nodes.{NodeView, Somebody, ClusterRoleIn, OwnRole, EverythingIn}
use Rattle.rbac_paths.specs.SharedWords.{AddsWhere}
use Rattle.rbac_paths.specs.Taking.{scope_namespace}
use Rattle.rbac_paths.specs.Tracing.{IsAt}
use Rattle.rbac_paths.proofs.GraphOf.{pushed}
use Rattle.rbac_paths.proofs.WordsAdded.{adds_both, adds_same}

-- the words of no nodes, and of one more node
pub words_none : (ys : List NodeView) (all : List (List Text)) → all ≡ [] → AreOtherWords ys 0 all
words_none ys all empty = (ap length empty, λ k y low at. absurd (omega (arith, low)))

pub words_more : (ys : List NodeView) (count : ℕ) (all : List (List Text)) (ws : List Text) → AreOtherWords ys count all → ((y : NodeView) → slice_get ys count ≡ Some y → ws ≡ other_words y) → AreOtherWords ys (count + 1) (all ++ ws ∷ [])
words_more ys count all ws are own = (
  length_push all ws ∙ ap (λ (n : ℕ). n + 1) are.0,
  pushed (λ k y x. x ≡ other_words y) ys [] all ws count are.0 are.1 own,
)

node_at : (ys : List NodeView) (j : ℕ) → j < length ys → (y : NodeView) × (slice_get ys j ≡ Some y)
node_at ys j low = (get_or ys j (EverythingIn None), slice_get-get_or ys j (EverythingIn None) low)

module _ (ys : List NodeView) (all : List (List Text)) (are : AreOtherWords ys (length ys) all) where
  listed_low : (j : ℕ) (w : Text) → Contains (get_or all j []) w → j < length ys
  listed_low j w c = elim (cases_lt j (length all)) [
    | inl low ↦ (let len = are.0 in omega (arith, low, len))
    | inr high ↦ absurd (let none = (subst (λ (ws : List Text). Contains ws w) (get_or-eq_default all [] high) c).1 in omega (arith, none))
  ]

  -- a word is listed for a place exactly if the node there is found by it
  listed_there : (w : Text) (j : ℕ) → Contains (get_or all j []) w ↔ IsAt (λ y. Contains (other_words y) w) ys j
  listed_there w j = (
    λ c.
        (let low = listed_low j w c in
        let y = node_at ys j low in
        (y.0, y.1, subst (λ (ws : List Text). Contains ws w) (are.1 j y.0 low y.1) c)),
    λ i. subst (λ (ws : List Text). Contains ws w) (sym (are.1 j i.0 (slice_get_within ys j i.0 i.1) i.1)) i.2,
  )

  pub among_others : (places : List ℕ) → AreOtherPlaces ys places → (n : ByWordView) → ((w : Text) (j : ℕ) → HasUnder n w j ↔ Contains (get_or all j []) w) → AreAmongOthers ys (record { places = places; by_word = n })
  among_others places others n by = record {
    places = others;
    by_word = λ w j. (λ h. (listed_there w j).0 ((by w j).0 h), λ i. (by w j).1 ((listed_there w j).1 i));
  }

-- a sort and a dedup leave the same places
pub kept_once : (all sorted once : List ℕ) → IsPermutation all sorted → IsFiltered (DiffersFromLast eqb) [] sorted once → (j : ℕ) → Contains once j ↔ Contains all j
kept_once all sorted once moved kept j =
    let e = dedup_is eqb sorted once kept in (
      λ c. Contains-permutation sorted all j (IsPermutation-sym all sorted moved) (Contains-from_dedup eqb sorted j (rw e at c)),
      λ c. rw e (Contains-dedup_nat sorted j (Contains-permutation all sorted j moved c)),
    )

-- the words of a role, or of everything
words_of : (y : NodeView) → IsNobody y → other_words y ≡ words_at (name_at y) (scope_namespace (scope_at y))
words_of (Somebody who) nobody = absurd nobody
words_of (ClusterRoleIn role scope) nobody = refl
words_of (OwnRole role) nobody = refl
words_of (EverythingIn scope) nobody = refl

nobody_there : (y : NodeView) (w : Text) → Contains (other_words y) w → IsNobody y
nobody_there (Somebody who) w c = absurd (let low = c.1 in omega (arith, low))
nobody_there (ClusterRoleIn role scope) w c = tt
nobody_there (OwnRole role) w c = tt
nobody_there (EverythingIn scope) w c = tt

-- what a holding may take over is found by one of its words, or by none if it asks for all
module _ (y : NodeView) (nobody : IsNobody y) where
  has : (w : Text) → Contains (words_at (name_at y) (scope_namespace (scope_at y))) w → Contains (other_words y) w
  has w c = subst (λ (ws : List Text). Contains ws w) (sym (words_of y nobody)) c

  has_name : (home : Option Text) → (home ≡ None) ⊎ (home ≡ scope_at y) → Contains (other_words y) (asked_word home (Some (name_at y)))
  has_name None counts = has (named (name_at y)) (1, omega arith, refl)
  has_name (Some own) (inl e) = absurd (let both : Some own ≡ None = e in cc)
  has_name (Some own) (inr e) = has (named_in (name_at y) own) (2, omega arith, ap (λ (s : Option Text). named_in (name_at y) (scope_namespace s)) (sym e))

  has_scope : (own : Text) → Some own ≡ scope_at y → Contains (other_words y) (in_scope own)
  has_scope own e = has (in_scope own) (0, omega arith, ap (λ (s : Option Text). in_scope (scope_namespace s)) (sym e))

module _ (ys : List NodeView) (o : OthersView) (are : AreAmongOthers ys o) (few scoped : List HoldingView) where
  all_others : (places : List ℕ) → ((j : ℕ) → Contains places j → IsAt IsNobody ys j) → All (IsAt IsNobody ys) places
  all_others places each k d low = each (get_or places k d) (Contains-get_or places k d low)

  -- all places, if a scoped holding asks for all
  pub asked_all : (places : List ℕ) → ((j : ℕ) → Contains places j ↔ Contains o.places j) → AreAskedPlaces ys few scoped places
  asked_all places same = record {
    others = all_others places (λ j c. (are.places j).0 ((same j).0 c));
    may = λ j y at nobody any. (same j).1 ((are.places j).1 (y, at, nobody));
    in_cluster = λ j at any. (same j).1 ((are.places j).1 (EverythingIn None, at, tt));
  }

  -- the places that are found by a word are those of other nodes
  found : (w : Text) (j : ℕ) → HasUnder o.by_word w j → IsAt IsNobody ys j
  found w j under = let i = (are.by_word w j).0 under in (i.0, i.1, nobody_there i.0 w i.2)

  asked : (h : HoldingView) (j : ℕ) → IsAskedBy o.by_word h j → IsAt IsNobody ys j
  asked h j (inl a) = found (asked_word h.home (Some a.1)) j a.4
  asked h j (inr (inl under)) = found (asked_word h.home (Some [])) j under
  asked h j (inr (inr w)) = found (asked_word h.home None) j w.1

  module _ (j : ℕ) (y : NodeView) (at : slice_get ys j ≡ Some y) (nobody : IsNobody y) where
    under_name : (home : Option Text) → (home ≡ None) ⊎ (home ≡ scope_at y) → HasUnder o.by_word (asked_word home (Some (name_at y))) j
    under_name home counts = (are.by_word (asked_word home (Some (name_at y))) j).1 (y, at, has_name y nobody home counts)

    any_name : (h : HoldingView) → (home : Option Text) → h.home ≡ home → (home ≡ None) ⊎ (home ≡ scope_at y) → h.rule.resource_names ≡ [] → AsksAll h ⊎ IsAskedBy o.by_word h j
    any_name h None e counts none = inl (e, none)
    any_name h (Some own) e (inl out) none = absurd (let both : Some own ≡ None = out in cc)
    any_name h (Some own) e (inr here) none = inr (inr (inr (none, subst (λ (home : Option Text). HasUnder o.by_word (asked_word home None) j) (sym e) ((are.by_word (in_scope own) j).1 (y, at, has_scope y nobody own here)))))

    pub may_ask : (h : HoldingView) → MayAsk y h → AsksAll h ⊎ IsAskedBy o.by_word h j
    may_ask h m = elim m.named [
      | inl (inl none) ↦ any_name h h.home refl m.counts none
      | inl (inr lists) ↦ inr (inl (any_from (λ name. HasUnder o.by_word (asked_word h.home (Some name)) j) h.rule.resource_names (name_at y) lists (under_name h.home m.counts)))
      | inr empty ↦ inr (inr (inl (subst (λ (name : Text). HasUnder o.by_word (asked_word h.home (Some name)) j) empty (under_name h.home m.counts))))
    ]

  -- the places that are found by words of the scoped holdings, if none of these asks for all
  asked_some : (Any AsksAll scoped → ⊥) → (places : List ℕ) → ((j : ℕ) → Contains places j → Any (λ h. IsAskedBy o.by_word h j) scoped ⊎ HasUnder o.by_word (named_in [] []) j)
      → ((j : ℕ) → Any (λ h. IsAskedBy o.by_word h j) scoped → Contains places j) → ((j : ℕ) → Any (CountsAt None) few → HasUnder o.by_word (named_in [] []) j → Contains places j) → AreAskedPlaces ys few scoped places
  asked_some none places sound has_scoped has_cluster = record {
    others = all_others places (λ j c. elim (sound j c) [
      | inl any ↦ asked any.1 j any.4
      | inr under ↦ found (named_in [] []) j under
    ]);
    may = λ j y at nobody any. elim (may_ask j y at nobody any.1 any.4) [
      | inl all ↦ absurd (none (any.0, any.1, any.2, any.3, all))
      | inr by ↦ has_scoped j (any.0, any.1, any.2, any.3, by)
    ];
    in_cluster = λ j at any. has_cluster j any ((are.by_word (named_in [] []) j).1 (EverythingIn None, at, (2, omega arith, refl)));
  }

  pub asked_from : (Any AsksAll scoped → ⊥) → (mid all places : List ℕ) → AddsWhere (λ j. Any (CountsAt None) few × HasUnder o.by_word (named_in [] []) j) [] mid → AddsWhere (λ j. Any (λ h. IsAskedBy o.by_word h j) scoped) mid all
      → ((j : ℕ) → Contains places j ↔ Contains all j) → AreAskedPlaces ys few scoped places
  asked_from none mid all places first second same = asked_some none places
      (λ j c. elim ((second j).0 ((same j).0 c)) [
        | inl old ↦ (elim ((first j).0 old) [ inl had ↦ absurd (let low = had.1 in omega (arith, low)) | inr w ↦ inr w.1 ])
        | inr scope ↦ inl scope
      ])
      (λ j scope. (same j).1 ((second j).1 (inr scope)))
      (λ j any under. (same j).1 ((second j).1 (inl ((first j).1 (inr (any, under))))))

-- the places for the words of one holding: for each name that its rule lists, for everything, and
-- for any name, if it lists none
module _ (n : ByWordView) (h : HoldingView) (a b c : List ℕ) (listed : AddsWhere (λ j. Any (λ name. HasUnder n (asked_word h.home (Some name)) j) h.rule.resource_names) a b)
    (nameless : AddsWhere (HasUnder n (asked_word h.home (Some []))) b c) where
  abbrev IsListed : ℕ → Type 0
  IsListed j = Any (λ name. HasUnder n (asked_word h.home (Some name)) j) h.rule.resource_names

  abbrev IsAny : ℕ → Type 0
  IsAny j = (h.rule.resource_names ≡ []) × HasUnder n (asked_word h.home None) j

  pub asks_any : h.rule.resource_names ≡ [] → (d : List ℕ) → AddsWhere (HasUnder n (asked_word h.home None)) c d → AddsWhere (IsAskedBy n h) a d
  asks_any none d all =
      adds_both IsListed (λ j. HasUnder n (asked_word h.home (Some [])) j ⊎ IsAny j) a b d listed
      (adds_both (HasUnder n (asked_word h.home (Some []))) IsAny b c d nameless
      (adds_same (HasUnder n (asked_word h.home None)) IsAny (λ j. (λ under. (none, under), λ w. w.1)) c d all))

  pub asks_named : (h.rule.resource_names ≡ [] → ⊥) → AddsWhere (IsAskedBy n h) a c
  asks_named some =
      adds_same (λ j. IsListed j ⊎ HasUnder n (asked_word h.home (Some [])) j) (IsAskedBy n h)
      (λ j. (
        λ s. elim s [ inl x ↦ inl x | inr y ↦ inr (inl y) ],
        λ s. elim s [ inl x ↦ inl x | inr (inl y) ↦ inr y | inr (inr w) ↦ absurd (some w.0) ],
      )) a c (adds_both IsListed (HasUnder n (asked_word h.home (Some []))) a b c listed nameless)
