-- The graph that is joined by words and by single edges has an edge from a node to another exactly
-- if the first takes over the second.
use Rattle.std.proofs.Common.{◌≡◌, ◌↔◌, ◌⊎◌, ◌∙◌, ◌<◌, ◌+◌, ◌++◌, ℕ, List, [], ◌∷◌, Some, IfOk, Result, Ok, Err, Contains, ap, arith, get_or, inl, inr, length, slice_get, subst, sym}
use Rattle.std.proofs.lemmas.Bool.{cases_lt}
use Rattle.std.proofs.lemmas.List.{get_or_append_left, get_or_at, length_push}
use Rattle.std.proofs.lemmas.Option.{get_or_from_slice_get, same_Some, slice_get-get_or, slice_get_within}
use Rattle.rbac_terms.specs.Text.{Text}
use Rattle.rbac_model.specs.Policies.{PolicyView}
use Rattle.rbac_ways.specs.Joining.{IsListedAt, IsListedIn, SharesWord, TakesListed}
use Rattle.rbac_ways.specs.Ways.{GraphView, IsEdge}
use Rattle.rbac_paths.specs.Joints.{AreHad, AreOthers, AreOwnWords, IsHadBy, IsNobody, TakesByWords}
use Rattle.rbac_paths.specs.Nodes.{NodeView, Somebody, ClusterRoleIn, OwnRole, EverythingIn}
use Rattle.rbac_paths.specs.Paths.{IsGraphOf}
use Rattle.rbac_paths.specs.SharedLists.{AreShared}
use Rattle.rbac_paths.specs.TakingOver.{TakesOver}
use Rattle.rbac_steps.specs.declared.steps.Step.{Step}

-- two facts about a result that is `Ok` give a third
pub ok_both : {X E : Type 0} (r : Result X E) (P Q R : X → Type 0) → ((x : X) → P x → Q x → R x) → IfOk r P → IfOk r Q → IfOk r R
ok_both (Ok x) P Q R both first second = both x first second
ok_both (Err e) P Q R both first second = tt

-- what is said of each place holds with one more pushed
pub pushed_below : {X : Type 0} (P : ℕ → X → Type 0) (d : X) (xs : List X) (x : X) (count : ℕ) → length xs ≡ count
    → ((k : ℕ) → k < count → P k (get_or xs k d)) → P count x → (k : ℕ) → k < count + 1 → P k (get_or (xs ++ x ∷ []) k d)
pushed_below P d xs x count len each last k low = elim (cases_lt k count) [
  | inl less ↦ subst (P k) (sym (get_or_append_left xs (x ∷ []) d k (let same = len in omega (arith, less, same)))) (each k less)
  | inr high ↦ (
      let same : k ≡ count = omega (arith, low, high) in
      let end : length xs ≡ k = len ∙ sym same in
      subst (P k) (sym (get_or_at xs x [] d k end)) (subst (λ (i : ℕ). P i x) (sym same) last)
      )
]

pub pushed : {X Y : Type 0} (P : ℕ → Y → X → Type 0) (ys : List Y) (d : X) (xs : List X) (x : X) (count : ℕ) → length xs ≡ count
    → ((k : ℕ) (y : Y) → k < count → slice_get ys k ≡ Some y → P k y (get_or xs k d)) → ((y : Y) → slice_get ys count ≡ Some y → P count y x)
    → (k : ℕ) (y : Y) → k < count + 1 → slice_get ys k ≡ Some y → P k y (get_or (xs ++ x ∷ []) k d)
pushed {Y = Y} P ys d xs x count len each last k y low at =
    pushed_below (λ i z. (v : Y) → slice_get ys i ≡ Some v → P i v z) d xs x count len (λ i less v there. each i v less there) last k low y at

-- one more node, and the words by which it can be had
pub had_more : (ys : List NodeView) (count : ℕ) (had : List (List Text)) (ws : List Text) → AreHad ys count had → ((y : NodeView) → slice_get ys count ≡ Some y → IsHadBy y ws) → AreHad ys (count + 1) (had ++ ws ∷ [])
had_more ys count had ws h words = record {
  len = length_push had ws ∙ ap (λ (n : ℕ). n + 1) h.len;
  words = pushed (λ k y x. IsHadBy y x) ys [] had ws count h.len h.words words;
}

module _ (p : PolicyView) (steps : List Step) (ys : List NodeView) where
  -- of no nodes
  pub own_none : (own : List (List Text)) → own ≡ [] → AreOwnWords p steps ys 0 own
  own_none own none = record { len = ap length none; words = λ k y low at is. absurd (omega (arith, low)) }

  pub own_more : (count : ℕ) (own : List (List Text)) (ws : List Text) → AreOwnWords p steps ys count own
      → ((y : NodeView) → slice_get ys count ≡ Some y → IsNobody y → TakesByWords p steps y (λ w. Contains ws w)) → AreOwnWords p steps ys (count + 1) (own ++ ws ∷ [])
  own_more count own ws are words = record {
    len = length_push own ws ∙ ap (λ (n : ℕ). n + 1) are.len;
    words = pushed (λ k y x. IsNobody y → TakesByWords p steps y (λ w. Contains x w)) ys [] own ws count are.len are.words words;
  }

  module _ (lists : List (List Text)) (takes : List (List ℕ)) (had : List (List Text)) (also : List (List ℕ)) (own : List ℕ) (takes_len : length takes ≡ length ys)
      (words : (i : ℕ) (x : NodeView) → slice_get ys i ≡ Some x → TakesByWords p steps x (λ w. IsListedIn lists (get_or takes i []) w))
      (shared : AreShared ℕ (λ k js. (y : NodeView) → slice_get ys k ≡ Some y → AreOthers p steps y ys js) (length ys) also own) (are : AreHad ys (length ys) had) where
    -- roles and everything have no words
    nobody_had : (j : ℕ) (y : NodeView) (w : Text) → slice_get ys j ≡ Some y → IsNobody y → Contains (get_or had j []) w → ⊥
    nobody_had j (Somebody who) w at is c = elim is [ ]
    nobody_had j (ClusterRoleIn role scope) w at is c = let low = (subst (λ (ws : List Text). Contains ws w) (are.words j (ClusterRoleIn role scope) (slice_get_within ys j (ClusterRoleIn role scope) at) at) c).1 in omega (arith, low)
    nobody_had j (OwnRole role) w at is c = let low = (subst (λ (ws : List Text). Contains ws w) (are.words j (OwnRole role) (slice_get_within ys j (OwnRole role) at) at) c).1 in omega (arith, low)
    nobody_had j (EverythingIn scope) w at is c = let low = (subst (λ (ws : List Text). Contains ws w) (are.words j (EverythingIn scope) (slice_get_within ys j (EverythingIn scope) at) at) c).1 in omega (arith, low)

    abbrev Joined : ℕ → ℕ → Type 0
    Joined i j = SharesWord lists takes had i j ⊎ TakesListed also own i j

    module _ (i j : ℕ) (x : NodeView) (at : slice_get ys i ≡ Some x) where
      low : i < length ys
      low = slice_get_within ys i x at

      listed : (y : NodeView) → slice_get ys j ≡ Some y → TakesListed also own i j → TakesOver p steps x y
      listed y there l =
          let o = (shared.each i low x at j).0 (subst (λ (k : ℕ). IsListedAt also k j) (sym (get_or_from_slice_get own i l.0 i l.1)) l.2) in
          subst (λ (z : NodeView). TakesOver p steps x z) (same_Some o.0 y (sym o.1 ∙ there)) o.3

      to_nobody : (y : NodeView) → slice_get ys j ≡ Some y → IsNobody y → Joined i j ↔ TakesOver p steps x y
      to_nobody y there is = (
        λ e. elim e [ inl s ↦ absurd (nobody_had j y s.0 there is s.2) | inr l ↦ listed y there l ],
        λ t. inr (get_or own i i, slice_get-get_or own i i (let len = shared.places_len in let within = low in omega (arith, within, len)), (shared.each i low x at j).1 (y, there, is, t)),
      )

      pub joined : (y : NodeView) → slice_get ys j ≡ Some y → Joined i j ↔ TakesOver p steps x y
      joined (Somebody who) there =
          let share = words i x at who (get_or had j []) (are.words j (Somebody who) (slice_get_within ys j (Somebody who) there) there) in (
            λ e. elim e [ inl s ↦ share.0 (s.0, s.1, s.2) | inr l ↦ listed (Somebody who) there l ],
            λ t. (let s = share.1 t in inl (s.0, s.1, s.2)),
          )
      joined (ClusterRoleIn role scope) there = to_nobody (ClusterRoleIn role scope) there tt
      joined (OwnRole role) there = to_nobody (OwnRole role) there tt
      joined (EverythingIn scope) there = to_nobody (EverythingIn scope) there tt

    pub graph_is : (g : GraphView) → length g.takes ≡ length takes → ((i j : ℕ) → IsEdge g i j ↔ ((j < length takes) × Joined i j)) → IsGraphOf p steps ys g
    graph_is g len edges = record {
      len = len ∙ takes_len;
      edges = λ i j x y at there. (
          let is = joined i j x at y there in (
            λ e. is.0 ((edges i j).0 e).1,
            λ t. (edges i j).1 (subst (λ (n : ℕ). j < n) (sym takes_len) (slice_get_within ys j y there), is.1 t),
          )
          );
    }
