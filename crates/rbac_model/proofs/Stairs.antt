-- steps by the places of roles
use Rattle.std.proofs.Common.{◌≡◌, ◌≢◌, ℕ, ◌<◌, List, [], ◌∷◌, ◌++◌, length, get_or, Contains, ◌↔◌, sym, ap, ◌∙◌, refl, arith, subst, inl, inr, zero, suc, take, ◌+◌}
use Rattle.std.proofs.lemmas.List.{take_more, get_or_default}
use Rattle.std.proofs.Math.ListN.{get_or-eq_default}
use Rattle.std.specs.Prelude.{Some, slice_get}
use Rattle.std.specs.List.{AllZip}
use Rattle.std.proofs.lemmas.Option.{same_Some, slice_get_within, slice_get-get_or, slice_get_cases}
use Rattle.rbac_model.proofs.PlaceSets.{has_none}
use Rattle.rbac_model.specs.Policies.{Held, IsSelectionPath, Reaches, Gathers}
use Rattle.rbac_model.specs.Graphs.{Graph, IsGraph, HasPlace, HasEdge, IsWay, HasWay}
use Rattle.rbac_model.specs.Places.{IsStepTo, IsRowOf, AreSteps, IsReachedAt, AreReachedByEach}
use Rattle.rbac_terms.specs.declared.granting.ClusterRole.{ClusterRole}
use Rattle.rbac_terms.proofs.Reading.{contains_read}

-- pairs by place
pub zip_read : {A B : Type 0} (R : A → B → Type 0) (xs : List A) (ys : List B) (i : ℕ) (x : A) (y : B) → AllZip R xs ys → slice_get xs i ≡ Some x → slice_get ys i ≡ Some y → R x y
zip_read R [] ys i x y all e f = cc
zip_read R (a ∷ xs) [] i x y all e f = absurd all
zip_read R (a ∷ xs) (b ∷ ys) zero x y all e f =
    rw (← same_Some a x e, ← same_Some b y f) all.0
zip_read R (a ∷ xs) (b ∷ ys) (suc i) x y all e f = zip_read R xs ys i x y all.1 e f

pub zip_len : {A B : Type 0} (R : A → B → Type 0) (xs : List A) (ys : List B) → AllZip R xs ys → length ys ≡ length xs
zip_len R [] [] all = refl
zip_len R [] (y ∷ ys) all = absurd all
zip_len R (x ∷ xs) [] all = absurd all
zip_len R (x ∷ xs) (y ∷ ys) all = ap suc (zip_len R xs ys all.1)

pub zip_push : {A B : Type 0} (R : A → B → Type 0) (xs : List A) (ys : List B) (x : A) (y : B) → AllZip R xs ys → R x y → AllZip R (xs ++ x ∷ []) (ys ++ y ∷ [])
zip_push R [] [] x y all p = (p, tt)
zip_push R [] (b ∷ ys) x y all p = absurd all
zip_push R (a ∷ xs) [] x y all p = absurd all
zip_push R (a ∷ xs) (b ∷ ys) x y all p = (all.0, zip_push R xs ys x y all.1 p)

pub read_contains : {X : Type 0} (xs : List X) (x : X) → Contains xs x → (k : ℕ) × (slice_get xs k ≡ Some x)
read_contains xs x w = (w.0, slice_get-get_or xs w.0 x w.1 ∙ ap Some w.2)

pub step_read : (h : Held) (r : ClusterRole) (k : ℕ) (s : ClusterRole) → slice_get h.cluster_roles k ≡ Some s → (r.name ≢ s.name) × Gathers r.aggregation s → IsStepTo h r k
step_read h r k s read step = (s, read, (contains_read h.cluster_roles k s read, step.0, step.1))

pub step_same : (h : Held) (r : ClusterRole) (k : ℕ) (s : ClusterRole) → slice_get h.cluster_roles k ≡ Some s → IsStepTo h r k → (r.name ≢ s.name) × Gathers r.aggregation s
step_same h r k s read step =
    let P : ClusterRole → Type 0 = λ t. (r.name ≢ t.name) × Gathers r.aggregation t in
    subst P (same_Some step.0 s (sym step.1 ∙ read)) (step.2.1, step.2.2)

-- what is reached is held
path_held : (h : Held) (r : ClusterRole) (between : List ClusterRole) (s : ClusterRole) → IsSelectionPath h r between s → Contains h.cluster_roles s
path_held h r [] s step = step.0
path_held h r (m ∷ ms) s path = path_held h m ms s path.1

pub reached_held : (h : Held) (r s : ClusterRole) → Reaches h r s → Contains h.cluster_roles s
reached_held h r s path = path_held h r path.0 s path.1

module _ (h : Held) (g : Graph) (are : AreSteps h g) where
  -- the closure has a row for each role
  rows_len : length g ≡ length h.cluster_roles
  rows_len = zip_len (IsRowOf h) h.cluster_roles g are

  row_there : (a : ℕ) (r : ClusterRole) → slice_get h.cluster_roles a ≡ Some r → IsRowOf h r (get_or g a [])
  row_there a r e =
      let l : a < length g = omega (arith, rows_len, slice_get_within h.cluster_roles a r e) in
      zip_read (IsRowOf h) h.cluster_roles g a r (get_or g a []) are e (slice_get-get_or g a [] l)

  edge_step : (a : ℕ) (r : ClusterRole) (k : ℕ) → slice_get h.cluster_roles a ≡ Some r → HasEdge g a k → IsStepTo h r k
  edge_step a r k e edge = (row_there a r e k).0 edge

  step_edge : (a : ℕ) (r : ClusterRole) (k : ℕ) → slice_get h.cluster_roles a ≡ Some r → IsStepTo h r k → HasEdge g a k
  step_edge a r k e step = (row_there a r e k).1 step

  -- the graph is one
  pub rows_within : IsGraph g
  rows_within a b edge =
      elim ((slice_get_cases h.cluster_roles a).1) [
        | inl v ↦ let step = edge_step a v.0 b v.2 edge in omega (arith, rows_len, slice_get_within h.cluster_roles b step.0 step.1)
        | inr v ↦ absurd (has_none b (subst (λ (row : List ℕ). HasPlace row b) (get_or-eq_default g [] (omega (arith, rows_len, v.0))) edge))
      ]

  -- ways and paths are alike
  way_path : (a : ℕ) (r : ClusterRole) (between : List ℕ) (k : ℕ) → slice_get h.cluster_roles a ≡ Some r → IsWay g a between k → IsReachedAt h r k
  way_path a r [] k e way = let step = edge_step a r k e way in (step.0, step.1, ([], step.2))
  way_path a r (m ∷ ms) k e way =
      let step = edge_step a r m e way.0 in
      let rest = way_path m step.0 ms k step.1 way.1 in
      (rest.0, rest.1, (step.0 ∷ rest.2.0, (step.2, rest.2.1)))

  path_way : (a : ℕ) (r : ClusterRole) (between : List ClusterRole) (s : ClusterRole) (k : ℕ) → slice_get h.cluster_roles a ≡ Some r → slice_get h.cluster_roles k ≡ Some s → IsSelectionPath h r between s → HasWay g a k
  path_way a r [] s k e there step = ([], step_edge a r k e (s, there, step))
  path_way a r (m ∷ ms) s k e there path =
      let at = read_contains h.cluster_roles m path.0.0 in
      let rest = path_way at.0 m ms s k at.1 there path.1 in
      (at.0 ∷ rest.0, (step_edge a r at.0 e (m, at.1, path.0), rest.1))

  -- where each vertex has edges to all that it led to, the roles that are reached are in the set
  pub are_reaches : (rows : Graph) → length rows ≡ length g → ((a b : ℕ) → HasEdge rows a b ↔ HasWay g a b) → AreReachedByEach h rows
  are_reaches rows len exact = record {
    len = len ∙ rows_len;
    exact = λ at r e k. (
      λ edge. let way = (exact at k).0 edge in way_path at r way.0 k e way.1,
      λ to. (exact at k).1 (path_way at r to.2.0 to.0 k e to.1 to.2.1),
    );
  }

pub reached_places : (h : Held) (rows : Graph) (at : ℕ) (r : ClusterRole) (places : List ℕ) → AreReachedByEach h rows → slice_get h.cluster_roles at ≡ Some r → places ≡ get_or rows at places → (k : ℕ) → HasPlace places k ↔ IsReachedAt h r k
reached_places h rows at r places are e read =
    let l : at < length rows = omega (arith, are.len, slice_get_within h.cluster_roles at r e) in
    let same : get_or rows at [] ≡ places = sym (read ∙ get_or_default rows at places [] l) in
    subst (λ (row : List ℕ). (k : ℕ) → HasPlace row k ↔ IsReachedAt h r k) same (are.exact at r e)

-- one pair more, as a loop over a list makes it
pub zip_next : {A B : Type 0} (R : A → B → Type 0) (all xs : List A) (ys : List B) (i : ℕ) (x : A) (y : B) → xs ≡ all → i < length xs → x ≡ get_or xs i x → AllZip R (take i all) ys → R x y → AllZip R (take (i + 1) all) (ys ++ y ∷ [])
zip_next {A} R all xs ys i x y same h read zip p =
    let more : take (i + 1) all ≡ take i all ++ x ∷ [] = rw same at (take_more xs i x h ∙ ap (λ (v : A). take i xs ++ v ∷ []) (sym read)) in
    rw more (zip_push R (take i all) ys x y zip p)

pub take_read : {A : Type 0} (xs : List A) (i : ℕ) (x : A) → i < length xs → x ≡ get_or xs i x → take (i + 1) xs ≡ take i xs ++ x ∷ []
take_read {A} xs i x h read = take_more xs i x h ∙ ap (λ (v : A). take i xs ++ v ∷ []) (sym read)
