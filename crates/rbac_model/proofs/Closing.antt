-- rows that become, one after the other, all that their vertices lead to
use Rattle.std.proofs.Common.{◌≡◌, ◌≢◌, ℕ, ◌<◌, ◌⊎◌, ◌↔◌, List, [], ◌∷◌, ◌++◌, length, set, inl, inr, sym, ◌∙◌, refl, arith, subst, get_or-set_same, get_or-set_other}
use Rattle.std.proofs.Math.ListN.{get_or-eq_default, length-set}
use Rattle.std.proofs.lemmas.Bool.{cases_eq, cases_lt}
use Rattle.rbac_model.proofs.PlaceSets.{has_none}
use Rattle.rbac_model.specs.Graphs.{Graph, IsGraph, HasEdge, HasPlace, IsWay, HasWay, LeadsAlike, AreFull, AreEnds}

pub edge_within : (g : Graph) (a b : ℕ) → HasEdge g a b → a < length g
edge_within g a b edge = elim (cases_lt a (length g)) [
  | inl l ↦ l
  | inr le ↦ absurd (has_none b (subst (λ (row : List ℕ). HasPlace row b) (get_or-eq_default g [] le) edge))
]

module _ (g : Graph) where
  pub by_edge : (a b : ℕ) → HasEdge g a b → HasWay g a b
  by_edge a b edge = ([], edge)

  -- what the first edges lead to, and each further edge leads on in, a way leads to
  pub along : (M : ℕ → Type 0) → ((m b : ℕ) → M m → HasEdge g m b → M b) → (a : ℕ) (between : List ℕ) (b : ℕ) → ((k : ℕ) → HasEdge g a k → M k) → IsWay g a between b → M b
  along M on a [] b first way = first b way
  along M on a (m ∷ ms) b first way = along M on m ms b (λ k edge. on m k (first m way.0) edge) way.1

  extended : (a : ℕ) (between : List ℕ) (m b : ℕ) → IsWay g a between m → HasEdge g m b → IsWay g a (between ++ m ∷ []) b
  extended a [] m b way edge = (way, edge)
  extended a (x ∷ xs) m b way edge = (way.0, extended x xs m b way.1 edge)

  pub one_on : (a m b : ℕ) → HasWay g a m → HasEdge g m b → HasWay g a b
  one_on a m b way edge = (way.0 ++ m ∷ [], extended a way.0 m b way.1 edge)

  pub through : (a m b : ℕ) → HasWay g a m → HasWay g m b → HasWay g a b
  through a m b first second = along (HasWay g a) (λ k c way edge. one_on a k c way edge) m second.0 b (λ k edge. one_on a m k first edge) second.1

  pub led_within : IsGraph g → (a b : ℕ) → HasWay g a b → b < length g
  led_within is a b way = along (λ k. k < length g) (λ m k l edge. is m k edge) a way.0 b (λ k edge. is a k edge) way.1

  pub first_edge : (a b : ℕ) → HasWay g a b → (k : ℕ) × HasEdge g a k
  first_edge a b way = first_of_way a way.0 b way.1
    where
      first_of_way : (a : ℕ) (between : List ℕ) (b : ℕ) → IsWay g a between b → (k : ℕ) × HasEdge g a k
      first_of_way a [] b w = (b, w)
      first_of_way a (m ∷ ms) b w = (m, w.0)

-- one row becomes all that its vertex leads to
module _ (g : Graph) (at : ℕ) (row : List ℕ) (l : at < length g) (exact : (k : ℕ) → HasPlace row k ↔ HasWay g at k) where
  here : (b : ℕ) → HasEdge (set g at row) at b ↔ HasWay g at b
  here b = rw (get_or-set_same g at row [] l) (exact b)

  elsewhere : (a b : ℕ) → a ≢ at → HasEdge (set g at row) a b ↔ HasEdge g a b
  elsewhere a b ne = rw (get_or-set_other g at a row [] ne) (λ edge. edge, λ edge. edge)

  edge_leads : (a b : ℕ) → HasEdge (set g at row) a b → HasWay g a b
  edge_leads a b edge = elim (cases_eq a at) [
    | inl e ↦ subst (λ (v : ℕ). HasWay g v b) (sym e) ((here b).0 (subst (λ (v : ℕ). HasEdge (set g at row) v b) e edge))
    | inr ne ↦ by_edge g a b ((elsewhere a b ne).0 edge)
  ]

  edge_kept : (a b : ℕ) → HasEdge g a b → HasEdge (set g at row) a b
  edge_kept a b edge = elim (cases_eq a at) [
    | inl e ↦ subst (λ (v : ℕ). HasEdge (set g at row) v b) (sym e) ((here b).1 (by_edge g at b (subst (λ (v : ℕ). HasEdge g v b) e edge)))
    | inr ne ↦ (elsewhere a b ne).1 edge
  ]

  pub one_alike : LeadsAlike g (set g at row)
  one_alike = record {
    len = length-set g at row;
    same = λ a b. (
      λ way. along (set g at row) (HasWay g a) (λ m c w edge. through g a m c w (edge_leads m c edge)) a way.0 b (λ k edge. edge_leads a k edge) way.1,
      λ way. along g (HasWay (set g at row) a) (λ m c w edge. one_on (set g at row) a m c w (edge_kept m c edge)) a way.0 b (λ k edge. by_edge (set g at row) a k (edge_kept a k edge)) way.1,
    );
  }

  pub one_full : (closed more : List ℕ) → AreFull g closed → ((k : ℕ) → HasPlace more k ↔ (HasPlace closed k ⊎ (k ≡ at))) → AreFull (set g at row) more
  one_full closed more full is a k b has first second = elim (cases_eq a at) [
    | inl e ↦
        let way : HasWay g a b = through g a k b (edge_leads a k first) (edge_leads k b second) in
        subst (λ (v : ℕ). HasEdge (set g at row) v b) (sym e) ((here b).1 (subst (λ (v : ℕ). HasWay g v b) e way))
    | inr ne ↦
        let was : HasPlace closed a = elim ((is a).0 has) [ inl m ↦ m | inr e ↦ absurd (ne e) ] in
        let way = edge_leads k b second in
        let edge = (elsewhere a k ne).0 first in
        (elsewhere a b ne).1 (along g (HasEdge g a) (λ m c to on. full a m c was to on) k way.0 b (λ c on. full a k c was edge on) way.1)
  ]

-- rows that lead alike
pub same_alike : (g : Graph) → LeadsAlike g g
same_alike g = record { len = refl; same = λ a b. (λ way. way, λ way. way) }

pub still_alike : (g h i : Graph) → LeadsAlike g h → LeadsAlike h i → LeadsAlike g i
still_alike g h i first second = record {
  len = second.len ∙ first.len;
  same = λ a b. (λ way. (first.same a b).0 ((second.same a b).0 way), λ way. (second.same a b).1 ((first.same a b).1 way));
}

pub still_graph : (g h : Graph) → IsGraph g → LeadsAlike g h → IsGraph h
still_graph g h is alike a b edge =
    let within = led_within g is a b ((alike.same a b).0 (by_edge h a b edge)) in
    omega (arith, alike.len, within)

pub still_ends : (g h : Graph) (ends : List ℕ) → AreEnds g ends → LeadsAlike g h → AreEnds h ends
still_ends g h ends are alike a b has edge =
    let first = first_edge g a b ((alike.same a b).0 (by_edge h a b edge)) in
    are a first.0 has first.1

pub all_closed : (g h : Graph) (closed : List ℕ) → LeadsAlike g h → AreFull h closed → ((k : ℕ) → k < length h → HasPlace closed k) → (a b : ℕ) → HasEdge h a b ↔ HasWay g a b
all_closed g h closed alike full all a b = (
  λ edge. (alike.same a b).0 (by_edge h a b edge),
  λ to.
      let way = (alike.same a b).1 to in
      let first = first_edge h a b way in
      let has = all a (edge_within h a first.0 first.1) in
      along h (HasEdge h a) (λ m c edge on. full a m c has edge on) a way.0 b (λ k edge. edge) way.1,
)
